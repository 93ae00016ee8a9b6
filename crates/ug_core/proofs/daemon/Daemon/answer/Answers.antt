use Rattle.std.proofs.Common.{Option, sym, subst, ◌∙◌, arith}
use Rattle.std.specs.Prelude.{IfSome}
use Rattle.ug_proto.specs.declared.reply.Reply.{Reply}
use Rattle.ug_core.specs.Answering.{HasWholeLines}
use Rattle.ug_core.proofs.Pieces.{fits_sweep}
use Rattle.ug_core.proofs.daemon.Daemon.answer.Goals as goal

pub returns-in-Sweep-clause-whole : goal.returns-in-Sweep-clause-whole
returns-in-Sweep-clause-whole g c = subst (λ (r : Option Reply). IfSome r (λ (x : Reply). HasWholeLines x)) (sym c.requires.silent) tt

pub returns-in-Sweep-clause-fits : goal.returns-in-Sweep-clause-fits
returns-in-Sweep-clause-fits g c = fits_sweep _ _ _ _ _ c.requires.undue (omega (arith, c.requires.spare)) (omega (arith, c.args.self.now.room))

pub returns-in-Order-clause-fits : goal.returns-in-Order-clause-fits
returns-in-Order-clause-fits g c =
    let notes = c.answer_order.ensures.notes in
    fits_sweep _ _ _ _ _ (notes.due ∙ c.requires.undue) (omega (arith, c.requires.spare, notes.spare, notes.standings)) (omega (arith, c.answer_order.new.self.room))

pub returns-in-Hint-clause-whole : goal.returns-in-Hint-clause-whole
returns-in-Hint-clause-whole g c = subst (λ (r : Option Reply). IfSome r (λ (x : Reply). HasWholeLines x)) (sym (c.meet_piece.ensures.reply ∙ c.requires.silent)) tt
