use Rattle.std.proofs.Common.{◌∙◌, ap, sym, subst, arith, not, List}
use Rattle.ug_table.specs.declared.standing.Standing.{Standing}
use Rattle.ug_table.specs.Standings.{named, same_name}
use Rattle.ug_table.specs.Watched.{AnswersFor}
use Rattle.ug_table.specs.Slots.{Store, filled}
use Rattle.ug_table.proofs.Agreement.{agree_forget, without_absent, without_few}
use Rattle.ug_table.proofs.Watched.{answers_kept}
use Rattle.std.proofs.Common.{length}
use Rattle.ug_table.proofs.kept.Standings.forget.Goals as goal

pub returns-in-None : goal.returns-in-None
returns-in-None c = record { len = omega arith; items = sym (without_absent c.args.name.now c.args.self.now.items (ap (λ (k : Store). named c.args.name.now k.items) (sym c.self.view_is) ∙ sym c.in-None.ensures)) }

pub invariant_of-self : goal.invariant_of-self
invariant_of-self c = (
  agree_forget c.self.inside.by_name c.forget.new.slots c.self.inside.by_number c.remove-number.new.self c.self.inside.place c.self.inside.retry.items c.note_mark.new.retry.items _ _ c.args.name.now c.in-Some.s.now c.self.invariant.0 (sym c.in-Some.ensures) c.forget.ensures.items c.forget.ensures.ordered c.forget.ensures.bear c.forget.ensures.empty c.forget.ensures.len c.remove-number.ensures.updates.0 c.note_mark.ensures.items c.note_mark.ensures.capacity,
  subst (λ (v : List Standing). AnswersFor c.self.inside.watch v) (sym c.forget.ensures.items) (answers_kept c.self.inside.watch (filled c.self.inside.by_name.entries) (λ (s : Standing). not (same_name s.name c.args.name.now)) c.self.invariant.1),
)

pub returns-clause-len : goal.returns-clause-len
returns-clause-len c =
    let now = ap length c.forget.ensures.items in
    let few = without_few c.args.name.now (filled c.self.inside.by_name.entries) in
    let same = ap (λ (k : Store). length k.items) c.self.view_is in
    omega (arith, now, few, same)
