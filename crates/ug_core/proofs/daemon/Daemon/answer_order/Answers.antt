use Rattle.std.proofs.Common.{Option, sym, subst}
use Rattle.std.specs.Prelude.{IfSome}
use Rattle.ug_proto.specs.declared.reply.Reply.{Reply}
use Rattle.ug_core.specs.Answering.{HasWholeLines}
use Rattle.ug_core.specs.Event.{daemon_of}
use Rattle.ug_core.proofs.Noted.{notes_then}
use Rattle.ug_core.proofs.Written.{order_writes}
use Rattle.ug_core.proofs.daemon.Daemon.answer_order.Goals as goal

pub returns-clause-notes : goal.returns-clause-notes
returns-clause-notes g c =
    notes_then (notes_then c.store-stored.ensures.notes c.carry_out-reply.ensures.notes) c.reply.ensures.notes

pub returns-clause-written : goal.returns-clause-written
returns-clause-written g c =
    order_writes g.Y.Sysfs.gives g.D.RuleDisk.keeps c.args.who.now c.args.line.now (daemon_of c.args.self.now) c.choose-change.result c.args.sysfs.now c.choose-change.new.sysfs c.args.disk.now c.store-stored.new.disk c.store-stored.result c.choose-change.ensures.runs c.store-stored.ensures.runs c.store-stored.ensures.written

pub returns-clause-whole : goal.returns-clause-whole
returns-clause-whole g c = subst (λ (r : Option Reply). IfSome r (λ (x : Reply). HasWholeLines x)) (sym c.reply.ensures.reply) c.carry_out-reply.ensures.whole
