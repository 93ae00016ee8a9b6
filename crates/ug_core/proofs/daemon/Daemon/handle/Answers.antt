use Rattle.std.proofs.Common.{sym, subst}
use Rattle.ug_core.specs.Event.{daemon_of}
use Rattle.ug_types.specs.Events.{FitsEvent}
use Rattle.ug_core.specs.Laws.{HandlesEvent}
use Rattle.ug_types.specs.declared.event.Event.{Event}
use Rattle.ug_core.proofs.daemon.Daemon.handle.Goals as goal

pub handle_lent-requires-clause-piece : goal.handle_lent-requires-clause-piece
handle_lent-requires-clause-piece g c = subst FitsEvent (sym c.lend.ensures) c.requires.piece

pub returns-clause-handles : goal.returns-clause-handles
returns-clause-handles g c = subst (λ (x : Event). HandlesEvent g.Y.Sysfs g.D.RuleDisk x c.args.sysfs.now c.args.disk.now (daemon_of c.args.self.now) c.handle_lent.new.sysfs c.handle_lent.new.disk (daemon_of c.handle_lent.new.self)) c.lend.ensures c.handle_lent.ensures.handles
