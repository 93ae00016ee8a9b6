use Rattle.std.proofs.Common.{Some, refl}
use Rattle.ug_core.specs.Event.{daemon_of}
use Rattle.ug_serve.proofs.events.serve_order.Goals as goal

pub returns : goal.returns
returns g c = (
  record { asked_by = Some c.args.id; event = c.args.order.now; after = daemon_of c.handle.new.self; entries = c.handle.new.self.report.entries.entries },
  refl,
  refl,
  record { room = c.requires.numbers; handled = c.handle.ensures.handles; after = refl; entries = refl; noted = c.handle.ensures.noted },
  c.respond.ensures,
)
