use Rattle.std.proofs.Common.{[], Some, refl}
use Rattle.ug_command_io.specs.declared.machine.Ran.TheVariants.{Done}
use Rattle.ug_core.specs.Event.{daemon_of}
use Rattle.ug_sysfs.specs.World.{over}
use Rattle.ug_script.specs.Replay.{Played}
use Rattle.ug_script.proofs.EventSteps.{stopped_steps}
use Rattle.ug_script.proofs.events.stop_event.Goals as goal

pub returns-in-Ok-clause-ran : goal.returns-in-Ok-clause-ran
returns-in-Ok-clause-ran c = λ w.
    let p : Played = record { daemon = daemon_of c.args.session.now.daemon; world = w; disk = c.args.session.now.disk } in
    stopped_steps c.args.setup.now c.args.call p (daemon_of c.restart_behind.new.session.daemon) (over w) c.restart_behind.new.session.disk (Some []) (Some c.in-Ok.text.items) Done refl c.in-Ok.ensures.started c.in-Ok.ensures.read c.in-Ok.ensures.text
