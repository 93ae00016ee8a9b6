use Rattle.std.proofs.Common.{rules, ◌≡◌, true, subst}
use Rattle.ug_store.specs.Scripted.{DiskWorld}
use Rattle.ug_core.specs.Event.{daemon_of, has_numbers}
use Rattle.ug_core.specs.Stops.{IsReadable}
use Rattle.ug_script.specs.Journal.{happened_from}
use Rattle.ug_script.specs.Replay.{came_of, event_from}
use Rattle.ug_script.specs.Taking.{StepsToTell, reported}
use Rattle.ug_script.proofs.events.next_event.Goals as goal

pub returns-in-Ok-clause-ran : goal.returns-in-Ok-clause-ran
returns-in-Ok-clause-ran c =
    let numbers : has_numbers (daemon_of c.args.session.now.daemon) c.args.kernel.now.faults c.args.session.now.disk.faults ≡ true = search rules in
    rw numbers (subst (λ (o : DiskWorld). StepsToTell (came_of c.args.setup.now c.args.plan.now (event_from c.args.event.now (daemon_of c.args.session.now.daemon) c.args.kernel.now o)) (record { daemon = daemon_of c.play_event.new.session.daemon; world = c.play_event.new.kernel; disk = c.play_event.new.session.disk }) (reported c.play_event.new.session.daemon.report) c.play_event.result)
    c.in-Ok.ensures.ok c.play_event.ensures.ran)

pub returns-in-Ok-clause-readable : goal.returns-in-Ok-clause-readable
returns-in-Ok-clause-readable c done =
    subst (λ (o : DiskWorld). IsReadable (happened_from c.args.event.now (daemon_of c.args.session.now.daemon) c.args.kernel.now o)) c.in-Ok.ensures.ok (c.play_event.ensures.readable done)
