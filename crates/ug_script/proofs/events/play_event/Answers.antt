use Rattle.std.proofs.Common.{rules, ◌≡◌, [], Some, sym, ◌∙◌}
use Rattle.ug_core.specs.Event.{daemon_of}
use Rattle.ug_script.specs.Replay.{Played, event_from}
use Rattle.ug_script.specs.Taking.{ran_of, reported, text_to_write}
use Rattle.ug_script.proofs.EventSteps.{came_ended, came_stopped, event_fixed}
use Rattle.ug_script.proofs.events.play_event.Goals as goal

pub returns-then-stopped-clause-ran : goal.returns-then-stopped-clause-ran
returns-then-stopped-clause-ran c =
    let p : Played = record { daemon = daemon_of c.handle.new.session.daemon; world = c.handle.new.kernel; disk = c.handle.new.session.disk } in
    let x : Played = event_from c.args.event.now (daemon_of c.args.session.now.daemon) c.args.kernel.now c.args.session.now.disk in
    let same : p ≡ x = event_fixed c.args.event.now (daemon_of c.args.session.now.daemon) c.args.kernel.now c.args.session.now.disk p.daemon p.world p.disk c.handle.ensures.played (search rules) (search rules) (search rules) in
    came_stopped c.args.setup.now c.args.plan.now p x c.first_stop-call.result (daemon_of c.stop_event.new.session.daemon) c.end_event.new.self c.stop_event.new.session.disk (Some []) (Some (text_to_write (reported c.stop_event.new.session.daemon.report) c.stop_event.result)) (ran_of c.stop_event.result) same (sym c.stopped.ensures ∙ c.if-stopped.true) (search rules) c.end_event.ensures (c.stop_event.ensures.ran p.world)

pub returns-clause-ran : goal.returns-clause-ran
returns-clause-ran c =
    let p : Played = record { daemon = daemon_of c.handle.new.session.daemon; world = c.handle.new.kernel; disk = c.handle.new.session.disk } in
    let x : Played = event_from c.args.event.now (daemon_of c.args.session.now.daemon) c.args.kernel.now c.args.session.now.disk in
    let same : p ≡ x = event_fixed c.args.event.now (daemon_of c.args.session.now.daemon) c.args.kernel.now c.args.session.now.disk p.daemon p.world p.disk c.handle.ensures.played (search rules) (search rules) (search rules) in
    came_ended c.args.setup.now c.args.plan.now p x (daemon_of c.finish_event.new.session.daemon) c.finish_event.new.kernel c.finish_event.new.session.disk (Some []) (Some (text_to_write (reported c.finish_event.new.session.daemon.report) c.finish_event.result)) (ran_of c.finish_event.result) same (sym c.stopped.ensures ∙ c.if-stopped.false) c.finish_event.ensures.ran

pub returns-then-stopped-clause-readable : goal.returns-then-stopped-clause-readable
returns-then-stopped-clause-readable c done = c.handle.ensures.readable (search rules) (search rules) (search rules)

pub returns-clause-readable : goal.returns-clause-readable
returns-clause-readable c done = c.handle.ensures.readable (search rules) (search rules) (search rules)
