use Rattle.std.proofs.Common.{List, Ok, Err, refl, subst}
use Rattle.ug_types.specs.Principals.{Named}
use Rattle.ug_audit.specs.Journal.{members}
use Rattle.ug_core.specs.Event.{daemon_of}
use Rattle.ug_links.specs.Talk.{Talks}
use Rattle.ug_serve.specs.Listening.{listening}
use Rattle.ug_serve.specs.Opening.{started}
use Rattle.ug_serve.specs.Serving.{objects}
use Rattle.ug_serve.specs.Turns.{core_of, turn_world}
use Rattle.ug_serve.proofs.Served.{serves_not, serves_so}
use Rattle.ug_serve.proofs.daemon.serve_started.Goals as goal

pub returns-in-Err-clause-serves : goal.returns-in-Err-clause-serves
returns-in-Err-clause-serves g c =
    serves_not g.Y.Sysfs g.D.RuleDisk g.N.Links g.W.Waiter g.C.Clock
    c.args.turns (started c.args.first.principals (daemon_of c.args.first.daemon)) (objects c.args.sysfs.now c.args.disk.now c.args.links.now c.args.waiter.now c.args.clock.now (members (λ b. goal.Auditor-dyn g (b.vtable, b.value)) c.args.panel.now))
    (Err c.in-Err.why) c.in-Err.why c.status.result c.listen_for_all.new.links refl (subst (λ (l : List Named). Talks g.N.Links.gives c.args.links.now (listening l) (Err c.in-Err.why) c.listen_for_all.new.links) c.as_slice.ensures c.in-Err.ensures.listens) c.status.ensures

pub returns-in-Ok-clause-serves : goal.returns-in-Ok-clause-serves
returns-in-Ok-clause-serves g c =
    let turns = c.serve_turns-end.ensures.turns in
    serves_so g.Y.Sysfs g.D.RuleDisk g.N.Links g.W.Waiter g.C.Clock
    c.args.turns (started c.args.first.principals (daemon_of c.args.first.daemon)) (objects c.args.sysfs.now c.args.disk.now c.args.links.now c.args.waiter.now c.args.clock.now (members (λ b. goal.Auditor-dyn g (b.vtable, b.value)) c.args.panel.now))
    (Ok tt) c.listen_for_all.new.links c.new-server.result turns.0 c.serve_turns-end.result (turn_world (core_of (daemon_of c.serve_turns-end.new.daemon) c.serve_turns-end.new.sysfs c.serve_turns-end.new.disk (members (λ b. goal.Auditor-dyn g (b.vtable, b.value)) c.serve_turns-end.new.panel)) c.serve_turns-end.new.server c.serve_turns-end.new.links c.serve_turns-end.new.waiter c.serve_turns-end.new.clock) c.status_of.result
    refl (subst (λ (l : List Named). Talks g.N.Links.gives c.args.links.now (listening l) (Ok tt) c.listen_for_all.new.links) c.as_slice.ensures c.in-Ok.ensures.listens) c.new-server.ensures.principals c.new-server.ensures.listeners c.new-server.ensures.sessions turns.1 c.status_of.ensures
