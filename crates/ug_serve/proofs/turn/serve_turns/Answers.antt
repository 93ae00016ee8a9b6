use Rattle.std.proofs.Common.{[], refl, arith}
use Rattle.ug_audit.specs.Journal.{members}
use Rattle.ug_core.specs.Event.{daemon_of}
use Rattle.ug_serve.specs.Turns.{core_of, turn_world}
use Rattle.ug_serve.proofs.Running.{turns_one, turns_cut}
use Rattle.ug_serve.proofs.turn.serve_turns.Goals as goal

pub loop-i-init : goal.loop-i-init
loop-i-init g c = record { made = ([], refl, tt, refl); counted = omega arith }

pub loop-i-preserved : goal.loop-i-preserved
loop-i-preserved g c = record {
  made = turns_one g.Y.Sysfs g.D.RuleDisk g.N.Links g.W.Waiter g.C.Clock c.loop-i.i
      (turn_world (core_of (daemon_of c.args.daemon.now) c.args.sysfs.now c.args.disk.now (members (λ b. goal.Auditor-dyn g (b.vtable, b.value)) c.args.panel.now)) c.args.server.now c.args.links.now c.args.waiter.now c.args.clock.now)
      (turn_world (core_of (daemon_of c.loop-i.daemon) c.loop-i.sysfs c.loop-i.disk (members (λ b. goal.Auditor-dyn g (b.vtable, b.value)) c.loop-i.panel)) c.loop-i.server c.loop-i.links c.loop-i.waiter c.loop-i.clock)
      (turn_world (core_of (daemon_of c.serve_turn.new.daemon) c.serve_turn.new.sysfs c.serve_turn.new.disk (members (λ b. goal.Auditor-dyn g (b.vtable, b.value)) c.serve_turn.new.panel)) c.serve_turn.new.server c.serve_turn.new.links c.serve_turn.new.waiter c.serve_turn.new.clock)
      c.loop-i.invariant.made c.in-Done.ensures.turn;
  counted = omega (arith, c.in-Done.ensures.counted);
}

pub returns-in-Numbers-clause-turns : goal.returns-in-Numbers-clause-turns
returns-in-Numbers-clause-turns g c =
    let so = c.loop-i.invariant.made in
    turns_cut g.Y.Sysfs g.D.RuleDisk g.N.Links g.W.Waiter g.C.Clock c.args.turns
    (turn_world (core_of (daemon_of c.args.daemon.now) c.args.sysfs.now c.args.disk.now (members (λ b. goal.Auditor-dyn g (b.vtable, b.value)) c.args.panel.now)) c.args.server.now c.args.links.now c.args.waiter.now c.args.clock.now)
    (turn_world (core_of (daemon_of c.loop-i.daemon) c.loop-i.sysfs c.loop-i.disk (members (λ b. goal.Auditor-dyn g (b.vtable, b.value)) c.loop-i.panel)) c.loop-i.server c.loop-i.links c.loop-i.waiter c.loop-i.clock)
    (turn_world (core_of (daemon_of c.serve_turn.new.daemon) c.serve_turn.new.sysfs c.serve_turn.new.disk (members (λ b. goal.Auditor-dyn g (b.vtable, b.value)) c.serve_turn.new.panel)) c.serve_turn.new.server c.serve_turn.new.links c.serve_turn.new.waiter c.serve_turn.new.clock)
    so.0 (omega (arith, so.1, c.loop-i-test.true)) so.2 so.3 c.in-Numbers.ensures.turn

pub returns-in-WaitFailed-clause-turns : goal.returns-in-WaitFailed-clause-turns
returns-in-WaitFailed-clause-turns g c =
    let so = c.loop-i.invariant.made in
    (so.0, (turn_world (core_of (daemon_of c.loop-i.daemon) c.loop-i.sysfs c.loop-i.disk (members (λ b. goal.Auditor-dyn g (b.vtable, b.value)) c.loop-i.panel)) c.loop-i.server c.loop-i.links c.loop-i.waiter c.loop-i.clock, (omega (arith, so.1, c.loop-i-test.true), so.2, so.3), c.in-WaitFailed.ensures.turn))
