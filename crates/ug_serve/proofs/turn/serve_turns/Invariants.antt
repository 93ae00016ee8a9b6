use Rattle.std.proofs.Common.{◌≡◌, ◌≤◌, List, length}
use Rattle.ug_audit.specs.Journal.{members}
use Rattle.ug_core.specs.Event.{daemon_of}
use Rattle.ug_serve.specs.Turns.{Turned, AreWhole, Turns, core_of, turn_world}
use Rattle.ug_serve.proofs.turn.serve_turns.Given as goal

-- so many turns were made
abbrev pub invariant-loop-i : goal.invariant-loop-i
invariant-loop-i g l = record {
  made : (made : List Turned) × (length made ≡ l.i) × AreWhole made × Turns g.Y.Sysfs g.D.RuleDisk g.N.Links g.W.Waiter g.C.Clock
      (turn_world (core_of (daemon_of l.fn.daemon) l.fn.sysfs l.fn.disk (members (λ b. goal.Auditor-dyn g (b.vtable, b.value)) l.fn.panel)) l.fn.server l.fn.links l.fn.waiter l.fn.clock) made
      (turn_world (core_of (daemon_of l.daemon) l.sysfs l.disk (members (λ b. goal.Auditor-dyn g (b.vtable, b.value)) l.panel)) l.server l.links l.waiter l.clock);
  counted : g.W.Waiter.faults l.fn.waiter ≤ g.W.Waiter.faults l.waiter;
}
