-- The line and the `dropped` entries so far are noted, and there is a place for each that is due.
use Rattle.std.proofs.Common.{◌+◌, ◌≤◌, length}
use Rattle.ug_audit.proofs.StartNoting.{IsGiven}
use Rattle.ug_audit.specs.Journal.{live_in, members}
use Rattle.ug_audit.specs.StartLines.{start_line}
use Rattle.ug_audit.proofs.panel.Panel.note_start.Given as goal

abbrev pub invariant-loop-member : goal.invariant-loop-member
invariant-loop-member g l = record {
  given : IsGiven (start_line l.entry) (members (λ b. (goal.Auditor-dyn g (b.vtable, b.value))) l.fn.self) l.due.items (members (λ b. (goal.Auditor-dyn g (b.vtable, b.value))) l.self);
  few : live_in l.self + length l.due.items ≤ 64;
}

abbrev pub decreases-loop-member : goal.decreases-loop-member
decreases-loop-member g l = live_in l.self + length l.due.items
