-- The entry and the `dropped` entries so far are noted, and there is a place for each that is due.
use Rattle.std.proofs.Common.{◌≡◌, ◌+◌, ◌≤◌, length}
use Rattle.ug_audit.proofs.Pushing.{IsPushed}
use Rattle.ug_audit.specs.Journal.{live_in}
use Rattle.ug_audit.proofs.journal.Journal.push.Given as goal

abbrev pub invariant-loop-member : goal.invariant-loop-member
invariant-loop-member g l = record {
  panel : l.self.panel.ghost_name ≡ l.fn.self.panel.ghost_name;
  entries : l.self.entries.ghost_name ≡ l.fn.self.entries.ghost_name;
  pushed : IsPushed (λ b. (goal.Auditor-dyn g (b.vtable, b.value))) l.fn.entry l.fn.self l.due.items l.self;
  spare : l.self.entries.now.spare + 1 + live_in l.fn.self.panel.now ≡ l.fn.self.entries.now.spare + live_in l.self.panel.now + length l.due.items;
  room : l.self.entries.now.room ≡ l.fn.self.entries.now.room;
  few : live_in l.self.panel.now + length l.due.items ≤ 64;
}

abbrev pub decreases-loop-member : goal.decreases-loop-member
decreases-loop-member g l = live_in l.self.panel.now + length l.due.items
