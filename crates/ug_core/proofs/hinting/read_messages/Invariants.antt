-- Some of the messages were read, and there is room for the others.
use Rattle.std.proofs.Common.{◌≡◌, ◌+◌, ◌≤◌, length, vec_capacity}
use Rattle.ug_audit.specs.Journal.{noted_in, SameEntries}
use Rattle.ug_core.proofs.Pieces.{ReadSoFar}
use Rattle.ug_core.proofs.hinting.read_messages.Given as goal

abbrev pub invariant-loop-answer : goal.invariant-loop-answer
invariant-loop-answer g l = record {
  so : ReadSoFar l.fn.hints.messages l.hints.messages l.names.items (noted_in l.fn.out).entries (noted_in l.out).entries;
  begun : l.hints.begun ≡ l.fn.hints.begun;
  few : length l.names.items + length l.hints.messages ≤ length l.fn.hints.messages;
  capacity : vec_capacity l.names ≡ vec_capacity l.fn.names;
  same : SameEntries (λ b. (goal.Auditor-dyn g (b.vtable, b.value))) l.fn.out l.out;
  room : (noted_in l.out).room ≡ (noted_in l.fn.out).room;
  spare : (noted_in l.fn.out).spare + length l.hints.messages ≤ (noted_in l.out).spare + length l.fn.hints.messages;
}

abbrev pub decreases-loop-answer : goal.decreases-loop-answer
decreases-loop-answer g l = length l.hints.messages
