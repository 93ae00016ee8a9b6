use Rattle.std.proofs.Common.{◌≤◌, ◌+◌, take}
use Rattle.ug_uevent.specs.Counts.{CountsStream}
use Rattle.ug_uevent.specs.Streams.{Stream, stream_with_piece}
use Rattle.ug_uevent.proofs.count.pass_all.Given as goal

abbrev pub invariant-loop-byte : goal.invariant-loop-byte
invariant-loop-byte l = record {
  counts : (s : Stream) → CountsStream l.fn.progress s → CountsStream l.now (stream_with_piece s (take l.byte-index l.bytes));
  few : l.now.messages ≤ l.fn.progress.messages + l.byte-index;
}
