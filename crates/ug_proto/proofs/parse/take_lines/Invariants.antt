use Rattle.std.proofs.Common.{◌≡◌, ◌++◌, length}
use Rattle.ug_proto.specs.Replies.{ended_lines, AreWholeLines}
use Rattle.ug_proto.proofs.parse.take_lines.Given as goal

abbrev pub invariant-loop-i : goal.invariant-loop-i
invariant-loop-i l = record {
  whole : AreWholeLines l.lines;
  count : length l.lines ≡ l._i;
  text : l.text ≡ ended_lines l.lines ++ l.rest;
}
