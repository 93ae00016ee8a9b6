use Rattle.std.proofs.Common.{◌≡◌, ◌+◌, drop, length}
use Rattle.ug_proto.specs.Splitting.{word_in_front}
use Rattle.ug_proto.proofs.split.word_length.Given as goal

abbrev pub invariant-loop-i : goal.invariant-loop-i
invariant-loop-i l = l.i + length (word_in_front (drop l.i l.text)) ≡ length (word_in_front l.text)
