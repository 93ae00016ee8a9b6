use Rattle.std.proofs.Common.{◌≡◌, drop}
use Rattle.ug_arguments.specs.Values.{are_word_bytes}
use Rattle.ug_arguments.proofs.values.are_word_bytes.Given as goal

abbrev pub invariant-loop-byte : goal.invariant-loop-byte
invariant-loop-byte l = are_word_bytes (drop l.byte-index l.bytes) ≡ are_word_bytes l.bytes
