use Rattle.std.proofs.Common.{◌≡◌, drop}
use Rattle.ug_arguments.specs.Values.{is_line}
use Rattle.ug_arguments.proofs.values.is_line.Given as goal

abbrev pub invariant-loop-byte : goal.invariant-loop-byte
invariant-loop-byte l = is_line (drop l.byte-index l.bytes) ≡ is_line l.bytes
