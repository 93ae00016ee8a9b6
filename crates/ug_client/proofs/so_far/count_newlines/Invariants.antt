use Rattle.std.proofs.Common.{◌≡◌, take}
use Rattle.ug_client.specs.ReadSoFar.{newlines}
use Rattle.ug_client.proofs.so_far.count_newlines.Given as goal

abbrev pub invariant-loop-byte : goal.invariant-loop-byte
invariant-loop-byte l = l.count ≡ newlines (take l.byte-index l.bytes)
