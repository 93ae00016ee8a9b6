use Rattle.std.proofs.Common.{◌≡◌, ◌≤◌, take}
use Rattle.ug_types.specs.Names.{depth_of}
use Rattle.ug_types.proofs.marks.count_marks.Given as goal

abbrev pub invariant-loop-byte : goal.invariant-loop-byte
invariant-loop-byte l = (l.count ≡ depth_of (take l.byte-index l.text)) × (l.count ≤ l.byte-index)
