use Rattle.std.proofs.Common.{◌≡◌, take}
use Rattle.ug_table.proofs.query.same_items.Given as goal

-- what was compared so far
abbrev pub invariant-loop-i : goal.invariant-loop-i
invariant-loop-i g l = take l.i l.one ≡ take l.i l.other
