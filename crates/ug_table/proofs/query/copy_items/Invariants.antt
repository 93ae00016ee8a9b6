use Rattle.std.proofs.Common.{◌≡◌, take}
use Rattle.ug_table.proofs.query.copy_items.Given as goal

-- what was copied so far
abbrev pub invariant-loop-item : goal.invariant-loop-item
invariant-loop-item g l = l.made ≡ take l.item-index l.items
