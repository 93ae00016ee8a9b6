use Rattle.std.proofs.Common.{◌≤◌, ◌<◌, ◌-◌, ◌^◌}
use Rattle.ug_types.specs.Elements.{Has}
use Rattle.ug_table.specs.declared.standing.Standing.{Standing}
use Rattle.ug_table.specs.Slots.{filled}
use Rattle.ug_table.proofs.kept.Standings.first_after.Given as goal

-- no standing has a number above the first and up to this one
abbrev pub invariant-loop-at : goal.invariant-loop-at
invariant-loop-at l = (l.number ≤ l.from) × ((s : Standing) → Has (filled l.self-inside.by_name.entries) s → l.number < s.number → l.from < s.number)

abbrev pub decreases-loop-at : goal.decreases-loop-at
decreases-loop-at l = 2 ^ 64 - l.from
