use Rattle.std.proofs.Common.{◌≡◌, take}
use Rattle.ug_rows.specs.Rows.{matching_numbers}
use Rattle.ug_rows.proofs.matching.matching_numbers.Given as goal

abbrev pub invariant-loop-row : goal.invariant-loop-row
invariant-loop-row l = l.numbers.items ≡ matching_numbers l.query (take l.row-index l.list)
