use Rattle.std.proofs.Common.{◌≡◌, ◌++◌, drop}
use Rattle.ug_rows.specs.Contrary.{contrary_rows}
use Rattle.ug_rows.proofs.contrary.contrary_rows.Given as goal

abbrev pub invariant-loop-row : goal.invariant-loop-row
invariant-loop-row l = l.found.items ++ contrary_rows l.target l.device (drop l.row-index l.rules) ≡ contrary_rows l.target l.device l.rules
