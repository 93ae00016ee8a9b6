use Rattle.std.proofs.Common.{◌≡◌, drop}
use Rattle.std.specs.List.{find}
use Rattle.ug_rows.specs.Contrary.{is_row_of}
use Rattle.ug_rows.proofs.contrary.row_of.Given as goal

abbrev pub invariant-loop-row : goal.invariant-loop-row
invariant-loop-row l = find (is_row_of l.number) (drop l.row-index l.devices) ≡ find (is_row_of l.number) l.devices
