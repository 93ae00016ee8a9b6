use Rattle.std.proofs.Common.{◌≡◌, ◌-◌, map}
use Rattle.ug_lines.specs.Splitting.{AreLines}
use Rattle.ug_core.specs.DeviceRows.{by_number, device_row}
use Rattle.ug_core.proofs.RowWalk.{passed}
use Rattle.ug_core.proofs.device_list.list_devices.Given as goal

abbrev pub invariant-loop-s : goal.invariant-loop-s
invariant-loop-s l = record {
  rows : l.rows ≡ map device_row (passed l.from (by_number l.table.standings));
  one_line : AreLines l.rows;
}

abbrev pub decreases-loop-s : goal.decreases-loop-s
decreases-loop-s l = l.table.next - l.from
