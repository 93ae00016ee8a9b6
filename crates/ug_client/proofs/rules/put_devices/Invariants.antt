use Rattle.std.proofs.Common.{◌≡◌, ◌++◌, drop}
use Rattle.ug_client.specs.Following.{device_lines}
use Rattle.ug_client.proofs.rules.put_devices.Given as goal

abbrev pub invariant-loop-row : goal.invariant-loop-row
invariant-loop-row l = l.out.items ++ device_lines (drop l.row-index l.rows) ≡ l.initial.out.items ++ device_lines l.rows
