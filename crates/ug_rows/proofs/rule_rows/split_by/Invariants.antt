use Rattle.std.proofs.Common.{◌≡◌, take, Some}
use Rattle.ug_rows.specs.RuleRows.{applied_rows, left_rows}
use Rattle.ug_rows.proofs.rule_rows.split_by.Given as goal

abbrev pub invariant-loop-device : goal.invariant-loop-device
invariant-loop-device l = record {
  applied : l.applied.items ≡ applied_rows (Some l.rule) (take l.device-index l.devices);
  left : l.left.items ≡ left_rows (Some l.rule) (take l.device-index l.devices);
}
