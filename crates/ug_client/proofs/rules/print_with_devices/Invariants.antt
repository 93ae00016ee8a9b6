use Rattle.std.proofs.Common.{◌≡◌, ◌++◌, drop}
use Rattle.ug_client.specs.Following.{rules_lines}
use Rattle.ug_client.proofs.rules.print_with_devices.Given as goal

abbrev pub invariant-loop-row : goal.invariant-loop-row
invariant-loop-row l = l.out.items ++ rules_lines l.label (drop l.row-index l.rules) l.left.items ≡ rules_lines l.label l.rules l.devices
