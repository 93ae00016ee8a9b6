use Rattle.std.proofs.Common.{◌≡◌, drop}
use Rattle.ug_iface.specs.Named.{is_named_off}
use Rattle.ug_iface.proofs.settle.is_named_off.Given as goal

abbrev pub invariant-loop-rule : goal.invariant-loop-rule
invariant-loop-rule l = is_named_off (drop l.rule-index l.rules) l.device l.triple ≡ is_named_off l.rules l.device l.triple
