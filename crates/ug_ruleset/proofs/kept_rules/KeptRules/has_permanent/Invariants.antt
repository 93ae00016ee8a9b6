use Rattle.std.proofs.Common.{◌≡◌, drop}
use Rattle.ug_ruleset.specs.RulePlaces.{has_permanent}
use Rattle.ug_ruleset.proofs.kept_rules.KeptRules.has_permanent.Given as goal

abbrev pub invariant-loop-entry : goal.invariant-loop-entry
invariant-loop-entry l = has_permanent l.id (drop l.entry-index l.rules) ≡ has_permanent l.id l.rules
