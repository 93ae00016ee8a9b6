use Rattle.std.proofs.Common.{◌≡◌, drop}
use Rattle.ug_ruleset.specs.RulePlaces.{has_rule}
use Rattle.ug_ruleset.proofs.kept_rules.KeptRules.has_rule.Given as goal

abbrev pub invariant-loop-entry : goal.invariant-loop-entry
invariant-loop-entry l = has_rule l.id (drop l.entry-index l.rules) ≡ has_rule l.id l.rules
