use Rattle.std.proofs.Common.{◌≡◌, drop}
use Rattle.ug_ruleset.specs.RulePlaces.{made_rule}
use Rattle.ug_ruleset.proofs.kept_rules.find_made.Given as goal

abbrev pub invariant-loop-entry : goal.invariant-loop-entry
invariant-loop-entry l = made_rule l.device l.with_port (drop l.entry-index l.rules) ≡ made_rule l.device l.with_port l.rules
