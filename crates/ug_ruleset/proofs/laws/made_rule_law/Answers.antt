use Rattle.ug_ruleset.proofs.MadeRules.{made_rule_none, made_rule_some}
use Rattle.ug_ruleset.proofs.laws.made_rule_law.Goals as goal

pub returns : goal.returns
returns c = record { some = made_rule_some; none = made_rule_none }
