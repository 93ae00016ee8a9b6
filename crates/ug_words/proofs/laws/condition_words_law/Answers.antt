use Rattle.ug_words.specs.declared.keywords.CondName.TheVariants as condition
use Rattle.ug_words.proofs.KeywordTables.{condition_is, if_is}
use Rattle.ug_words.proofs.laws.condition_words_law.Goals as goal

pub returns-clause-localtime : goal.returns-clause-localtime
returns-clause-localtime c = condition_is condition.LocalTime

pub returns-clause-allowed_matches : goal.returns-clause-allowed_matches
returns-clause-allowed_matches c = condition_is condition.AllowedMatches

pub returns-clause-rule_applied : goal.returns-clause-rule_applied
returns-clause-rule_applied c = condition_is condition.RuleApplied

pub returns-clause-rule_evaluated : goal.returns-clause-rule_evaluated
returns-clause-rule_evaluated c = condition_is condition.RuleEvaluated

pub returns-clause-random : goal.returns-clause-random
returns-clause-random c = condition_is condition.Random

pub returns-clause-always : goal.returns-clause-always
returns-clause-always c = condition_is condition.True

pub returns-clause-never : goal.returns-clause-never
returns-clause-never c = condition_is condition.False

pub returns-clause-begins : goal.returns-clause-begins
returns-clause-begins c = if_is
