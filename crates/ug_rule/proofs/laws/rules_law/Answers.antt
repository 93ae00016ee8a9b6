use Rattle.ug_rule.proofs.RuleCuts.{rule_cut, rule_reads, whole_cut, whole_reads}
use Rattle.ug_rule.proofs.laws.rules_law.Goals as goal

pub returns-clause-rules : goal.returns-clause-rules
returns-clause-rules c = λ line rule tokens. (rule_cut line rule tokens, rule_reads line rule tokens)

pub returns-clause-queries : goal.returns-clause-queries
returns-clause-queries c = λ line query tokens. (whole_cut line query tokens, whole_reads line query tokens)
