use Rattle.ug_rule.specs.Rules.{rule_read, query_read}
use Rattle.ug_rule.proofs.Cases.{some_outcome, one_outcome, not_both}
use Rattle.ug_rule.proofs.laws.one_meaning.Goals as goal

pub returns-clause-some : goal.returns-clause-some
returns-clause-some c = λ line. some_outcome (rule_read line)

pub returns-clause-one_rule : goal.returns-clause-one_rule
returns-clause-one_rule c = λ line a b h k. one_outcome (rule_read line) a b h k

pub returns-clause-not_both : goal.returns-clause-not_both
returns-clause-not_both c = λ line rule fault h k. not_both (rule_read line) rule fault h k

pub returns-clause-some_query : goal.returns-clause-some_query
returns-clause-some_query c = λ line. some_outcome (query_read line)

pub returns-clause-one_query : goal.returns-clause-one_query
returns-clause-one_query c = λ line a b h k. one_outcome (query_read line) a b h k

pub returns-clause-never_both : goal.returns-clause-never_both
returns-clause-never_both c = λ line query fault h k. not_both (query_read line) query fault h k
