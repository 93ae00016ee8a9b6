use Rattle.ug_rule.proofs.RuleCuts.{line_says, says_line, line_asks, asks_line, well_formed, read_well}
use Rattle.ug_rule.proofs.laws.lines_law.Goals as goal

pub returns-clause-rules : goal.returns-clause-rules
returns-clause-rules c = λ line rule. (line_says line rule, says_line line rule)

pub returns-clause-queries : goal.returns-clause-queries
returns-clause-queries c = λ line query. (line_asks line query, asks_line line query)

pub returns-clause-well_formed : goal.returns-clause-well_formed
returns-clause-well_formed c = λ rule. (well_formed rule, read_well rule)
