use Rattle.ug_rule.proofs.TextLines.{blank_line, line_blank, line_rule, rule_line}
use Rattle.ug_rule.proofs.laws.text_lines_law.Goals as goal

pub returns-clause-blank : goal.returns-clause-blank
returns-clause-blank c = λ line. (blank_line line, line_blank line)

pub returns-clause-rules : goal.returns-clause-rules
returns-clause-rules c = λ line rule. (line_rule line rule, rule_line line rule)
