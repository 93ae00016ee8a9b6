use Rattle.ug_lines.specs.Lines.{lines_of}
use Rattle.ug_lines.proofs.TextLines.{text_lines}
use Rattle.ug_rule.proofs.Texts.{rules-read, read-rules}
use Rattle.ug_rule.proofs.laws.text_law.Goals as goal

pub returns-clause-lines : goal.returns-clause-lines
returns-clause-lines c = text_lines

pub returns-clause-rules : goal.returns-clause-rules
returns-clause-rules c = λ text rules. (λ e. rules-read (lines_of text) rules e, λ r. read-rules (lines_of text) rules r)
