use Rattle.ug_lines.specs.Lines.{lines_of}
use Rattle.ug_rule_faults.proofs.BadLines.{bad_line, line_bad}
use Rattle.ug_rule_faults.proofs.BadTexts.{fault-read, read-fault}
use Rattle.ug_rule_faults.proofs.laws.bad_lines_law.Goals as goal

pub returns-clause-lines : goal.returns-clause-lines
returns-clause-lines c = λ line fault. (bad_line line fault, line_bad line fault)

pub returns-clause-texts : goal.returns-clause-texts
returns-clause-texts c = λ text fault. (λ e. fault-read (lines_of text) fault e, λ b. read-fault (lines_of text) fault b)
