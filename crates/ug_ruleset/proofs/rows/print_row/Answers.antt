use Rattle.std.proofs.Common.{arith}
use Rattle.ug_ruleset.proofs.RowLines.{row_line}
use Rattle.ug_ruleset.proofs.rows.print_row.Goals as goal

pub returns-clause-one_line : goal.returns-clause-one_line
returns-clause-one_line c = λ h. row_line c.args.number c.args.text.now (omega arith) h
