use Rattle.ug_print.proofs.Printed.{apart, on_line, printed}
use Rattle.ug_print.proofs.laws.printed_law.Goals as goal

pub returns : goal.returns
returns c = record { one_line = on_line; read = printed; apart = apart }
