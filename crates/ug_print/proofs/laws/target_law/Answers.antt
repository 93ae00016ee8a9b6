use Rattle.ug_print.proofs.Printed.{retargeted, bytes_retargeted}
use Rattle.ug_print.proofs.laws.target_law.Goals as goal

pub returns : goal.returns
returns c = record { well_formed = retargeted; bytes = bytes_retargeted }
