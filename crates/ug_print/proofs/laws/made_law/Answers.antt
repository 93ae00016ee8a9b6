use Rattle.ug_print.proofs.Made.{made_is}
use Rattle.ug_print.proofs.laws.made_law.Goals as goal

pub returns : goal.returns
returns c = made_is
