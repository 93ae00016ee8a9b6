use Rattle.ug_script.proofs.Births.{stays_born}
use Rattle.ug_script.proofs.laws.births_law.Goals as goal

pub returns : goal.returns
returns c = stays_born
