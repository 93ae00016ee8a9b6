use Rattle.ug_sysfs.proofs.RanOut.{stays_out}
use Rattle.ug_sysfs.proofs.laws.ran_out_law.Goals as goal

pub returns : goal.returns
returns c = stays_out
