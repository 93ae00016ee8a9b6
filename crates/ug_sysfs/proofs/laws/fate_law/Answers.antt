use Rattle.ug_sysfs.proofs.Fates.{fate_last, fate_other}
use Rattle.ug_sysfs.proofs.laws.fate_law.Goals as goal

pub returns-clause-last : goal.returns-clause-last
returns-clause-last c = fate_last

pub returns-clause-other : goal.returns-clause-other
returns-clause-other c = fate_other
