use Rattle.ug_sysfs.specs.IfaceBirth.{iface_added, iface_gone, iface_nobody, iface_refused}
use Rattle.ug_sysfs.proofs.laws.iface_law.Goals as goal

pub returns-clause-added : goal.returns-clause-added
returns-clause-added c = iface_added

pub returns-clause-refused : goal.returns-clause-refused
returns-clause-refused c = iface_refused

pub returns-clause-gone : goal.returns-clause-gone
returns-clause-gone c = iface_gone

pub returns-clause-nobody : goal.returns-clause-nobody
returns-clause-nobody c = iface_nobody
