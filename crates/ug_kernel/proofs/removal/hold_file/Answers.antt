use Rattle.ug_kernel.proofs.Laws.{told_holds, hold_fault}
use Rattle.ug_kernel.proofs.removal.hold_file.Goals as goal

pub returns-clause-law : goal.returns-clause-law
returns-clause-law g c = told_holds g.Y.Sysfs.gives g.Y.Sysfs.told g.met.Y.Sysfs.did _ _ _ _ _ _ c.requires c.open_file.ensures

pub returns-clause-fault : goal.returns-clause-fault
returns-clause-fault g c = hold_fault g.Y.Sysfs.gives g.Y.Sysfs.calls g.Y.Sysfs.faults g.met.Y.Sysfs.counted _ _ _ _ _ _ c.open_file.ensures
