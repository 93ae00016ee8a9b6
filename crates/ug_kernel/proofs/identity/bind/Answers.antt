use Rattle.ug_kernel.proofs.Laws.{told_binds, told_fault}
use Rattle.ug_kernel.proofs.CallOrders.{told_order}
use Rattle.ug_kernel.proofs.identity.bind.Goals as goal

pub returns-clause-law : goal.returns-clause-law
returns-clause-law g c = told_binds g.Y.Sysfs.gives g.Y.Sysfs.told g.met.Y.Sysfs.did _ _ _ _ _ c.parent.ensures c.bind_below.ensures

pub returns-clause-fault : goal.returns-clause-fault
returns-clause-fault g c = told_fault g.Y.Sysfs.gives g.Y.Sysfs.calls g.Y.Sysfs.faults g.met.Y.Sysfs.counted _ _ _ _ _ c.parent.ensures c.bind_below.ensures

pub returns-clause-order : goal.returns-clause-order
returns-clause-order g c = told_order g.Y.Sysfs.gives _ _ _ _ _ c.parent.ensures c.bind_below.ensures
