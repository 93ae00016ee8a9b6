use Rattle.std.proofs.Common.{rules, arith}
use Rattle.std.proofs.lemmas.Grind.{common_steps}
use Rattle.ug_table.proofs.Faults.{sweeping_tells}
use Rattle.ug_table.proofs.Once.{told_once}
use Rattle.ug_table.proofs.Swept.{told_swept}
use Rattle.ug_table.proofs.table.Table.sweep.Goals as goal

pub returns-clause-runs : goal.returns-clause-runs
returns-clause-runs g c = first_of (search rules, grind (arith, common_steps))

pub returns-clause-swept : goal.returns-clause-swept
returns-clause-swept g c = told_swept g.Y.Sysfs.gives g.Y.Sysfs.told g.met.Y.Sysfs.did g.A.Judge.answer g.A.Judge.later _ _ _ _ (returns-clause-runs g c)

pub returns-clause-faults : goal.returns-clause-faults
returns-clause-faults g c = sweeping_tells g.Y.Sysfs.gives g.Y.Sysfs.calls g.Y.Sysfs.faults g.met.Y.Sysfs.counted g.A.Judge.answer g.A.Judge.later _ _ _ _ (returns-clause-runs g c)

pub returns-clause-once : goal.returns-clause-once
returns-clause-once g c = told_once g.Y.Sysfs.gives g.Y.Sysfs.told g.met.Y.Sysfs.did g.A.Judge.answer g.A.Judge.later _ _ _ _ (returns-clause-runs g c)
