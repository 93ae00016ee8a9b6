use Rattle.std.proofs.Common.{subst}
use Rattle.ug_table.specs.Table.{TableState}
use Rattle.ug_table.specs.Order.{StandInOrder}
use Rattle.ug_table.proofs.One.{run_leaves, settling_part, told_settles}
use Rattle.ug_table.proofs.table.Table.settle.Goals as goal

pub returns-clause-part : goal.returns-clause-part
returns-clause-part g c = settling_part g.Y.Sysfs.gives g.Y.Sysfs.calls g.Y.Sysfs.faults g.met.Y.Sysfs.counted g.A.Judge.answer g.A.Judge.later _ _ _ _ _ _ c.settle_name.ensures.runs

pub returns-clause-law : goal.returns-clause-law
returns-clause-law g c = told_settles g.Y.Sysfs.gives g.Y.Sysfs.told g.met.Y.Sysfs.did g.A.Judge.answer g.A.Judge.later _ _ _ _ _ _ c.settle_name.ensures.runs

pub returns-clause-marks : goal.returns-clause-marks
returns-clause-marks g c = run_leaves g.Y.Sysfs.gives g.A.Judge.answer g.A.Judge.later _ _ _ _ _ _ (subst (λ (v : TableState). StandInOrder v.next v.standings) c.self.view_is c.self.invariant.0) c.settle_name.ensures.runs
