use Rattle.ug_table.proofs.Several.{names_part, told_names}
use Rattle.ug_table.proofs.table.Table.settle_names.Goals as goal

pub returns-clause-parts : goal.returns-clause-parts
returns-clause-parts g c = names_part g.Y.Sysfs.gives g.Y.Sysfs.calls g.Y.Sysfs.faults g.met.Y.Sysfs.counted g.A.Judge.answer g.A.Judge.later _ c.args.names.now _ _ _ _ c.settle_all.ensures.runs

pub returns-clause-law : goal.returns-clause-law
returns-clause-law g c = told_names g.Y.Sysfs.gives g.Y.Sysfs.told g.met.Y.Sysfs.did g.A.Judge.answer g.A.Judge.later _ c.args.names.now _ _ _ _ c.settle_all.ensures.runs
