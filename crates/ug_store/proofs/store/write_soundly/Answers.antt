use Rattle.ug_store.proofs.Saving.{told_disk, saves}
use Rattle.ug_store.proofs.Counting.{save_counts}
use Rattle.ug_store.specs.Store.{saving}
use Rattle.ug_store.proofs.store.write_soundly.Goals as goal

pub returns-clause-law : goal.returns-clause-law
returns-clause-law g c = λ n e.
    let h = told_disk g.D.RuleDisk.keeps g.D.RuleDisk.told g.met.D.RuleDisk.did (saving c.args.text.now) c.args.disk.now c.write.result c.write.new.disk n c.write.ensures e in
    (h.0, h.1, saves c.args.text.now h.0 n c.write.result h.2)

pub returns-clause-never_falls : goal.returns-clause-never_falls
returns-clause-never_falls g c =
    (save_counts g.D.RuleDisk.keeps g.D.RuleDisk.faults g.met.D.RuleDisk.counted c.args.text.now c.args.disk.now c.write.result c.write.new.disk c.write.ensures).0

pub returns-clause-fault : goal.returns-clause-fault
returns-clause-fault g c =
    (save_counts g.D.RuleDisk.keeps g.D.RuleDisk.faults g.met.D.RuleDisk.counted c.args.text.now c.args.disk.now c.write.result c.write.new.disk c.write.ensures).1
