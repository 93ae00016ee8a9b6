use Rattle.ug_store.proofs.Saving.{told_disk, recovers}
use Rattle.ug_store.proofs.Counting.{recover_counts, recover_once}
use Rattle.ug_store.specs.Store.{recovering}
use Rattle.ug_store.proofs.store.read_soundly.Goals as goal

pub returns-clause-law : goal.returns-clause-law
returns-clause-law g c = λ n e.
    let h = told_disk g.D.RuleDisk.keeps g.D.RuleDisk.told g.met.D.RuleDisk.did recovering c.args.disk.now c.read.result c.read.new.disk n c.read.ensures.runs e in
    (h.0, h.1, recovers h.0 n c.read.result h.2)

pub returns-clause-fault : goal.returns-clause-fault
returns-clause-fault g c =
    recover_counts g.D.RuleDisk.keeps g.D.RuleDisk.faults g.met.D.RuleDisk.counted c.args.disk.now c.read.result c.read.new.disk c.read.ensures.runs

pub returns-clause-counted : goal.returns-clause-counted
returns-clause-counted g c =
    recover_once g.D.RuleDisk.keeps g.D.RuleDisk.faults g.met.D.RuleDisk.counted c.args.disk.now c.read.result c.read.new.disk c.read.ensures.runs
