use Rattle.std.proofs.Common.{List, ap, subst}
use Rattle.ug_table.specs.Orders.{ProbesOne}
use Rattle.ug_table.specs.Table.{TableState}
use Rattle.ug_table.specs.declared.standing.Standing.{Standing}
use Rattle.ug_table.proofs.Ordered.{told_probes}
use Rattle.ug_table.proofs.table.Table.probe.Goals as goal

pub returns-clause-law : goal.returns-clause-law
returns-clause-law g c =
    let h = c.probe_numbered in
    let same = ap (λ (v : TableState). v.standings) c.self.view_is in
    subst (λ (ss : List Standing). ProbesOne g.Y.Sysfs.told c.args.number ss c.args.sysfs.now h.new.sysfs h.result) same
    (told_probes g.Y.Sysfs.gives g.Y.Sysfs.told g.met.Y.Sysfs.did c.args.number _ _ _ _ h.ensures.runs)
