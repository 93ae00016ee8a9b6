use Rattle.std.proofs.Common.{arith, length, ap, rules}
use Rattle.ug_table.specs.Table.{TableState}
use Rattle.ug_audit.proofs.Noting.{goes_on}
use Rattle.ug_table.proofs.table.Table.sweep_names.Goals as goal

pub settle_names-requires-clause-next : goal.settle_names-requires-clause-next
settle_names-requires-clause-next g c =
    let was = ap (λ (v : TableState). v.next) c.self.view_is in
    let now = ap (λ (v : TableState). v.next) c.self-2.view_is in
    omega (arith, was, now, ap length c.deref-3.ensures.value, c.in-Names.ensures.few, c.sorted-names.ensures.len)

pub returns-clause-next : goal.returns-clause-next
returns-clause-next g c =
    let was = ap (λ (v : TableState). v.next) c.self.view_is in
    let now = ap (λ (v : TableState). v.next) c.self-2.view_is in
    omega (arith, was, now, ap length c.deref-3.ensures.value, c.in-Names.ensures.few, c.sorted-names.ensures.len)

pub returns-clause-same : goal.returns-clause-same
returns-clause-same g c = search (rules, arith, goes_on)
