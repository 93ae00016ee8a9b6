use Rattle.std.proofs.Common.{length, ap, arith}
use Rattle.ug_table.specs.Table.{TableState}
use Rattle.ug_table.proofs.Loops.{notes_then}
use Rattle.ug_table.proofs.Marks.{kept_fields}
use Rattle.ug_table.proofs.table.Table.go_unlisted.Goals as goal

pub invariant_of-self : goal.invariant_of-self
invariant_of-self g c = kept_fields _ _ _ _ c.resettle_each.ensures.keeps c.resettle_each.ensures.len (c.self.invariant.0, omega (arith, c.self.invariant.1, c.resettle_each.ensures.capacity))

pub returns-clause-journal : goal.returns-clause-journal
returns-clause-journal g c =
    let standings = ap (λ (v : TableState). length v.standings) c.self.view_is in
    notes_then _ 1 _ _ _ _ _ (c.push.ensures.same, c.push.ensures.room, omega (arith, c.push.ensures.spare)) c.resettle_each.ensures.journal (omega (arith, standings))
