use Rattle.ug_table.proofs.Marks.{kept_fields}
use Rattle.ug_table.proofs.table.Table.settle_numbered.Goals as goal

pub invariant_of-self : goal.invariant_of-self
invariant_of-self g c = kept_fields _ _ _ _ c.settle_known.ensures.keeps c.settle_known.ensures.len c.self.invariant
