use Rattle.ug_table.proofs.Marks.{kept_fields}
use Rattle.ug_table.proofs.table.Table.order_numbered.Goals as goal

pub invariant_of-self : goal.invariant_of-self
invariant_of-self g c = kept_fields _ _ _ _ c.order_standing.ensures.keeps c.order_standing.ensures.len c.self.invariant
