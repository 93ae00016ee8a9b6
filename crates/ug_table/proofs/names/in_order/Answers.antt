use Rattle.std.proofs.Common.{ap, arith, length, subst, sym}
use Rattle.std.proofs.lemmas.List.Filters.{dedup_is}
use Rattle.ug_types.proofs.Sorting.{length-sweep_order}
use Rattle.ug_table.proofs.Common.{AreInOrder}
use Rattle.ug_table.proofs.Distinct.{once_in_order, same_names}
use Rattle.ug_table.proofs.names.in_order.Goals as goal

pub returns-clause-order : goal.returns-clause-order
returns-clause-order c = subst AreInOrder (sym (dedup_is _ _ _ c.dedup.ensures.filtered)) (once_in_order _ c.sort_names.ensures.sorted)

pub returns-clause-same : goal.returns-clause-same
returns-clause-same c = same_names _ _ _ c.sort_names.ensures.items (dedup_is _ _ _ c.dedup.ensures.filtered)

pub returns-clause-len : goal.returns-clause-len
returns-clause-len c = omega (arith, c.dedup.ensures.bound, ap length c.sort_names.ensures.items, length-sweep_order c.args.names.now.items)
