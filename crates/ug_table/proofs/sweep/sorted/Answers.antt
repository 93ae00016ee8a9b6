use Rattle.std.proofs.Common.{length, ap, ◌∙◌}
use Rattle.ug_types.proofs.Sorting.{length-sweep_order}
use Rattle.ug_table.proofs.sweep.sorted.Goals as goal

pub returns-clause-len : goal.returns-clause-len
returns-clause-len c = ap length (c.sort_names.ensures.items) ∙ length-sweep_order _ ∙ ap length c.into_vec-names.ensures
