use Rattle.ug_types.proofs.Sorting.{sorted_once}
use Rattle.ug_types.proofs.name.sort_names.Goals as goal

pub returns-clause-items : goal.returns-clause-items
returns-clause-items c = sorted_once c.args.names.now.items c.sort_unstable.new.self.items c.sort_unstable.ensures.permutation c.sort_unstable.ensures.sorted
