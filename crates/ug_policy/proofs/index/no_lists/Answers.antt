use Rattle.std.proofs.Common.{rules}
use Rattle.ug_policy.proofs.index.no_lists.Goals as goal

pub returns-clause-items : goal.returns-clause-items
returns-clause-items c = λ r d lt. let k = c.from_fn.ensures.items.at r d lt in search rules

pub returns-clause-len : goal.returns-clause-len
returns-clause-len c = λ r d lt. let k = c.from_fn.ensures.items.at r d lt in search rules
