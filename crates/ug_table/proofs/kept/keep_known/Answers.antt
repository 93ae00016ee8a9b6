use Rattle.std.proofs.Common.{rules, ℕ, is_some}
use Rattle.std.proofs.lemmas.Fn.{filter_same}
use Rattle.std.specs.BTreeMap.{get}
use Rattle.std.specs.Ordering.{nat_cmp}
use Rattle.ug_table.proofs.kept.keep_known.Goals as goal

pub returns-clause-items : goal.returns-clause-items
returns-clause-items c = filter_same _ (λ (n : ℕ). is_some (get nat_cmp c.args.by_number.now n)) _ (λ x b q h. (search rules, search rules)) _ _ c.retain.ensures.filtered
