use Rattle.std.proofs.Common.{rules, ℕ, not, nat_eq}
use Rattle.std.proofs.lemmas.Fn.{filter_same}
use Rattle.ug_table.proofs.kept.take_out.Goals as goal

pub returns-clause-items : goal.returns-clause-items
returns-clause-items c = filter_same _ (λ (n : ℕ). not (nat_eq n c.args.number)) _ (λ x b q h. (search rules, search rules)) _ _ c.retain.ensures.filtered
