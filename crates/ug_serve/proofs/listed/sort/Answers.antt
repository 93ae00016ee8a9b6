use Rattle.std.proofs.Common.{subst, sym, rules}
use Rattle.std.proofs.lemmas.Cmp.{nat_list_cmp_total}
use Rattle.std.proofs.lemmas.List.Sorted.{ranks_by, answers_always}
use Rattle.ug_types.specs.Principals.{principal_text}
use Rattle.ug_serve.specs.Access.{IsInByteOrder}
use Rattle.ug_serve.proofs.listed.sort.Goals as goal

pub returns-clause-in_order : goal.returns-clause-in_order
returns-clause-in_order c = subst (IsInByteOrder principal_text) (sym c.from_vec.ensures) (c.sort_unstable_by.ensures.sorted _ (ranks_by nat_list_cmp_total principal_text) (answers_always _ _ _ (λ f a r f' k. search rules)))
