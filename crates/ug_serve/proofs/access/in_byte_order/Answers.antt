use Rattle.std.proofs.Common.{rules}
use Rattle.std.proofs.lemmas.Cmp.{nat_list_cmp_total}
use Rattle.std.proofs.lemmas.List.Sorted.{ranks_by, answers_always}
use Rattle.ug_serve.proofs.access.in_byte_order.Goals as goal

pub returns : goal.returns
returns c = record {
  all = search rules;
  in_order = c.sort_unstable_by.ensures.sorted _ (ranks_by nat_list_cmp_total (λ name. name)) (answers_always _ _ _ (λ f a r f' k. search rules));
}
