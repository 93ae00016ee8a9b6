use Rattle.std.proofs.Common.{◌∙◌, ap, rules, ℕ, List}
use Rattle.std.proofs.lemmas.Cmp.{eq_by_cmp_equiv, nat_cmp_total}
use Rattle.std.proofs.lemmas.Map.Made.{filter_same_pairs}
use Rattle.std.proofs.lemmas.Map.Entries.{lookup-filter-values}
use Rattle.std.proofs.lemmas.Map.Keys.{IsDistinct-from_sorted}
use Rattle.std.specs.BTreeMap.{is_at, keys}
use Rattle.std.specs.Map.{lookup}
use Rattle.std.specs.Ordering.{nat_cmp}
use Rattle.ug_table.specs.Standings.{lists}
use Rattle.ug_table.proofs.kept.keep_numbers.Goals as goal

pub returns : goal.returns
returns c q =
    let es = c.args.by_number.now.entries in
    ap (λ (v : List (ℕ × List ℕ)). lookup (is_at (nat_cmp q)) v) (filter_same_pairs _ (λ (e : ℕ × List ℕ). lists c.args.names.now e.1) _ (λ k v b w f t. search rules) _ _ c.retain.ensures.filtered)
    ∙ lookup-filter-values (eq_by_cmp_equiv nat_cmp_total) (lists c.args.names.now) q es (IsDistinct-from_sorted nat_cmp (keys c.args.by_number.now) c.retain.ensures.was_ordered)
