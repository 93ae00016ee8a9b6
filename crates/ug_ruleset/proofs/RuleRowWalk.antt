-- The rows of the rules that were passed.
use Rattle.std.proofs.Common.{◌≡◌, ℕ, ◌+◌, map, take, List, [], ◌∷◌, ◌++◌, Some, slice_get, sym, ap, subst, ◌∙◌}
use Rattle.std.specs.Prelude.{All}
use Rattle.std.proofs.lemmas.List.{map_more}
use Rattle.std.proofs.lemmas.List.Elements.{All-get_or}
use Rattle.std.proofs.lemmas.Option.{get_or_from_slice_get, slice_get_within}
use Rattle.ug_policy.specs.declared.entry.RuleEntry.{RuleEntry}
use Rattle.ug_rule.specs.Grammar.{WellFormed}
use Rattle.ug_ruleset.specs.RuleRows.{rule_row}

pub rules_more : (es : List RuleEntry) (i : ℕ) (e : RuleEntry) (rows : List (List ℕ)) (row : List ℕ) → slice_get es i ≡ Some e → row ≡ rule_row e → rows ≡ map rule_row (take i es) → rows ++ row ∷ [] ≡ map rule_row (take (i + 1) es)
rules_more es i e rows row there is h =
    ap (λ (v : List (List ℕ)). v ++ row ∷ []) h
    ∙ ap (λ (v : List ℕ). map rule_row (take i es) ++ v ∷ []) (is ∙ ap rule_row (sym (get_or_from_slice_get es i e e there)))
    ∙ sym (map_more rule_row es i e (slice_get_within es i e there))

pub well_at : (es : List RuleEntry) (i : ℕ) (e : RuleEntry) → slice_get es i ≡ Some e → All (λ (entry : RuleEntry). WellFormed entry.rule) es → WellFormed e.rule
well_at es i e there all =
    subst (λ (entry : RuleEntry). WellFormed entry.rule) (get_or_from_slice_get es i e e there) (All-get_or (λ (entry : RuleEntry). WellFormed entry.rule) es i e (slice_get_within es i e there) all)
