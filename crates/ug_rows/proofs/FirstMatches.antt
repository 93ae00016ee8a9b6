-- Filters behind one another, and what rules leave of devices.
use Rattle.std.proofs.Common.{◌≡◌, ◌∙◌, ℕ, Bool, true, false, List, [], ◌∷◌, Option, Some, None, refl, ap}
use Rattle.std.specs.Prelude.{◌&&◌, ◌||◌, not, cond}
use Rattle.std.specs.List.{filter}
use Rattle.ug_types.specs.declared.rule.Rule.{Rule}
use Rattle.ug_rows.specs.RuleRows.{applied_rows, decides_always, is_decided, is_first_to_match, is_last_to_decide, is_matched_by, left_to_later, left_rows, matches_row, rule_in_row}

pick : (p : List ℕ → Bool) (v : Bool) (x : List ℕ) (xs : List (List ℕ)) → filter p (cond v (x ∷ xs) xs) ≡ cond (v && p x) (x ∷ filter p xs) (filter p xs)
pick p true x xs = refl
pick p false x xs = refl

not_either : (v w : Bool) → (not v && not w) ≡ not (v || w)
not_either true w = refl
not_either false w = refl

swapped : (v w : Bool) → (v && w) ≡ (w && v)
swapped true true = refl
swapped true false = refl
swapped false true = refl
swapped false false = refl

-- neither the one nor the other
filter_neither : (a b : List ℕ → Bool) (xs : List (List ℕ)) → filter (λ x. not (b x)) (filter (λ x. not (a x)) xs) ≡ filter (λ x. not (a x || b x)) xs
filter_neither a b [] = refl
filter_neither a b (x ∷ xs) =
    pick (λ y. not (b y)) (not (a x)) x (filter (λ y. not (a y)) xs)
    ∙ ap (λ (v : Bool). cond v (x ∷ filter (λ y. not (b y)) (filter (λ y. not (a y)) xs)) (filter (λ y. not (b y)) (filter (λ y. not (a y)) xs))) (not_either (a x) (b x))
    ∙ ap (λ (rest : List (List ℕ)). cond (not (a x || b x)) (x ∷ rest) rest) (filter_neither a b xs)

filter_both : (p q : List ℕ → Bool) (xs : List (List ℕ)) → filter p (filter q xs) ≡ filter (λ x. p x && q x) xs
filter_both p q [] = refl
filter_both p q (x ∷ xs) =
    pick p (q x) x (filter q xs)
    ∙ ap (λ (v : Bool). cond v (x ∷ filter p (filter q xs)) (filter p (filter q xs))) (swapped (q x) (p x))
    ∙ ap (λ (rest : List (List ℕ)). cond (p x && q x) (x ∷ rest) rest) (filter_both p q xs)

filter_all : (xs : List (List ℕ)) → xs ≡ filter (λ x. true) xs
filter_all [] = refl
filter_all (x ∷ xs) = ap (λ (rest : List (List ℕ)). x ∷ rest) (filter_all xs)

filter_none : (xs : List (List ℕ)) → [] ≡ filter (λ x. false) xs
filter_none [] = refl
filter_none (x ∷ xs) = filter_none xs

left_by : (rule : Option Rule) (rules devices : List (List ℕ)) → filter (λ d. not (is_decided rules d)) (left_rows rule devices) ≡ filter (λ d. not (is_last_to_decide d rule || is_decided rules d)) devices
left_by None rules devices = refl
left_by (Some rule) rules devices = filter_neither (decides_always rule) (is_decided rules) devices

undecided : (rules devices : List (List ℕ)) → left_to_later rules devices ≡ filter (λ d. not (is_decided rules d)) devices
undecided [] devices = filter_all devices
undecided (row ∷ rules) devices = undecided rules (left_rows (rule_in_row row) devices) ∙ left_by (rule_in_row row) rules devices

applied_by : (rule : Option Rule) (q : List ℕ → Bool) (devices : List (List ℕ)) → applied_rows rule (filter q devices) ≡ filter (λ d. is_matched_by d rule && q d) devices
applied_by None q devices = filter_none devices
applied_by (Some rule) q devices = filter_both (matches_row rule.query) q devices

pub first_matches : (earlier : List (List ℕ)) (row : List ℕ) (devices : List (List ℕ)) → applied_rows (rule_in_row row) (left_to_later earlier devices) ≡ filter (is_first_to_match earlier row) devices
first_matches earlier row devices =
    ap (applied_rows (rule_in_row row)) (undecided earlier devices)
    ∙ applied_by (rule_in_row row) (λ d. not (is_decided earlier d)) devices
