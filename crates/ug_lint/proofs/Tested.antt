-- A test of each element, one after the other.
use Rattle.std.proofs.Common.{◌≡◌, ℕ, ◌+◌, ◌<◌, ◌≤◌, ◌∷◌, Bool, true, false, List, length, get_or, drop, sym, ap, ◌∙◌}
use Rattle.std.specs.Prelude.{◌&&◌, ◌||◌}
use Rattle.std.specs.List.{list_all, list_any, zip}
use Rattle.std.proofs.lemmas.Bool.{eq-eqb, ne_eqb}
use Rattle.std.proofs.lemmas.List.{at_drop_more, at_drop_all, drop_more, drop_all}
use Rattle.ug_match.specs.Operators.{in_order}

module _ {X : Type 0} (p : X → Bool) (xs : List X) (i : ℕ) where
  module _ (x : X) (test : Bool) (h : i < length xs) (is : x ≡ get_or xs i x) (t : test ≡ p x) where
    any_step : (v : Bool) → test ≡ v → list_any p (drop i xs) ≡ list_any p xs → v || list_any p (drop (i + 1) xs) ≡ list_any p xs
    any_step v f e = ap (λ (b : Bool). b || list_any p (drop (i + 1) xs)) (sym f ∙ t ∙ ap p is) ∙ sym (at_drop_more (list_any p) xs i x h) ∙ e

    all_step : (v : Bool) → test ≡ v → list_all p (drop i xs) ≡ list_all p xs → v && list_all p (drop (i + 1) xs) ≡ list_all p xs
    all_step v f e = ap (λ (b : Bool). b && list_all p (drop (i + 1) xs)) (sym f ∙ t ∙ ap p is) ∙ sym (at_drop_more (list_all p) xs i x h) ∙ e

    pub any_found : test ≡ true → list_any p (drop i xs) ≡ list_any p xs → true ≡ list_any p xs
    any_found = any_step true

    pub any_more : test ≡ false → list_any p (drop i xs) ≡ list_any p xs → list_any p (drop (i + 1) xs) ≡ list_any p xs
    any_more = any_step false

    pub all_failed : test ≡ false → list_all p (drop i xs) ≡ list_all p xs → false ≡ list_all p xs
    all_failed = all_step false

    pub all_more : test ≡ true → list_all p (drop i xs) ≡ list_all p xs → list_all p (drop (i + 1) xs) ≡ list_all p xs
    all_more = all_step true

  pub any_ended : length xs ≤ i → list_any p (drop i xs) ≡ list_any p xs → false ≡ list_any p xs
  any_ended h e = sym (at_drop_all (list_any p) xs i h) ∙ e

  pub all_ended : length xs ≤ i → list_all p (drop i xs) ≡ list_all p xs → true ≡ list_all p xs
  all_ended h e = sym (at_drop_all (list_all p) xs i h) ∙ e

abbrev pub pairs_pass : {X Y : Type 0} → (X → Y → Bool) → List X → List Y → Bool
pairs_pass covers xs ys = list_all (λ pair. covers pair.0 pair.1) (zip xs ys)

module _ {X Y : Type 0} (p : X → Y → Bool) (xs : List X) (ys : List Y) where
  pub lengths_apart : (length xs ≡ length ys → ⊥) → false ≡ in_order p xs ys
  lengths_apart n = ap (λ (b : Bool). b && pairs_pass p xs ys) (sym (ne_eqb (length xs) (length ys) n))

  settled : (v : Bool) → length xs ≡ length ys → v ≡ pairs_pass p xs ys → v ≡ in_order p xs ys
  settled v e q = q ∙ ap (λ (b : Bool). b && pairs_pass p xs ys) (sym (eq-eqb (length xs) (length ys) e))

  module _ (i : ℕ) (same : length xs ≡ length ys) where
    module _ (x : X) (y : Y) (test : Bool) (h : i < length xs) (k : i < length ys) (is : x ≡ get_or xs i x) (is' : y ≡ get_or ys i y) (t : test ≡ p x y) where
      pair_step : (v : Bool) → test ≡ v → pairs_pass p (drop i xs) (drop i ys) ≡ pairs_pass p xs ys → v && pairs_pass p (drop (i + 1) xs) (drop (i + 1) ys) ≡ pairs_pass p xs ys
      pair_step v f e =
          let a : x ∷ drop (i + 1) xs ≡ drop i xs = ap (λ (z : X). z ∷ drop (i + 1) xs) is ∙ sym (drop_more xs i x h) in
          let b : y ∷ drop (i + 1) ys ≡ drop i ys = ap (λ (z : Y). z ∷ drop (i + 1) ys) is' ∙ sym (drop_more ys i y k) in
          ap (λ (c : Bool). c && pairs_pass p (drop (i + 1) xs) (drop (i + 1) ys)) (sym f ∙ t)
          ∙ ap (λ (l : List X). pairs_pass p l (y ∷ drop (i + 1) ys)) a
          ∙ ap (λ (l : List Y). pairs_pass p (drop i xs) l) b
          ∙ e

      pub pair_failed : test ≡ false → pairs_pass p (drop i xs) (drop i ys) ≡ pairs_pass p xs ys → false ≡ in_order p xs ys
      pair_failed f e = settled false same (pair_step false f e)

      pub pair_more : test ≡ true → pairs_pass p (drop i xs) (drop i ys) ≡ pairs_pass p xs ys → pairs_pass p (drop (i + 1) xs) (drop (i + 1) ys) ≡ pairs_pass p xs ys
      pair_more = pair_step true

    pub pairs_ended : length xs ≤ i → pairs_pass p (drop i xs) (drop i ys) ≡ pairs_pass p xs ys → true ≡ in_order p xs ys
    pairs_ended h e = settled true same (ap (λ (l : List X). pairs_pass p l (drop i ys)) (sym (drop_all i xs h)) ∙ e)
