-- A test of each element, one after the other.
use Rattle.std.proofs.Common.{◌≡◌, ℕ, ◌+◌, ◌<◌, ◌≤◌, Bool, true, false, List, length, get_or, drop, sym, ap, ◌∙◌}
use Rattle.std.specs.Prelude.{◌&&◌}
use Rattle.std.specs.List.{list_all}
use Rattle.std.proofs.lemmas.List.{at_drop_more, at_drop_all}

module _ {X : Type 0} (p : X → Bool) (xs : List X) (i : ℕ) where
  step : (d : X) (test : Bool) → i < length xs → test ≡ p (get_or xs i d) → list_all p (drop i xs) ≡ list_all p xs → test && list_all p (drop (i + 1) xs) ≡ list_all p xs
  step d test h t e = ap (λ (b : Bool). b && list_all p (drop (i + 1) xs)) t ∙ sym (at_drop_more (list_all p) xs i d h) ∙ e

  pub all_failed : (d : X) (test : Bool) → i < length xs → test ≡ p (get_or xs i d) → test ≡ false → list_all p (drop i xs) ≡ list_all p xs → false ≡ list_all p xs
  all_failed d test h t f e = step d false h (sym f ∙ t) e

  pub all_more : (d : X) (test : Bool) → i < length xs → test ≡ p (get_or xs i d) → test ≡ true → list_all p (drop i xs) ≡ list_all p xs → list_all p (drop (i + 1) xs) ≡ list_all p xs
  all_more d test h t f e = step d true h (sym f ∙ t) e

  pub all_ended : length xs ≤ i → list_all p (drop i xs) ≡ list_all p xs → true ≡ list_all p xs
  all_ended h e = sym (at_drop_all (list_all p) xs i h) ∙ e
