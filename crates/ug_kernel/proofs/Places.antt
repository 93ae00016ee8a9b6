-- Places in lists.
use Rattle.std.proofs.Common.{◌≡◌, ℕ, zero, suc, ◌+◌, ◌<◌, ◌⊎◌, List, [], ◌∷◌, ◌++◌, length, take, drop, set, Some, refl, ap, arith, inl, inr}
use Rattle.std.proofs.lemmas.Option.{none-some}
use Rattle.std.specs.List.{slice_get}

-- a place in a list with one more at its end
pub at_push : {X : Type 0} (xs : List X) (x : X) (i : ℕ) (y : X) → slice_get (xs ++ x ∷ []) i ≡ Some y → ((i < length xs) × (slice_get xs i ≡ Some y)) ⊎ ((i ≡ length xs) × (x ≡ y))
at_push [] x zero y h = inr (refl, cc)
at_push [] x (suc i) y h = absurd cc
at_push (d ∷ xs) x zero y h = inl (omega arith, h)
at_push (d ∷ xs) x (suc i) y h = elim (at_push xs x i y h) [
  | inl a ↦ inl (omega arith, a.1)
  | inr b ↦ inr (omega arith, b.1)
]

pub at_longer : {X : Type 0} (xs ys : List X) (i : ℕ) (y : X) → slice_get xs i ≡ Some y → slice_get (xs ++ ys) i ≡ Some y
at_longer [] ys i y h = absurd cc
at_longer (x ∷ xs) ys zero y h = h
at_longer (x ∷ xs) ys (suc i) y h = at_longer xs ys i y h

pub at_end : {X : Type 0} (xs : List X) (x : X) → slice_get (xs ++ x ∷ []) (length xs) ≡ Some x
at_end [] x = refl
at_end (y ∷ xs) x = at_end xs x

pub in_front : {X : Type 0} (xs : List X) (n i : ℕ) (y : X) → slice_get (take n xs) i ≡ Some y → slice_get xs i ≡ Some y
in_front xs zero i y h = absurd (none-some y h)
in_front [] (suc n) i y h = absurd (none-some y h)
in_front (x ∷ xs) (suc n) zero y h = h
in_front (x ∷ xs) (suc n) (suc i) y h = in_front xs n i y h

pub from_drop : {X : Type 0} (n : ℕ) (xs : List X) (k : ℕ) → slice_get (drop n xs) k ≡ slice_get xs (n + k)
from_drop zero xs k = ap (slice_get xs) (let z : k ≡ zero + k = omega arith in z)
from_drop (suc n) [] k = refl
from_drop (suc n) (x ∷ xs) k = let z : suc n + k ≡ suc (n + k) = omega arith in rw z (from_drop n xs k)

pub at_set_same : {X : Type 0} (xs : List X) (i : ℕ) (d x : X) → slice_get xs i ≡ Some d → slice_get (set xs i x) i ≡ Some x
at_set_same [] i d x h = absurd (none-some d h)
at_set_same (e ∷ xs) zero d x h = refl
at_set_same (e ∷ xs) (suc i) d x h = at_set_same xs i d x h

pub at_set_other : {X : Type 0} (xs : List X) (i j : ℕ) (x : X) → (j ≡ i → ⊥) → slice_get (set xs i x) j ≡ slice_get xs j
at_set_other [] i j x n = refl
at_set_other (e ∷ xs) zero zero x n = absurd (n refl)
at_set_other (e ∷ xs) zero (suc j) x n = refl
at_set_other (e ∷ xs) (suc i) zero x n = refl
at_set_other (e ∷ xs) (suc i) (suc j) x n = at_set_other xs i j x (λ h. n (ap suc h))
