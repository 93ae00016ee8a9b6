-- The first element that passes a test.
use Rattle.std.proofs.Common.{◌≡◌, ℕ, zero, suc, ◌<◌, ◌≤◌, ◌+◌, ◌∷◌, [], List, length, get_or, Bool, true, false, not, ◌||◌, Some, None, arith, refl, ap, ◌∙◌, subst}
use Rattle.std.specs.List.{list_any, position, position_or_len}
use Rattle.std.proofs.lemmas.Bool.{cond-true, cond-false}
use Rattle.std.proofs.lemmas.List.Quantifiers.{position-Some}

-- x stands at i, passes, and none before it does
abbrev pub FirstAt : {X : Type 0} → (X → Bool) → List X → ℕ → X → Type 0
FirstAt p [] i x = ⊥
FirstAt p (y ∷ ys) zero x = (y ≡ x) × (p y ≡ true)
FirstAt p (y ∷ ys) (suc i) x = (p y ≡ false) × FirstAt p ys i x

-- none passes
abbrev pub NonePasses : {X : Type 0} → (X → Bool) → List X → Type 0
NonePasses p [] = Unit {0}
NonePasses p (y ∷ ys) = (p y ≡ false) × NonePasses p ys

first_from : {X : Type 0} (p : X → Bool) (xs : List X) (i : ℕ) (d : X) → i < length xs → p (get_or xs i d) ≡ true → ((k : ℕ) → k < i → p (get_or xs k d) ≡ false) → FirstAt p xs i (get_or xs i d)
first_from p [] i d lt t f = absurd (omega arith)
first_from p (x ∷ xs) zero d lt t f = (refl, t)
first_from p (x ∷ xs) (suc i) d lt t f = (f zero (omega arith), first_from p xs i d (omega arith) t (λ k h. f (suc k) (omega arith)))

pub first_at : {X : Type 0} (p : X → Bool) (xs : List X) (i : ℕ) (d : X) → position p xs ≡ Some i → FirstAt p xs i (get_or xs i d)
first_at p xs i d e = let h = position-Some p xs i d e in first_from p xs i d h.0 h.1 h.2

pub first_some : {X : Type 0} (p : X → Bool) (xs : List X) (i : ℕ) → position p xs ≡ Some i → (x : X) × FirstAt p xs i x
first_some p [] i e = let none : ⊥ = cc in absurd none
first_some p (y ∷ ys) i e = (get_or (y ∷ ys) i y, first_at p (y ∷ ys) i y e)

none_from : {X : Type 0} (p : X → Bool) (xs : List X) → length xs ≤ position_or_len p xs → NonePasses p xs
none_from p [] h = tt
none_from {X} p (x ∷ xs) h =
    let T : Bool → Type 0 = λ b. p x ≡ b → NonePasses p (x ∷ xs) in
    let f : (b : Bool) → T b = λ b. elim b as T [
      | true ↦ λ e. let past : suc (length xs) ≤ 0 = subst (λ (n : ℕ). suc (length xs) ≤ n) (cond-false (not (p x)) (1 + position_or_len p xs) 0 (ap not e)) h in absurd (omega arith)
      | false ↦ λ e. let past : suc (length xs) ≤ 1 + position_or_len p xs = subst (λ (n : ℕ). suc (length xs) ≤ n) (cond-true (not (p x)) (1 + position_or_len p xs) 0 (ap not e)) h in (e, none_from p xs (omega arith))
    ] in
    f (p x) refl

pub first_any : {X : Type 0} (p : X → Bool) (xs : List X) (i : ℕ) (x : X) → FirstAt p xs i x → list_any p xs ≡ true
first_any p [] i x h = absurd h
first_any p (y ∷ ys) zero x h = ap (λ (b : Bool). b || list_any p ys) h.1
first_any p (y ∷ ys) (suc i) x h = ap (λ (b : Bool). b || list_any p ys) h.0 ∙ first_any p ys i x h.1

pub none_any : {X : Type 0} (p : X → Bool) (xs : List X) → NonePasses p xs → list_any p xs ≡ false
none_any p [] h = refl
none_any p (x ∷ xs) h = ap (λ (b : Bool). b || list_any p xs) h.0 ∙ none_any p xs h.1

pub none_passes : {X : Type 0} (p : X → Bool) (xs : List X) → position p xs ≡ None → NonePasses p xs
none_passes p xs e = none_from p xs (grind arith)
