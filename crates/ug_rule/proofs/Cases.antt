-- What a good outcome says of the steps that led to it.
use Rattle.std.proofs.Common.{◌≡◌, ℕ, ◌⊎◌, inl, inr, Option, Some, None, Result, Ok, Err, refl, sym, ap, ◌∙◌}
use Rattle.ug_rule.specs.declared.fault.FaultKind.{FaultKind}
use Rattle.ug_rule.specs.Faults.{on_ok, required}

pub by_step : {X Y E : Type 0} (r : Result X E) (next : X → Result Y E) (y : Y) → on_ok r next ≡ Ok y → (x : X) × (r ≡ Ok x) × (next x ≡ Ok y)
by_step (Ok x) next y h = (x, refl, h)
by_step (Err e) next y h = let none : ⊥ = cc in absurd none

pub same_ok : {X E : Type 0} (x y : X) → ◌≡◌ {A = Result X E} (Ok x) (Ok y) → x ≡ y
same_ok x y h = let e : x ≡ y = cc in e

pub by_found : {X : Type 0} (o : Option X) (kind : FaultKind) (place : ℕ) (x : X) → required o kind place ≡ Ok x → o ≡ Some x
by_found None kind place x h = let none : ⊥ = cc in absurd none
by_found (Some y) kind place x h = ap Some (same_ok y x h)

-- an outcome is good or bad, and never both
pub some_outcome : {X E : Type 0} (r : Result X E) → ((x : X) × (r ≡ Ok x)) ⊎ ((e : E) × (r ≡ Err e))
some_outcome (Ok x) = inl (x, refl)
some_outcome (Err e) = inr (e, refl)

pub one_outcome : {X E : Type 0} (r : Result X E) (x y : X) → r ≡ Ok x → r ≡ Ok y → x ≡ y
one_outcome r x y h k = same_ok x y (sym h ∙ k)

pub not_both : {X E : Type 0} (r : Result X E) (x : X) (e : E) → r ≡ Ok x → r ≡ Err e → ⊥
not_both r x e h k = let none : ⊥ = cc in none
