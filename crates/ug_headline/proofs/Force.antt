-- The last verdict that entries tell of a number.
use Rattle.std.proofs.Common.{◌≡◌, ℕ, List, [], ◌∷◌, Option, Some, None, refl, ◌∙◌, ap, inl, inr}
use Rattle.ug_types.specs.Elements.{Has}
use Rattle.ug_types.specs.declared.verdict.Cause.{Cause}
use Rattle.ug_types.specs.declared.verdict.Target.{Target}
use Rattle.ug_kernel.specs.declared.control.Held.{Held}
use Rattle.ug_audit.specs.declared.entry.Entry.{Entry}
use Rattle.ug_audit.specs.declared.entry.Entry.TheVariants as entry
use Rattle.ug_core.specs.InForce.{Decision, decisions_in, last_decision, last_judged, on_number, or_else}
use Rattle.ug_core.proofs.InForce.{has_decision, on_itself}

left_none : {X : Type 0} (a b : Option X) → or_else a b ≡ None → a ≡ None
left_none None b h = refl
left_none (Some x) b h = h

right_none : {X : Type 0} (a b : Option X) → or_else a b ≡ None → b ≡ None
right_none None b h = h
right_none (Some x) b h = let none : ⊥ = cc in absurd none

-- one that is told is found
found_told : (ds : List Decision) (d : Decision) → Has ds d → last_decision ds d.number ≡ None → ⊥
found_told [] d h none = absurd h
found_told (x ∷ ds) d (inl same) none =
    let own : on_number d.number x ≡ Some d = ap (λ (y : Decision). on_number d.number y) same ∙ on_itself d in
    let not : on_number d.number x ≡ None = right_none (last_decision ds d.number) (on_number d.number x) none in
    cc
found_told (x ∷ ds) d (inr h) none = found_told ds d h (left_none (last_decision ds d.number) (on_number d.number x) none)

-- none of its number is told since
pub none_since : (es : List Entry) (number : ℕ) → last_judged es number ≡ None → (n : List ℕ) (h : Held) (verdict : Target) (c : Cause) → Has es (entry.Judged number n h verdict c) → ⊥
none_since es number none n h verdict c a = found_told (decisions_in es) (record { number = number; name = n; held = h; verdict = verdict; cause = c }) (has_decision es number n h verdict c a) none
