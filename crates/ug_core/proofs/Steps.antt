-- Lists of rulings and changes, and those of rulings alone.
use Rattle.std.proofs.Common.{◌≡◌, List, [], ◌∷◌, ◌++◌, inl, inr, refl, sym, ◌∙◌, ap}
use Rattle.std.specs.Prelude.{map}
use Rattle.ug_types.specs.Elements.{Has}
use Rattle.ug_core.specs.Changes.{changed_by}
use Rattle.ug_core.specs.Policy.{Judging}
use Rattle.ug_core.specs.Rulings.{CanTake, Changed, Decided, PolicyStep, Ruled, Ruling, Told, Was_changed, after_ruling, after_steps, decision_by, told_by}
use Rattle.ug_core.specs.declared.changes.Change.{Change}
use Rattle.ug_core.proofs.Splits.{never_in}
use Rattle.ug_core.proofs.Walk.{after_rulings, decisions_by}

pub steps_append : (p : Judging) (ss ts : List PolicyStep) → after_steps p (ss ++ ts) ≡ after_steps (after_steps p ss) ts
steps_append p [] ts = refl
steps_append p (Ruled r ∷ ss) ts = steps_append (after_ruling p r) ss ts
steps_append p (Changed change ∷ ss) ts = steps_append (changed_by change p) ss ts

pub told_then : (p : Judging) (ss ts : List PolicyStep) → told_by p (ss ++ ts) ≡ told_by p ss ++ told_by (after_steps p ss) ts
told_then p [] ts = refl
told_then p (Ruled r ∷ ss) ts = ap (λ (l : List Told). Decided (decision_by p r) ∷ l) (told_then (after_ruling p r) ss ts)
told_then p (Changed change ∷ ss) ts = ap (λ (l : List Told). Was_changed change ∷ l) (told_then (changed_by change p) ss ts)

pub can_then : (p : Judging) (ss ts : List PolicyStep) → CanTake p ss → CanTake (after_steps p ss) ts → CanTake p (ss ++ ts)
can_then p [] ts a b = b
can_then p (Ruled r ∷ ss) ts a b = can_then (after_ruling p r) ss ts a b
can_then p (Changed change ∷ ss) ts a b = (a.0, can_then (changed_by change p) ss ts a.1 b)

-- rulings alone

abbrev pub ruled : List Ruling → List PolicyStep
ruled rs = map Ruled rs

pub after_ruled : (p : Judging) (rs : List Ruling) → after_steps p (ruled rs) ≡ after_rulings p rs
after_ruled p [] = refl
after_ruled p (r ∷ rs) = after_ruled (after_ruling p r) rs

pub told_ruled : (p : Judging) (rs : List Ruling) → told_by p (ruled rs) ≡ map Decided (decisions_by p rs)
told_ruled p [] = refl
told_ruled p (r ∷ rs) = ap (λ (l : List Told). Decided (decision_by p r) ∷ l) (told_ruled (after_ruling p r) rs)

pub can_ruled : (p : Judging) (rs : List Ruling) → CanTake p (ruled rs)
can_ruled p [] = tt
can_ruled p (r ∷ rs) = can_ruled (after_ruling p r) rs

pub ruled_unchanged : (rs : List Ruling) (change : Change) → Has (ruled rs) (Changed change) → ⊥
ruled_unchanged [] change h = h
ruled_unchanged (q ∷ rs) change (inl same) = let none : ⊥ = cc in none
ruled_unchanged (q ∷ rs) change (inr h) = ruled_unchanged rs change h

-- where a step stands among rulings, a ruling stands
pub record RuledAt (rs : List Ruling) (more : List PolicyStep) (r : Ruling) : Type 0 where
  pub earlier : List Ruling
  pub later : List Ruling
  pub at : rs ≡ earlier ++ r ∷ later
  pub more_is : more ≡ ruled earlier

pub ruled_at : (rs : List Ruling) (more : List PolicyStep) (r : Ruling) (after : List PolicyStep) → ruled rs ≡ more ++ Ruled r ∷ after → RuledAt rs more r
ruled_at [] more r after e = absurd (never_in more (Ruled r) after e)
ruled_at (q ∷ rs) [] r after e = let same : q ≡ r = cc in record { earlier = []; later = rs; at = ap (λ (x : Ruling). x ∷ rs) same; more_is = refl }
ruled_at (q ∷ rs) (m ∷ more) r after e =
    let head : Ruled q ≡ m = cc in
    let tail : ruled rs ≡ more ++ Ruled r ∷ after = cc in
    let k = ruled_at rs more r after tail in
    record { earlier = q ∷ k.earlier; later = k.later; at = ap (λ (l : List Ruling). q ∷ l) k.at; more_is = ap (λ (x : PolicyStep). x ∷ more) (sym head) ∙ ap (λ (l : List PolicyStep). Ruled q ∷ l) k.more_is }
