-- The last word on a call counts.
use Rattle.std.proofs.Common.{◌≡◌, ℕ, Bool, cond, eqb, List, [], ◌∷◌, ◌++◌, Option, Some, None, refl}
use Rattle.std.proofs.lemmas.Bool.{eq-eqb, ne_eqb}
use Rattle.ug_sysfs.specs.declared.script.Failing.{Failing}
use Rattle.ug_sysfs.specs.World.{fate}

pub fate_push : (n : ℕ) (o : Option Bool) (fs : List Failing) (f : Failing) → fate n o (fs ++ f ∷ []) ≡ cond (eqb f.call n) (Some f.effect) (fate n o fs)
fate_push n o [] f = refl
fate_push n o (g ∷ fs) f = fate_push n (cond (eqb g.call n) (Some g.effect) o) fs f

pub fate_last : (n : ℕ) (fs : List Failing) (f : Failing) → f.call ≡ n → fate n None (fs ++ f ∷ []) ≡ Some f.effect
fate_last n fs f h = rw (fate_push n None fs f) (rw (eq-eqb f.call n h) refl)

pub fate_other : (n : ℕ) (fs : List Failing) (f : Failing) → ¬ (f.call ≡ n) → fate n None (fs ++ f ∷ []) ≡ fate n None fs
fate_other n fs f h = rw (fate_push n None fs f) (rw (ne_eqb f.call n h) refl)
