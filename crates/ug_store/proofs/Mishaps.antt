-- The last word on a call counts.
use Rattle.std.proofs.Common.{◌≡◌, ℕ, cond, nat_eq, List, [], ◌∷◌, ◌++◌, Option, Some, None, refl}
use Rattle.std.proofs.lemmas.Bool.{eq-eqb, ne_eqb}
use Rattle.ug_store.specs.declared.mishap.Planned.{Planned}
use Rattle.ug_store.specs.Scripted.{plan_at}

plan_push : (n : ℕ) (o : Option Planned) (ps : List Planned) (p : Planned) → plan_at n o (ps ++ p ∷ []) ≡ cond (nat_eq p.call n) (Some p) (plan_at n o ps)
plan_push n o [] p = refl
plan_push n o (q ∷ ps) p = plan_push n (cond (nat_eq q.call n) (Some q) o) ps p

pub plan_last : (n : ℕ) (ps : List Planned) (p : Planned) → p.call ≡ n → plan_at n None (ps ++ p ∷ []) ≡ Some p
plan_last n ps p h = rw (plan_push n None ps p) (rw (eq-eqb p.call n h) refl)

pub plan_other : (n : ℕ) (ps : List Planned) (p : Planned) → ¬ (p.call ≡ n) → plan_at n None (ps ++ p ∷ []) ≡ plan_at n None ps
plan_other n ps p h = rw (plan_push n None ps p) (rw (ne_eqb p.call n h) refl)
