-- Sorted names, each once.
use Rattle.std.proofs.Common.{◌≡◌, ℕ, Bool, true, false, cond, nat_eq, List, [], ◌∷◌, ◌⊎◌, inl, inr, refl, sym, ◌∙◌, ap, subst, ◌↔◌}
use Rattle.std.specs.Cmp.Lexicographic.{pointwise}
use Rattle.std.specs.List.{AllByRecursion, dedup, dedup_from}
use Rattle.std.specs.List.Sorted.{IsSorted, IsStrictlySortedBy}
use Rattle.std.specs.Ordering.{is_lt}
use Rattle.std.specs.declared.cmp.Ordering.TheVariants.{Less}
use Rattle.std.proofs.lemmas.List.Kept.{IsStrictlySortedBy-dedup}
use Rattle.ug_types.specs.Sweep.{sweep_ties}
use Rattle.ug_types.proofs.Sorting.{to_sweep_order}
use Rattle.ug_table.proofs.Common.{Has, sweep_cmp, in_sweep_order, sweep_total, swept_before, AreInOrder, same_name}
use Rattle.ug_table.proofs.Marks.{order_has}
use Rattle.ug_table.proofs.NamedStandings.{same_is}

abbrev pub each_once : List (List ℕ) → List (List ℕ)
each_once names = dedup (pointwise nat_eq) names

each_before : (x : List ℕ) (ys : List (List ℕ)) → AllByRecursion (λ (y : List ℕ). sweep_cmp x y ≡ Less) ys → (n : List ℕ) → Has ys n → swept_before x n ≡ true
each_before x [] h n a = absurd a
each_before x (y ∷ ys) h n (inl e) = subst (λ (v : List ℕ). swept_before x v ≡ true) e (ap is_lt h.0)
each_before x (y ∷ ys) h n (inr a) = each_before x ys h.1 n a

strictly_in_order : (names : List (List ℕ)) → IsStrictlySortedBy sweep_cmp names → AreInOrder names
unfolding IsStrictlySortedBy
strictly_in_order [] h = tt
strictly_in_order (x ∷ names) h = (each_before x names h.0, strictly_in_order names h.1)

pub once_in_order : (names : List (List ℕ)) → IsSorted sweep_cmp names → AreInOrder (each_once names)
once_in_order names s = strictly_in_order (each_once names) (IsStrictlySortedBy-dedup sweep_total sweep_ties names s)

-- what is kept
from_has : (x : List ℕ) (ys : List (List ℕ)) (n : List ℕ) → Has (dedup_from (pointwise nat_eq) x ys) n → (x ≡ n) ⊎ Has ys n
from_has x [] n h = h
from_has x (y ∷ ys) n h = by (same_name y x) refl (λ k. from_has x ys n k) (λ k. from_has y ys n k) h
  where
    by : (v : Bool) → same_name y x ≡ v → (Has (dedup_from (pointwise nat_eq) x ys) n → (x ≡ n) ⊎ Has ys n) → (Has (dedup_from (pointwise nat_eq) y ys) n → (y ≡ n) ⊎ Has ys n)
        → Has (cond v (dedup_from (pointwise nat_eq) x ys) (x ∷ dedup_from (pointwise nat_eq) y ys)) n → (x ≡ n) ⊎ Has (y ∷ ys) n
    by true e f g k = elim (f k) [ inl a ↦ inl a | inr b ↦ inr (inr b) ]
    by false e f g (inl a) = inl a
    by false e f g (inr b) = inr (g b)

has_from : (x : List ℕ) (ys : List (List ℕ)) (n : List ℕ) → (x ≡ n) ⊎ Has ys n → Has (dedup_from (pointwise nat_eq) x ys) n
has_from x [] n h = h
has_from x (y ∷ ys) n h = by (same_name y x) refl (λ k. has_from x ys n k) (λ k. has_from y ys n k) h
  where
    by : (v : Bool) → same_name y x ≡ v → ((x ≡ n) ⊎ Has ys n → Has (dedup_from (pointwise nat_eq) x ys) n) → ((y ≡ n) ⊎ Has ys n → Has (dedup_from (pointwise nat_eq) y ys) n)
        → (x ≡ n) ⊎ ((y ≡ n) ⊎ Has ys n) → Has (cond v (dedup_from (pointwise nat_eq) x ys) (x ∷ dedup_from (pointwise nat_eq) y ys)) n
    by true e f g (inl a) = f (inl a)
    by true e f g (inr (inl b)) = f (inl (sym (same_is y x e) ∙ b))
    by true e f g (inr (inr c)) = f (inr c)
    by false e f g (inl a) = inl a
    by false e f g (inr b) = inr (g b)

once_has : (names : List (List ℕ)) (n : List ℕ) → Has (each_once names) n ↔ Has names n
once_has [] n = (λ h. h, λ h. h)
once_has (x ∷ names) n = (from_has x names n, has_from x names n)

pub same_names : (names sorted after : List (List ℕ)) → sorted ≡ in_sweep_order names → after ≡ each_once sorted → (n : List ℕ) → Has after n ↔ Has names n
same_names names sorted after e f n = (
  λ h. order_has names n (subst (λ (v : List (List ℕ)). Has v n) e ((once_has sorted n).0 (subst (λ (v : List (List ℕ)). Has v n) f h))),
  λ h. subst (λ (v : List (List ℕ)). Has v n) (sym f) ((once_has sorted n).1 (subst (λ (v : List (List ℕ)). Has v n) (sym e) (to_sweep_order names n h))),
)
