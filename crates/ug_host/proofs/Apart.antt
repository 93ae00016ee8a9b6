-- Names that are sorted, and of which each differs from the next, are distinct.
use Rattle.std.proofs.Common.{◌≡◌, ℕ, suc, ◌+◌, ◌-◌, ◌<◌, ◌≤◌, true, false, List, [], ◌∷◌, length, slice_index_or, refl, sym, ap, subst, ◌∙◌, arith, add-one, inl, inr, true≢false}
use Rattle.std.specs.List.Sorted.{IsSorted}
use Rattle.std.specs.Ordering.{is_lt, ordering_reverse}
use Rattle.std.specs.declared.cmp.Ordering.{Ordering}
use Rattle.std.specs.declared.cmp.Ordering.TheVariants.{Less, Equal, Greater}
use Rattle.std.proofs.lemmas.Bool.{cases_lt}
use Rattle.std.proofs.lemmas.Cmp.{tied_itself}
use Rattle.std.proofs.lemmas.List.{get_or_default}
use Rattle.ug_types.specs.Elements.{Has, AllDistinct}
use Rattle.ug_types.specs.Names.{sweep_cmp}
use Rattle.ug_types.specs.Sweep.{sweep_total, sweep_exact}

-- each name up to a place differs from the one behind it
abbrev pub DifferUpTo : List (List ℕ) → ℕ → Type 0
DifferUpTo xs n = (k : ℕ) (d : List ℕ) → k + 1 < n → slice_index_or xs k d ≡ slice_index_or xs (k + 1) d → ⊥

abbrev IsBefore : List ℕ → List ℕ → Type 0
IsBefore a b = is_lt (sweep_cmp a b) ≡ true

before_by : (a b : List ℕ) (r : Ordering) → sweep_cmp a b ≡ r → is_lt (sweep_cmp b a) ≡ false → (a ≡ b → ⊥) → IsBefore a b
before_by a b Less e s ne = ap is_lt e
before_by a b Equal e s ne = absurd (ne (sweep_exact a b e))
before_by a b Greater e s ne = absurd (true≢false (sym (ap is_lt (sweep_total.antisymm b a ∙ ap ordering_reverse e)) ∙ s))

less_is : (r : Ordering) → is_lt r ≡ true → r ≡ Less
less_is Less e = refl
less_is Equal e = absurd (true≢false (sym e))
less_is Greater e = absurd (true≢false (sym e))

further : (x y z : List ℕ) → IsBefore x y → IsBefore y z → IsBefore x z
further x y z a b = ap is_lt (sweep_total.trans x y z (less_is (sweep_cmp x y) a) (less_is (sweep_cmp y z) b))

sorted_rest : (y : List ℕ) (ys : List (List ℕ)) → IsSorted sweep_cmp (y ∷ ys) → IsSorted sweep_cmp ys
sorted_rest y ys s = λ k d low h.
    let e : suc k + 1 ≡ suc (k + 1) = add-one (suc k) ∙ ap suc (sym (add-one k)) in
    let f : k + 1 ≡ suc k = add-one k in
    let within : suc k + 1 < length (y ∷ ys) = omega (arith, h) in
    let P : ℕ → ℕ → Type 0 = λ i j. is_lt (sweep_cmp (slice_index_or (y ∷ ys) i d) (slice_index_or (y ∷ ys) j d)) ≡ false in
    subst (λ (i : ℕ). P i (suc k)) e (s (suc k) d (omega arith) within)

differ_rest : (y : List ℕ) (ys : List (List ℕ)) → DifferUpTo (y ∷ ys) (length (y ∷ ys)) → DifferUpTo ys (length ys)
differ_rest y ys a = λ k d h same.
    let e : suc k + 1 ≡ suc (k + 1) = add-one (suc k) ∙ ap suc (sym (add-one k)) in
    let within : suc k + 1 < length (y ∷ ys) = omega (arith, h) in
    a (suc k) d within (subst (λ (i : ℕ). slice_index_or (y ∷ ys) (suc k) d ≡ slice_index_or (y ∷ ys) i d) (sym e) same)

first_before : (x : List ℕ) (ys : List (List ℕ)) → IsSorted sweep_cmp (x ∷ ys) → DifferUpTo (x ∷ ys) (length (x ∷ ys)) → (z : List ℕ) → Has ys z → IsBefore x z
first_before x [] s a z h = absurd h
first_before x (y ∷ ys) s a z h =
    let step : IsBefore x y = before_by x y (sweep_cmp x y) refl (s 0 x (omega arith) (omega arith)) (a 0 x (omega arith)) in
    elim h [
      | inl is ↦ subst (λ (v : List ℕ). IsBefore x v) is step
      | inr has ↦ further x y z step (first_before y ys (sorted_rest x (y ∷ ys) s) (differ_rest x (y ∷ ys) a) z has)
    ]

pub apart_distinct : (xs : List (List ℕ)) → IsSorted sweep_cmp xs → DifferUpTo xs (length xs) → AllDistinct xs
apart_distinct [] s a = tt
apart_distinct (x ∷ xs) s a =
    (λ h. true≢false (sym (first_before x xs s a x h) ∙ ap is_lt (tied_itself sweep_total x)), apart_distinct xs (sorted_rest x xs s) (differ_rest x xs a))

-- one place more, whose names the code compared
pub differ_more : (xs : List (List ℕ)) (i : ℕ) (a b : List ℕ) → 1 ≤ i → i < length xs → a ≡ slice_index_or xs (i - 1) a → b ≡ slice_index_or xs i b → (a ≡ b → ⊥) → DifferUpTo xs i → DifferUpTo xs (i + 1)
differ_more xs i a b low within ea eb ne before = λ k d h same. elim (cases_lt (k + 1) i) [
  | inl lt ↦ before k d lt same
  | inr ge ↦
      let at : k ≡ i - 1 = omega (arith, h, ge, low) in
      let behind : k + 1 ≡ i = omega (arith, h, ge, low) in
      let left : a ≡ slice_index_or xs k d = ea ∙ get_or_default xs (i - 1) a d (omega (arith, low, within)) ∙ ap (λ (j : ℕ). slice_index_or xs j d) (sym at) in
      let right : slice_index_or xs (k + 1) d ≡ b = ap (λ (j : ℕ). slice_index_or xs j d) behind ∙ get_or_default xs i d b within ∙ sym eb in
      ne (left ∙ same ∙ right)
]
