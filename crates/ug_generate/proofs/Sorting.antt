-- One list has given elements in an order in which no two tie.
use Rattle.std.proofs.Common.{◌≡◌, ℕ, zero, suc, ◌+◌, ◌<◌, Bool, true, false, cond, List, [], ◌∷◌, length, get_or, refl, sym, ap, subst, ◌∙◌, arith, add-one, inl, inr, ◌⊎◌, true≢false}
use Rattle.std.specs.Cmp.{IsTotalOrder}
use Rattle.std.specs.List.{count_by}
use Rattle.std.specs.List.Sorted.{IsSorted, IsPermutation}
use Rattle.std.specs.Ordering.{is_eq, is_gt, is_lt, ordering_reverse}
use Rattle.std.specs.declared.cmp.Ordering.{Ordering}
use Rattle.std.specs.declared.cmp.Ordering.TheVariants.{Less, Equal, Greater}
use Rattle.std.proofs.lemmas.Cmp.{upto, tied_itself}
use Rattle.std.proofs.lemmas.List.Sums.{sum_by-cons}
use Rattle.std.proofs.lemmas.List.Sorted.{sum_by-IsPermutation, IsPermutation-refl, IsPermutation-trans, IsPermutation-cons, IsPermutation-append_left, IsPermutation-append_comm}
use Rattle.std.proofs.lemmas.Bool.{cond-true, cond-false, cond_both}
use Rattle.ug_generate.specs.Policies.{insert_by, sorted_by}

-- an order that tells each two elements apart
pub record IsExact {X : Type 0} (R : X → X → Ordering) : Type 0 where
  pub total : IsTotalOrder R
  pub exact : (x y : X) → R x y ≡ Equal → x ≡ y

-- how often x stands in the list
abbrev one : {X : Type 0} → (X → X → Ordering) → X → X → ℕ
one R x y = cond (is_eq (R y x)) 1 0

abbrev times : {X : Type 0} → (X → X → Ordering) → X → List X → ℕ
times R x ys = count_by (λ y. is_eq (R y x)) ys

times-cons : {X : Type 0} (R : X → X → Ordering) (x y : X) (ys : List X) → times R x (y ∷ ys) ≡ one R x y + times R x ys
times-cons R x y ys = sum_by-cons (one R x) y ys

-- y isn't behind any of zs
abbrev IsFirst : {X : Type 0} → (X → X → Ordering) → X → List X → Type 0
IsFirst R y [] = Unit {0}
IsFirst R y (z ∷ zs) = (is_gt (R y z) ≡ false) × IsFirst R y zs

abbrev Ascends : {X : Type 0} → (X → X → Ordering) → List X → Type 0
Ascends R [] = Unit {0}
Ascends R (y ∷ ys) = IsFirst R y ys × Ascends R ys

-- ---- orders

reversed : (r : Ordering) → is_gt (ordering_reverse r) ≡ is_lt r
reversed Less = refl
reversed Equal = refl
reversed Greater = refl

turned : {X : Type 0} (R : X → X → Ordering) (o : IsTotalOrder R) (x y : X) → is_gt (R x y) ≡ is_lt (R y x)
turned R o x y = ap is_gt (o.antisymm x y) ∙ reversed (R y x)

not_both : (r : Ordering) → is_gt r ≡ true → is_lt r ≡ false
not_both Less h = absurd (true≢false (sym h))
not_both Equal h = refl
not_both Greater h = refl

after : {X : Type 0} (R : X → X → Ordering) (o : IsTotalOrder R) (x y : X) → is_gt (R x y) ≡ true → is_gt (R y x) ≡ false
after R o x y h = turned R o y x ∙ not_both (R x y) h

level : (r : Ordering) → is_gt r ≡ false → is_lt r ≡ false → r ≡ Equal
level Less h k = absurd (true≢false k)
level Equal h k = refl
level Greater h k = absurd (true≢false h)

alike : {X : Type 0} (R : X → X → Ordering) (e : IsExact R) (x y : X) → is_gt (R x y) ≡ false → is_gt (R y x) ≡ false → x ≡ y
alike R e x y h k = e.exact x y (level (R x y) h (sym (turned R e.total y x) ∙ k))

equal_is : (r : Ordering) → is_eq r ≡ true → r ≡ Equal
equal_is Less h = absurd (true≢false (sym h))
equal_is Equal h = refl
equal_is Greater h = absurd (true≢false (sym h))

-- ---- what a sort leaves, element by element

first_below : {X : Type 0} (R : X → X → Ordering) (o : IsTotalOrder R) (x y : X) (zs : List X) → is_gt (R x y) ≡ false → IsFirst R y zs → IsFirst R x zs
first_below R o x y [] h f = tt
first_below R o x y (z ∷ zs) h f = (upto o x y z h f.0, first_below R o x y zs h f.1)

next_place : (k : ℕ) → suc k + 1 ≡ suc (k + 1)
next_place k = add-one (suc k) ∙ ap suc (sym (add-one k))

sorted_rest : {X : Type 0} (R : X → X → Ordering) (y : X) (ys : List X) → IsSorted R (y ∷ ys) → IsSorted R ys
sorted_rest R y ys s = λ k d low h.
    let f : k + 1 ≡ suc k = add-one k in
    let within : suc k + 1 < length (y ∷ ys) = omega (arith, h) in
    subst (λ (i : ℕ). is_lt (R (get_or (y ∷ ys) i d) (get_or (y ∷ ys) (suc k) d)) ≡ false) (next_place k) (s (suc k) d (omega arith) within)

ascends_sorted : {X : Type 0} (R : X → X → Ordering) (o : IsTotalOrder R) (ys : List X) → IsSorted R ys → Ascends R ys
ascends_sorted R o [] s = tt
ascends_sorted R o (y ∷ []) s = (tt, tt)
ascends_sorted R o (y ∷ z ∷ zs) s =
    let up : Ascends R (z ∷ zs) = ascends_sorted R o (z ∷ zs) (sorted_rest R y (z ∷ zs) s) in
    let step : is_gt (R y z) ≡ false = turned R o y z ∙ s 0 y (omega arith) (omega arith) in
    ((step, first_below R o y z zs step up.0), up)

sorted_ascending : {X : Type 0} (R : X → X → Ordering) (o : IsTotalOrder R) (ys : List X) → Ascends R ys → IsSorted R ys
sorted_ascending R o [] up k d low h = absurd (omega (arith, h))
sorted_ascending R o (y ∷ []) up k d low h = absurd (omega (arith, h))
sorted_ascending R o (y ∷ z ∷ zs) up zero d low h = sym (turned R o y z) ∙ up.0.0
sorted_ascending R o (y ∷ z ∷ zs) up (suc k) d low h =
    let within : k + 1 < length (z ∷ zs) = omega (arith, h, next_place k) in
    subst (λ (i : ℕ). is_lt (R (get_or (y ∷ z ∷ zs) i d) (get_or (y ∷ z ∷ zs) (suc k) d)) ≡ false) (sym (next_place k)) (sorted_ascending R o (z ∷ zs) up.1 k d (omega arith) within)

-- ---- the list that is sorted

first_inserted : {X : Type 0} (R : X → X → Ordering) (y x : X) (ys : List X) → is_gt (R y x) ≡ false → IsFirst R y ys → IsFirst R y (insert_by R x ys)
first_inserted R y x [] h f = (h, tt)
first_inserted R y x (z ∷ zs) h f = cond_both (is_gt (R x z)) (z ∷ insert_by R x zs) (x ∷ z ∷ zs) (IsFirst R y) (λ _. (f.0, first_inserted R y x zs h f.1)) (λ _. (h, f))

ascends_inserted : {X : Type 0} (R : X → X → Ordering) (o : IsTotalOrder R) (x : X) (ys : List X) → Ascends R ys → Ascends R (insert_by R x ys)
ascends_inserted R o x [] up = (tt, tt)
ascends_inserted R o x (y ∷ ys) up = cond_both (is_gt (R x y)) (y ∷ insert_by R x ys) (x ∷ y ∷ ys) (Ascends R)
    (λ e. (first_inserted R y x ys (after R o x y e) up.0, ascends_inserted R o x ys up.1))
    (λ e. ((e, first_below R o x y ys e up.0), up))

ascends_in_order : {X : Type 0} (R : X → X → Ordering) (o : IsTotalOrder R) (ys : List X) → Ascends R (sorted_by R ys)
ascends_in_order R o [] = tt
ascends_in_order R o (y ∷ ys) = ascends_inserted R o y (sorted_by R ys) (ascends_in_order R o ys)

inserted_moves : {X : Type 0} (R : X → X → Ordering) (x : X) (ys : List X) → IsPermutation (x ∷ ys) (insert_by R x ys)
inserted_moves R x [] = IsPermutation-refl (x ∷ [])
inserted_moves R x (y ∷ ys) = cond_both (is_gt (R x y)) (y ∷ insert_by R x ys) (x ∷ y ∷ ys) (IsPermutation (x ∷ y ∷ ys))
    (λ _. IsPermutation-trans (x ∷ y ∷ ys) (y ∷ x ∷ ys) (y ∷ insert_by R x ys)
    (IsPermutation-append_left ys (x ∷ y ∷ []) (y ∷ x ∷ []) (IsPermutation-append_comm (x ∷ []) (y ∷ [])))
    (IsPermutation-cons y (x ∷ ys) (insert_by R x ys) (inserted_moves R x ys)))
    (λ _. IsPermutation-refl (x ∷ y ∷ ys))

pub sorting_moves : {X : Type 0} (R : X → X → Ordering) (xs : List X) → IsPermutation xs (sorted_by R xs)
sorting_moves R [] = IsPermutation-refl []
sorting_moves R (x ∷ xs) =
    IsPermutation-trans (x ∷ xs) (x ∷ sorted_by R xs) (sorted_by R (x ∷ xs)) (IsPermutation-cons x xs (sorted_by R xs) (sorting_moves R xs)) (inserted_moves R x (sorted_by R xs))

pub sorting_sorts : {X : Type 0} (R : X → X → Ordering) (o : IsTotalOrder R) (xs : List X) → IsSorted R (sorted_by R xs)
sorting_sorts R o xs = sorted_ascending R o (sorted_by R xs) (ascends_in_order R o xs)

-- ---- two ascending lists with the same elements are one

one_itself : {X : Type 0} (R : X → X → Ordering) (o : IsTotalOrder R) (x : X) → one R x x ≡ 1
one_itself R o x = cond-true (is_eq (R x x)) 1 0 (ap is_eq (tied_itself o x))

counted : {X : Type 0} (R : X → X → Ordering) (e : IsExact R) (z w : X) (zs : List X) → 0 < times R z (w ∷ zs) → (w ≡ z) ⊎ (0 < times R z zs)
counted R e z w zs h = by (is_eq (R w z)) refl
  where
    other : is_eq (R w z) ≡ false → one R z w ≡ 0
    other q = cond-false (is_eq (R w z)) 1 0 q

    by : (b : Bool) → is_eq (R w z) ≡ b → (w ≡ z) ⊎ (0 < times R z zs)
    by true q = inl (e.exact w z (equal_is (R w z) q))
    by false q = inr (omega (arith, times-cons R z w zs, other q, h))

-- what stands in the list isn't before its first
behind_first : {X : Type 0} (R : X → X → Ordering) (e : IsExact R) (z y : X) (zs : List X) → IsFirst R y zs → 0 < times R z zs → is_gt (R y z) ≡ false
behind_first R e z y [] f h = absurd (omega arith)
behind_first R e z y (w ∷ zs) f h = elim (counted R e z w zs h) [
  | inl q ↦ subst (λ v. is_gt (R y v) ≡ false) q f.0
  | inr k ↦ behind_first R e z y zs f.1 k
]

before_times : {X : Type 0} (R : X → X → Ordering) (e : IsExact R) (z y : X) (ys : List X) → IsFirst R y ys → 0 < times R z (y ∷ ys) → is_gt (R y z) ≡ false
before_times R e z y ys f h = behind_first R e z y (y ∷ ys) (ap is_gt (tied_itself e.total y), f) h

same_ascending : {X : Type 0} (R : X → X → Ordering) (e : IsExact R) (xs ys : List X) → Ascends R xs → Ascends R ys → ((z : X) → times R z xs ≡ times R z ys) → xs ≡ ys
same_ascending R e [] [] a b h = refl
same_ascending R e [] (y ∷ ys) a b h = let none : ⊥ = omega (arith, h y, times-cons R y y ys, one_itself R e.total y) in absurd none
same_ascending R e (x ∷ xs) [] a b h = let none : ⊥ = omega (arith, h x, times-cons R x x xs, one_itself R e.total x) in absurd none
same_ascending R e (x ∷ xs) (y ∷ ys) a b h =
    let there : 0 < times R x (y ∷ ys) = omega (arith, h x, times-cons R x x xs, one_itself R e.total x) in
    let here : 0 < times R y (x ∷ xs) = omega (arith, h y, times-cons R y y ys, one_itself R e.total y) in
    let q : x ≡ y = alike R e x y (before_times R e y x xs a.0 here) (before_times R e x y ys b.0 there) in
    let rest : (z : _) → times R z xs ≡ times R z ys = λ z. omega (arith, h z, times-cons R z x xs, times-cons R z y ys, ap (one R z) q) in
    λ i. q i ∷ same_ascending R e xs ys a.1 b.1 rest i

pub sorted_once : {X : Type 0} (R : X → X → Ordering) (e : IsExact R) (xs ys : List X) → IsPermutation xs ys → IsSorted R ys → ys ≡ sorted_by R xs
sorted_once R e xs ys p s =
    same_ascending R e ys (sorted_by R xs) (ascends_sorted R e.total ys s) (ascends_in_order R e.total xs)
    (λ z. sum_by-IsPermutation (one R z) xs ys p ∙ sym (sum_by-IsPermutation (one R z) xs (sorted_by R xs) (sorting_moves R xs)))
