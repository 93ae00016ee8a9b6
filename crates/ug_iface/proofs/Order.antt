-- One list in the order of interfaces has given elements.
use Rattle.std.proofs.Common.{◌≡◌, ℕ, zero, suc, ◌+◌, ◌<◌, Bool, true, false, cond, List, [], ◌∷◌, length, get_or, refl, sym, ap, subst, ◌∙◌, arith, add-one, inl, inr, ◌⊎◌, true≢false}
use Rattle.std.specs.Cmp.{IsTotalOrder}
use Rattle.std.specs.List.{count_by}
use Rattle.std.specs.List.Sorted.{IsSorted, IsPermutation}
use Rattle.std.specs.Ordering.{is_eq, is_gt, is_lt, nat_cmp, ordering_reverse, ordering_then}
use Rattle.std.specs.declared.cmp.Ordering.{Ordering}
use Rattle.std.specs.declared.cmp.Ordering.TheVariants.{Less, Equal, Greater}
use Rattle.std.proofs.lemmas.Cmp.{nat_cmp_total, on_total, then_total, tied_itself, upto}
use Rattle.std.proofs.lemmas.Map.Lookups.{exact_pairs, exact_unsigned}
use Rattle.std.proofs.lemmas.List.Sums.{sum_by-cons}
use Rattle.std.proofs.lemmas.List.Sorted.{IsPermutation-append_comm, IsPermutation-append_left, IsPermutation-cons, IsPermutation-refl, IsPermutation-trans, sum_by-IsPermutation}
use Rattle.std.proofs.lemmas.Bool.{cond-true, cond-false, cond_both}
use Rattle.ug_types.specs.Names.{sweep_cmp}
use Rattle.ug_types.specs.Sweep.{sweep_total, sweep_exact}
use Rattle.ug_iface.specs.declared.name.IfaceName.{IfaceName}
use Rattle.ug_iface.specs.Order.{iface_cmp, in_iface_order, in_iface_place}

-- ---- the order

pub iface_total : IsTotalOrder iface_cmp
iface_total =
    then_total (on_total (λ (a : IfaceName). a.device) sweep_total)
    (then_total (on_total (λ (a : IfaceName). a.config) nat_cmp_total) (on_total (λ (a : IfaceName). a.number) nat_cmp_total))

-- names that compare alike are one
iface_exact : (a b : IfaceName) → iface_cmp a b ≡ Equal → a ≡ b
iface_exact a b h =
    ap (λ (p : List ℕ × (ℕ × ℕ)). record { device = p.0; config = p.1.0; number = p.1.1 })
    (exact_pairs sweep_cmp (λ (x y : ℕ × ℕ). ordering_then (nat_cmp x.0 y.0) (nat_cmp x.1 y.1)) sweep_exact (exact_pairs nat_cmp nat_cmp exact_unsigned exact_unsigned) (a.device, (a.config, a.number)) (b.device, (b.config, b.number)) h)

abbrev same_iface : IfaceName → IfaceName → Bool
same_iface a b = is_eq (iface_cmp a b)

equal_by : (r : Ordering) → is_eq r ≡ true → r ≡ Equal
equal_by Less h = absurd (true≢false (sym h))
equal_by Equal h = refl
equal_by Greater h = absurd (true≢false (sym h))

iface_decides : (a b : IfaceName) → (same_iface a b ≡ true → a ≡ b) × (a ≡ b → same_iface a b ≡ true)
iface_decides a b = (λ h. iface_exact a b (equal_by (iface_cmp a b) h), λ e. subst (λ (c : IfaceName). same_iface a c ≡ true) e (ap is_eq (tied_itself iface_total a)))

-- ---- sorted lists

-- how often x stands in the list
abbrev times : IfaceName → List IfaceName → ℕ
times x ys = count_by (λ y. same_iface y x) ys

abbrev one : IfaceName → IfaceName → ℕ
one x y = cond (same_iface y x) 1 0

times-cons : (x y : IfaceName) (ys : List IfaceName) → times x (y ∷ ys) ≡ one x y + times x ys
times-cons x y ys = sum_by-cons (one x) y ys

-- y isn't behind any of zs
abbrev IsFirst : IfaceName → List IfaceName → Type 0
IsFirst y [] = Unit {0}
IsFirst y (z ∷ zs) = (is_gt (iface_cmp y z) ≡ false) × IsFirst y zs

abbrev Ascends : List IfaceName → Type 0
Ascends [] = Unit {0}
Ascends (y ∷ ys) = IsFirst y ys × Ascends ys

first_below : (x y : IfaceName) (zs : List IfaceName) → is_gt (iface_cmp x y) ≡ false → IsFirst y zs → IsFirst x zs
first_below x y [] h f = tt
first_below x y (z ∷ zs) h f = (upto iface_total x y z h f.0, first_below x y zs h f.1)

reversed : (r : Ordering) → is_gt (ordering_reverse r) ≡ is_lt r
reversed Less = refl
reversed Equal = refl
reversed Greater = refl

turned : (x y : IfaceName) → is_gt (iface_cmp x y) ≡ is_lt (iface_cmp y x)
turned x y = ap is_gt (iface_total.antisymm x y) ∙ reversed (iface_cmp y x)

not_both : (r : Ordering) → is_gt r ≡ true → is_lt r ≡ false
not_both Less h = absurd (true≢false (sym h))
not_both Equal h = refl
not_both Greater h = refl

after : (x y : IfaceName) → is_gt (iface_cmp x y) ≡ true → is_gt (iface_cmp y x) ≡ false
after x y h = turned y x ∙ not_both (iface_cmp x y) h

sorted_rest : (y : IfaceName) (ys : List IfaceName) → IsSorted iface_cmp (y ∷ ys) → IsSorted iface_cmp ys
sorted_rest y ys s = λ k d low h.
    let e : suc k + 1 ≡ suc (k + 1) = add-one (suc k) ∙ ap suc (sym (add-one k)) in
    let f : k + 1 ≡ suc k = add-one k in
    let within : suc k + 1 < length (y ∷ ys) = omega (arith, h) in
    let P : ℕ → ℕ → Type 0 = λ i j. is_lt (iface_cmp (get_or (y ∷ ys) i d) (get_or (y ∷ ys) j d)) ≡ false in
    subst (λ (i : ℕ). P i (suc k)) e (s (suc k) d (omega arith) within)

-- what a sort leaves, element by element
ascends_sorted : (ys : List IfaceName) → IsSorted iface_cmp ys → Ascends ys
ascends_sorted [] s = tt
ascends_sorted (y ∷ []) s = (tt, tt)
ascends_sorted (y ∷ z ∷ zs) s =
    let up : Ascends (z ∷ zs) = ascends_sorted (z ∷ zs) (sorted_rest y (z ∷ zs) s) in
    let step : is_gt (iface_cmp y z) ≡ false = turned y z ∙ s 0 y (omega arith) (omega arith) in
    ((step, first_below y z zs step up.0), up)

first_in_place : (y x : IfaceName) (ys : List IfaceName) → is_gt (iface_cmp y x) ≡ false → IsFirst y ys → IsFirst y (in_iface_place x ys)
first_in_place y x [] h f = (h, tt)
first_in_place y x (z ∷ zs) h f = cond_both (is_gt (iface_cmp x z)) (z ∷ in_iface_place x zs) (x ∷ z ∷ zs) (IsFirst y) (λ _. (f.0, first_in_place y x zs h f.1)) (λ _. (h, f))

ascends_in_place : (x : IfaceName) (ys : List IfaceName) → Ascends ys → Ascends (in_iface_place x ys)
ascends_in_place x [] up = (tt, tt)
ascends_in_place x (y ∷ ys) up = cond_both (is_gt (iface_cmp x y)) (y ∷ in_iface_place x ys) (x ∷ y ∷ ys) Ascends
    (λ e. (first_in_place y x ys (after x y e) up.0, ascends_in_place x ys up.1))
    (λ e. ((e, first_below x y ys e up.0), up))

ascends_in_order : (ys : List IfaceName) → Ascends (in_iface_order ys)
ascends_in_order [] = tt
ascends_in_order (y ∷ ys) = ascends_in_place y (in_iface_order ys) (ascends_in_order ys)

times_in_place : (z x : IfaceName) (ys : List IfaceName) → times z (in_iface_place x ys) ≡ one z x + times z ys
times_in_place z x [] = times-cons z x []
times_in_place z x (y ∷ ys) = cond_both (is_gt (iface_cmp x y)) (y ∷ in_iface_place x ys) (x ∷ y ∷ ys) (λ (l : List IfaceName). times z l ≡ one z x + times z (y ∷ ys))
    (λ _. omega (arith, times-cons z y (in_iface_place x ys), times_in_place z x ys, times-cons z y ys))
    (λ _. times-cons z x (y ∷ ys))

times_in_order : (z : IfaceName) (ys : List IfaceName) → times z (in_iface_order ys) ≡ times z ys
times_in_order z [] = refl
times_in_order z (y ∷ ys) = times_in_place z y (in_iface_order ys) ∙ ap (λ (n : ℕ). one z y + n) (times_in_order z ys) ∙ sym (times-cons z y ys)

one_itself : (x : IfaceName) → one x x ≡ 1
one_itself x = cond-true (same_iface x x) 1 0 ((iface_decides x x).1 refl)

level : (r : Ordering) → is_gt r ≡ false → is_lt r ≡ false → r ≡ Equal
level Less h k = absurd (true≢false k)
level Equal h k = refl
level Greater h k = absurd (true≢false h)

counted : (z w : IfaceName) (zs : List IfaceName) → 0 < times z (w ∷ zs) → (w ≡ z) ⊎ (0 < times z zs)
counted z w zs h = by (same_iface w z) refl
  where
    other : same_iface w z ≡ false → one z w ≡ 0
    other e = cond-false (same_iface w z) 1 0 e

    by : (b : Bool) → same_iface w z ≡ b → (w ≡ z) ⊎ (0 < times z zs)
    by true e = inl ((iface_decides w z).0 e)
    by false e = inr (omega (arith, times-cons z w zs, other e, h))

-- what stands in the list isn't before its first
behind_first : (z y : IfaceName) (zs : List IfaceName) → IsFirst y zs → 0 < times z zs → is_gt (iface_cmp y z) ≡ false
behind_first z y [] f h = absurd (omega arith)
behind_first z y (w ∷ zs) f h = elim (counted z w zs h) [ inl e ↦ subst (λ (v : IfaceName). is_gt (iface_cmp y v) ≡ false) e f.0 | inr k ↦ behind_first z y zs f.1 k ]

before_times : (z y : IfaceName) (ys : List IfaceName) → IsFirst y ys → 0 < times z (y ∷ ys) → is_gt (iface_cmp y z) ≡ false
before_times z y ys f h = behind_first z y (y ∷ ys) (ap is_gt (tied_itself iface_total y), f) h

alike : (x y : IfaceName) → is_gt (iface_cmp x y) ≡ false → is_gt (iface_cmp y x) ≡ false → x ≡ y
alike x y h k = iface_exact x y (level (iface_cmp x y) h (sym (turned y x) ∙ k))

-- two ascending lists with the same elements are one
same_ascending : (xs ys : List IfaceName) → Ascends xs → Ascends ys → ((z : IfaceName) → times z xs ≡ times z ys) → xs ≡ ys
same_ascending [] [] a b h = refl
same_ascending [] (y ∷ ys) a b h = let none : ⊥ = omega (arith, h y, times-cons y y ys, one_itself y) in absurd none
same_ascending (x ∷ xs) [] a b h = let none : ⊥ = omega (arith, h x, times-cons x x xs, one_itself x) in absurd none
same_ascending (x ∷ xs) (y ∷ ys) a b h =
    let there : 0 < times x (y ∷ ys) = omega (arith, h x, times-cons x x xs, one_itself x) in
    let here : 0 < times y (x ∷ xs) = omega (arith, h y, times-cons y y ys, one_itself y) in
    let e : x ≡ y = alike x y (before_times y x xs a.0 here) (before_times x y ys b.0 there) in
    let rest : (z : IfaceName) → times z xs ≡ times z ys = λ z. omega (arith, h z, times-cons z x xs, times-cons z y ys, ap (one z) e) in
    λ i. e i ∷ same_ascending xs ys a.1 b.1 rest i

pub sorted_once : (xs ys : List IfaceName) → IsPermutation xs ys → IsSorted iface_cmp ys → ys ≡ in_iface_order xs
sorted_once xs ys p s = same_ascending ys (in_iface_order xs) (ascends_sorted ys s) (ascends_in_order xs) (λ z. sum_by-IsPermutation (one z) xs ys p ∙ sym (times_in_order z xs))

-- ---- that list is one of those

-- the first two change places
flipped : (x y : IfaceName) (zs : List IfaceName) → IsPermutation (x ∷ y ∷ zs) (y ∷ x ∷ zs)
flipped x y zs = IsPermutation-append_left zs (x ∷ y ∷ []) (y ∷ x ∷ []) (IsPermutation-append_comm (x ∷ []) (y ∷ []))

placed : (x : IfaceName) (ys : List IfaceName) → IsPermutation (x ∷ ys) (in_iface_place x ys)
placed x [] = IsPermutation-refl (x ∷ [])
placed x (y ∷ ys) = cond_both (is_gt (iface_cmp x y)) (y ∷ in_iface_place x ys) (x ∷ y ∷ ys) (IsPermutation (x ∷ y ∷ ys))
    (λ e. IsPermutation-trans _ _ _ (flipped x y ys) (IsPermutation-cons y _ _ (placed x ys)))
    (λ e. IsPermutation-refl (x ∷ y ∷ ys))

pub ordered : (xs : List IfaceName) → IsPermutation xs (in_iface_order xs)
ordered [] = IsPermutation-refl []
ordered (x ∷ xs) = IsPermutation-trans _ _ _ (IsPermutation-cons x _ _ (ordered xs)) (placed x (in_iface_order xs))

sorted_more : (y z : IfaceName) (zs : List IfaceName) → is_gt (iface_cmp y z) ≡ false → IsSorted iface_cmp (z ∷ zs) → (k : ℕ) (d : IfaceName) → k + 1 < length (y ∷ z ∷ zs) → is_lt (iface_cmp (get_or (y ∷ z ∷ zs) (k + 1) d) (get_or (y ∷ z ∷ zs) k d)) ≡ false
sorted_more y z zs up rest zero d h = sym (turned y z) ∙ up
sorted_more y z zs up rest (suc k) d h =
    let ys : List IfaceName = y ∷ z ∷ zs in
    let e : suc k + 1 ≡ suc (k + 1) = add-one (suc k) ∙ ap suc (sym (add-one k)) in
    let within : k + 1 < length (z ∷ zs) = omega (arith, h) in
    let P : ℕ → ℕ → Type 0 = λ i j. is_lt (iface_cmp (get_or ys i d) (get_or ys j d)) ≡ false in
    subst (λ (i : ℕ). P i (suc k)) (sym e) (rest k d (omega arith) within)

sorted_so : (ys : List IfaceName) → Ascends ys → IsSorted iface_cmp ys
sorted_so [] up = λ k d low h. absurd (omega (arith, h))
sorted_so (y ∷ []) up = λ k d low h. absurd (omega (arith, h))
sorted_so (y ∷ z ∷ zs) up = λ k d low h. sorted_more y z zs up.0.0 (sorted_so (z ∷ zs) up.1) k d h

pub in_order : (xs : List IfaceName) → IsSorted iface_cmp (in_iface_order xs)
in_order xs = sorted_so (in_iface_order xs) (ascends_in_order xs)
