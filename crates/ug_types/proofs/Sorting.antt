-- One list in the order of a sweep has given elements.
use Rattle.std.proofs.Common.{◌≡◌, ℕ, suc, ◌+◌, ◌<◌, Bool, true, false, cond, List, [], ◌∷◌, length, get_or, refl, sym, ap, subst, ◌∙◌, arith, add-one, inl, inr, ◌⊎◌, nat_eq, true≢false}
use Rattle.std.specs.Cmp.Lexicographic.{pointwise, bytes_decides}
use Rattle.std.specs.List.{count_by}
use Rattle.std.specs.List.Sorted.{IsSorted, IsPermutation}
use Rattle.std.specs.Ordering.{is_gt, is_lt, ordering_reverse}
use Rattle.std.specs.declared.cmp.Ordering.{Ordering}
use Rattle.std.specs.declared.cmp.Ordering.TheVariants.{Less, Equal, Greater}
use Rattle.std.proofs.lemmas.Cmp.{upto, tied_itself}
use Rattle.std.proofs.lemmas.List.Sums.{sum_by-cons}
use Rattle.std.proofs.lemmas.List.Sorted.{sum_by-IsPermutation}
use Rattle.std.proofs.lemmas.Bool.{cond-true, cond-false, cond_both}
use Rattle.ug_types.specs.Elements.{Has}
use Rattle.ug_types.specs.Names.{sweep_cmp}
use Rattle.ug_types.specs.Sweep.{in_sweep_place, in_sweep_order, sweep_total, sweep_exact}

-- how often x stands in the list
abbrev times : List ℕ → List (List ℕ) → ℕ
times x ys = count_by (λ y. pointwise nat_eq y x) ys

abbrev one : List ℕ → List ℕ → ℕ
one x y = cond (pointwise nat_eq y x) 1 0

times-cons : (x y : List ℕ) (ys : List (List ℕ)) → times x (y ∷ ys) ≡ one x y + times x ys
times-cons x y ys = sum_by-cons (one x) y ys

-- y isn't behind any of zs
abbrev IsFirst : List ℕ → List (List ℕ) → Type 0
IsFirst y [] = Unit {0}
IsFirst y (z ∷ zs) = (is_gt (sweep_cmp y z) ≡ false) × IsFirst y zs

abbrev Ascends : List (List ℕ) → Type 0
Ascends [] = Unit {0}
Ascends (y ∷ ys) = IsFirst y ys × Ascends ys

first_below : (x y : List ℕ) (zs : List (List ℕ)) → is_gt (sweep_cmp x y) ≡ false → IsFirst y zs → IsFirst x zs
first_below x y [] h f = tt
first_below x y (z ∷ zs) h f = (upto sweep_total x y z h f.0, first_below x y zs h f.1)

reversed : (r : Ordering) → is_gt (ordering_reverse r) ≡ is_lt r
reversed Less = refl
reversed Equal = refl
reversed Greater = refl

turned : (x y : List ℕ) → is_gt (sweep_cmp x y) ≡ is_lt (sweep_cmp y x)
turned x y = ap is_gt (sweep_total.antisymm x y) ∙ reversed (sweep_cmp y x)

not_both : (r : Ordering) → is_gt r ≡ true → is_lt r ≡ false
not_both Less h = absurd (true≢false (sym h))
not_both Equal h = refl
not_both Greater h = refl

after : (x y : List ℕ) → is_gt (sweep_cmp x y) ≡ true → is_gt (sweep_cmp y x) ≡ false
after x y h = turned y x ∙ not_both (sweep_cmp x y) h

sorted_rest : (y : List ℕ) (ys : List (List ℕ)) → IsSorted sweep_cmp (y ∷ ys) → IsSorted sweep_cmp ys
sorted_rest y ys s = λ k d low h.
    let e : suc k + 1 ≡ suc (k + 1) = add-one (suc k) ∙ ap suc (sym (add-one k)) in
    let f : k + 1 ≡ suc k = add-one k in
    let within : suc k + 1 < length (y ∷ ys) = omega (arith, h) in
    let P : ℕ → ℕ → Type 0 = λ i j. is_lt (sweep_cmp (get_or (y ∷ ys) i d) (get_or (y ∷ ys) j d)) ≡ false in
    subst (λ (i : ℕ). P i (suc k)) e (s (suc k) d (omega arith) within)

-- what a sort leaves, element by element
ascends_sorted : (ys : List (List ℕ)) → IsSorted sweep_cmp ys → Ascends ys
ascends_sorted [] s = tt
ascends_sorted (y ∷ []) s = (tt, tt)
ascends_sorted (y ∷ z ∷ zs) s =
    let up : Ascends (z ∷ zs) = ascends_sorted (z ∷ zs) (sorted_rest y (z ∷ zs) s) in
    let step : is_gt (sweep_cmp y z) ≡ false = turned y z ∙ s 0 y (omega arith) (omega arith) in
    ((step, first_below y z zs step up.0), up)

first_in_place : (y x : List ℕ) (ys : List (List ℕ)) → is_gt (sweep_cmp y x) ≡ false → IsFirst y ys → IsFirst y (in_sweep_place x ys)
first_in_place y x [] h f = (h, tt)
first_in_place y x (z ∷ zs) h f = cond_both (is_gt (sweep_cmp x z)) (z ∷ in_sweep_place x zs) (x ∷ z ∷ zs) (IsFirst y) (λ _. (f.0, first_in_place y x zs h f.1)) (λ _. (h, f))

ascends_in_place : (x : List ℕ) (ys : List (List ℕ)) → Ascends ys → Ascends (in_sweep_place x ys)
ascends_in_place x [] up = (tt, tt)
ascends_in_place x (y ∷ ys) up = cond_both (is_gt (sweep_cmp x y)) (y ∷ in_sweep_place x ys) (x ∷ y ∷ ys) Ascends
    (λ e. (first_in_place y x ys (after x y e) up.0, ascends_in_place x ys up.1))
    (λ e. ((e, first_below x y ys e up.0), up))

ascends_in_order : (ys : List (List ℕ)) → Ascends (in_sweep_order ys)
ascends_in_order [] = tt
ascends_in_order (y ∷ ys) = ascends_in_place y (in_sweep_order ys) (ascends_in_order ys)

times_in_place : (z x : List ℕ) (ys : List (List ℕ)) → times z (in_sweep_place x ys) ≡ one z x + times z ys
times_in_place z x [] = times-cons z x []
times_in_place z x (y ∷ ys) = cond_both (is_gt (sweep_cmp x y)) (y ∷ in_sweep_place x ys) (x ∷ y ∷ ys) (λ (l : List (List ℕ)). times z l ≡ one z x + times z (y ∷ ys))
    (λ _. omega (arith, times-cons z y (in_sweep_place x ys), times_in_place z x ys, times-cons z y ys))
    (λ _. times-cons z x (y ∷ ys))

times_in_order : (z : List ℕ) (ys : List (List ℕ)) → times z (in_sweep_order ys) ≡ times z ys
times_in_order z [] = refl
times_in_order z (y ∷ ys) = times_in_place z y (in_sweep_order ys) ∙ ap (λ (n : ℕ). one z y + n) (times_in_order z ys) ∙ sym (times-cons z y ys)

one_itself : (x : List ℕ) → one x x ≡ 1
one_itself x = cond-true (pointwise nat_eq x x) 1 0 ((bytes_decides x x).1 refl)

level : (r : Ordering) → is_gt r ≡ false → is_lt r ≡ false → r ≡ Equal
level Less h k = absurd (true≢false k)
level Equal h k = refl
level Greater h k = absurd (true≢false h)

counted : (z w : List ℕ) (zs : List (List ℕ)) → 0 < times z (w ∷ zs) → (w ≡ z) ⊎ (0 < times z zs)
counted z w zs h = by (pointwise nat_eq w z) refl
  where
    other : pointwise nat_eq w z ≡ false → one z w ≡ 0
    other e = cond-false (pointwise nat_eq w z) 1 0 e

    by : (b : Bool) → pointwise nat_eq w z ≡ b → (w ≡ z) ⊎ (0 < times z zs)
    by true e = inl ((bytes_decides w z).0 e)
    by false e = inr (omega (arith, times-cons z w zs, other e, h))

-- what stands in the list isn't before its first
behind_first : (z y : List ℕ) (zs : List (List ℕ)) → IsFirst y zs → 0 < times z zs → is_gt (sweep_cmp y z) ≡ false
behind_first z y [] f h = absurd (omega arith)
behind_first z y (w ∷ zs) f h = elim (counted z w zs h) [ inl e ↦ subst (λ (v : List ℕ). is_gt (sweep_cmp y v) ≡ false) e f.0 | inr k ↦ behind_first z y zs f.1 k ]

before_times : (z y : List ℕ) (ys : List (List ℕ)) → IsFirst y ys → 0 < times z (y ∷ ys) → is_gt (sweep_cmp y z) ≡ false
before_times z y ys f h = behind_first z y (y ∷ ys) (ap is_gt (tied_itself sweep_total y), f) h

alike : (x y : List ℕ) → is_gt (sweep_cmp x y) ≡ false → is_gt (sweep_cmp y x) ≡ false → x ≡ y
alike x y h k = sweep_exact x y (level (sweep_cmp x y) h (sym (turned y x) ∙ k))

-- two ascending lists with the same elements are one
same_ascending : (xs ys : List (List ℕ)) → Ascends xs → Ascends ys → ((z : List ℕ) → times z xs ≡ times z ys) → xs ≡ ys
same_ascending [] [] a b h = refl
same_ascending [] (y ∷ ys) a b h = let none : ⊥ = omega (arith, h y, times-cons y y ys, one_itself y) in absurd none
same_ascending (x ∷ xs) [] a b h = let none : ⊥ = omega (arith, h x, times-cons x x xs, one_itself x) in absurd none
same_ascending (x ∷ xs) (y ∷ ys) a b h =
    let there : 0 < times x (y ∷ ys) = omega (arith, h x, times-cons x x xs, one_itself x) in
    let here : 0 < times y (x ∷ xs) = omega (arith, h y, times-cons y y ys, one_itself y) in
    let e : x ≡ y = alike x y (before_times y x xs a.0 here) (before_times x y ys b.0 there) in
    let rest : (z : List ℕ) → times z xs ≡ times z ys = λ z. omega (arith, h z, times-cons z x xs, times-cons z y ys, ap (one z) e) in
    λ i. e i ∷ same_ascending xs ys a.1 b.1 rest i

pub sorted_once : (xs ys : List (List ℕ)) → IsPermutation xs ys → IsSorted sweep_cmp ys → ys ≡ in_sweep_order xs
sorted_once xs ys p s = same_ascending ys (in_sweep_order xs) (ascends_sorted ys s) (ascends_in_order xs) (λ z. sum_by-IsPermutation (one z) xs ys p ∙ sym (times_in_order z xs))

-- the sort neither adds nor loses an element

has_counted : (x : List ℕ) (ys : List (List ℕ)) → 0 < times x ys → Has ys x
has_counted x [] h = absurd (omega arith)
has_counted x (y ∷ ys) h = elim (counted x y ys h) [ inl e ↦ inl e | inr k ↦ inr (has_counted x ys k) ]

counted_has : (x : List ℕ) (ys : List (List ℕ)) → Has ys x → 0 < times x ys
counted_has x [] h = absurd h
counted_has x (y ∷ ys) (inl e) =
    let here : one x y ≡ 1 = cond-true (pointwise nat_eq y x) 1 0 ((bytes_decides y x).1 e) in
    omega (arith, times-cons x y ys)
counted_has x (y ∷ ys) (inr h) = omega (arith, times-cons x y ys, counted_has x ys h)

pub to_sweep_order : (names : List (List ℕ)) (x : List ℕ) → Has names x → Has (in_sweep_order names) x
to_sweep_order names x h = has_counted x (in_sweep_order names) (subst (λ (n : ℕ). 0 < n) (sym (times_in_order x names)) (counted_has x names h))

length_in_place : (name : List ℕ) (names : List (List ℕ)) → length (in_sweep_place name names) ≡ suc (length names)
length_in_place name [] = refl
length_in_place name (y ∷ ys) = cond_both (is_gt (sweep_cmp name y)) (y ∷ in_sweep_place name ys) (name ∷ y ∷ ys) (λ (l : List (List ℕ)). length l ≡ suc (suc (length ys))) (λ _. ap suc (length_in_place name ys)) (λ _. refl)

pub length-sweep_order : (names : List (List ℕ)) → length (in_sweep_order names) ≡ length names
length-sweep_order [] = refl
length-sweep_order (y ∷ ys) = length_in_place y (in_sweep_order ys) ∙ ap suc (length-sweep_order ys)
