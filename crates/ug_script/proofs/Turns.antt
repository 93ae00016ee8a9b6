-- A move is put where its turn is.
use Rattle.std.proofs.Common.{◌≡◌, ℕ, suc, ◌-◌, ◌<◌, ◌≤◌, Bool, true, false, cond, not, nat_eq, nat_lt, List, [], ◌∷◌, ◌++◌, length, take, drop, Some, None, refl, sym, ap, subst, ◌∙◌, append-nil, arith}
use Rattle.std.specs.List.{AllByRecursion, position_or_len, slice_get}
use Rattle.std.proofs.lemmas.Bool.Decides.{nat_tests}
use Rattle.std.proofs.lemmas.List.{take-append-drop, take_all}
use Rattle.std.proofs.lemmas.List.Elements.{filter-append}
use Rattle.std.proofs.Math.Seq.{drop-length, take-length}
use Rattle.ug_sysfs.specs.declared.script.Scheduled.{Scheduled}
use Rattle.ug_sysfs.specs.Queue.{AreInTurn, IsSchedule, comes_later, goes_last, isnt_later, of_turn, or_end, queue_place, turn_of, with_move}
use Rattle.ug_sysfs.proofs.Points.{later, not_later}

abbrev AreLow : Scheduled → List Scheduled → Type 0
AreLow m ms = AllByRecursion (λ x. turn_of x ≤ turn_of m) ms

abbrev AreHigh : Scheduled → List Scheduled → Type 0
AreHigh m ms = AllByRecursion (λ x. turn_of m < turn_of x) ms

-- ---- where it is put

high_behind : (m x : Scheduled) (xs : List Scheduled) → turn_of m < turn_of x → AllByRecursion (λ y. turn_of x ≤ turn_of y) xs → AreHigh m xs
high_behind m x [] h each = tt
high_behind m x (y ∷ xs) h each = (omega (arith, h, each.0), high_behind m x xs h each.1)

abbrev IsCutFor : Scheduled → List Scheduled → ℕ → Type 0
IsCutFor m ms place = AreLow m (take place ms) × AreHigh m (drop place ms)

first_cut : (m : Scheduled) (ms : List Scheduled) → AreInTurn ms → IsCutFor m ms (position_or_len (λ x. comes_later x m) ms)
first_cut m [] h = (tt, tt)
first_cut m (x ∷ ms) h = by (comes_later x m) refl (first_cut m ms h.1)
  where
    by : (v : Bool) → comes_later x m ≡ v → IsCutFor m ms (position_or_len (λ y. comes_later y m) ms) → IsCutFor m (x ∷ ms) (position_or_len (λ y. comes_later y m) (x ∷ ms))
    by true e c =
        let first : position_or_len (λ y. comes_later y m) (x ∷ ms) ≡ 0 = rw e refl in
        subst (IsCutFor m (x ∷ ms)) (sym first) (tt, (later x m e, high_behind m x ms (later x m e) h.0))
    by false e c =
        let next : position_or_len (λ y. comes_later y m) (x ∷ ms) ≡ suc (position_or_len (λ y. comes_later y m) ms) = rw e (omega arith) in
        subst (IsCutFor m (x ∷ ms)) (sym next) ((not_later x m e, c.0), c.1)

last_low : (m : Scheduled) (ms : List Scheduled) → AreInTurn ms → goes_last m ms ≡ true → AreLow m ms
last_low m [] h last = tt
last_low m (x ∷ []) h last = by (comes_later x m) refl last
  where
    by : (v : Bool) → comes_later x m ≡ v → not v ≡ true → AreLow m (x ∷ [])
    by true e k = let none : ⊥ = cc in absurd none
    by false e k = (not_later x m e, tt)
last_low m (x ∷ y ∷ ms) h last =
    let n : length (x ∷ y ∷ ms) - 1 ≡ suc (length (y ∷ ms) - 1) = omega arith in
    let low = last_low m (y ∷ ms) h.1 (sym (ap (λ (k : ℕ). isnt_later m (slice_get (x ∷ y ∷ ms) k)) n) ∙ last) in
    (omega (arith, h.0.0, low.0), low)

cut_at_end : (m : Scheduled) (ms : List Scheduled) → AreLow m ms → IsCutFor m ms (length ms)
cut_at_end m ms low = (subst (AreLow m) (sym (take-length ms)) low, subst (AreHigh m) (sym (drop-length ms)) tt)

place_cut : (m : Scheduled) (ms : List Scheduled) → AreInTurn ms → IsCutFor m ms (queue_place m ms)
place_cut m ms h = by (position_or_len (λ x. comes_later x m) ms) (goes_last m ms) (nat_lt (position_or_len (λ x. comes_later x m) ms) (length ms)) (first_cut m ms h) refl refl
  where
    by : (first : ℕ) (u v : Bool) → IsCutFor m ms first → goes_last m ms ≡ u → nat_lt first (length ms) ≡ v → IsCutFor m ms (cond u (length ms) (or_end (cond v (Some first) None) ms))
    by first true v c e f = cut_at_end m ms (last_low m ms h e)
    by first false true c e f = c
    by first false false c e f =
        let long : length ms ≤ first = grind (arith, nat_tests) in
        cut_at_end m ms (subst (AreLow m) (take_all first ms long) c.0)

-- ---- what is there then

none_high : (n : ℕ) (m : Scheduled) (xs : List Scheduled) → turn_of m ≡ n → AreHigh m xs → of_turn n xs ≡ []
none_high n m [] e h = refl
none_high n m (x ∷ xs) e h =
    let other : nat_eq (turn_of x) n ≡ false = differ (turn_of x) n (turn_of m) e h.0 in
    rw other (none_high n m xs e h.1)
  where
    differ : (a n b : ℕ) → b ≡ n → b < a → nat_eq a n ≡ false
    differ a n b e k = grind (arith, nat_tests)

turn_put : (m : Scheduled) (xs ys : List Scheduled) → AreInTurn (xs ++ ys) → AreLow m xs → AreHigh m ys → AreInTurn (xs ++ m ∷ ys)
turn_put m [] ys h low high = (each ys high, h)
  where
    each : (ys : List Scheduled) → AreHigh m ys → AllByRecursion (λ y. turn_of m ≤ turn_of y) ys
    each [] k = tt
    each (y ∷ ys) k = (omega (arith, k.0), each ys k.1)
turn_put m (x ∷ xs) ys h low high = (each xs h.0, turn_put m xs ys h.1 low.1 high)
  where
    each : (zs : List Scheduled) → AllByRecursion (λ z. turn_of x ≤ turn_of z) (zs ++ ys) → AllByRecursion (λ z. turn_of x ≤ turn_of z) (zs ++ m ∷ ys)
    each [] k = (low.0, k)
    each (z ∷ zs) k = (k.0, each zs k.1)

put : (written xs ys : List Scheduled) (m : Scheduled) → IsSchedule written (xs ++ ys) → AreLow m xs → AreHigh m ys → IsSchedule (written ++ m ∷ []) (xs ++ m ∷ ys)
put written xs ys m h low high = record {
  in_turn = turn_put m xs ys h.in_turn low high;
  each = λ n. filter-append (λ x. nat_eq (turn_of x) n) xs (m ∷ ys) ∙ by n (nat_eq (turn_of m) n) refl ∙ sym (filter-append (λ x. nat_eq (turn_of x) n) written (m ∷ []));
}
  where
    before : (n : ℕ) → of_turn n xs ++ of_turn n ys ≡ of_turn n written
    before n = sym (filter-append (λ x. nat_eq (turn_of x) n) xs ys) ∙ h.each n

    by : (n : ℕ) (v : Bool) → nat_eq (turn_of m) n ≡ v → of_turn n xs ++ of_turn n (m ∷ ys) ≡ of_turn n written ++ of_turn n (m ∷ [])
    by n true e =
        let same : turn_of m ≡ n = grind (arith, nat_tests) in
        let none : of_turn n ys ≡ [] = none_high n m ys same high in
        let all : of_turn n xs ≡ of_turn n written = sym (append-nil (of_turn n xs)) ∙ ap (λ (l : List Scheduled). of_turn n xs ++ l) (sym none) ∙ before n in
        rw e (ap (λ (l : List Scheduled). of_turn n xs ++ m ∷ l) none ∙ ap (λ (l : List Scheduled). l ++ m ∷ []) all)
    by n false e = rw e (before n ∙ sym (append-nil (of_turn n written)))

pub one_more_move : (written ms : List Scheduled) (m : Scheduled) → IsSchedule written ms → IsSchedule (written ++ m ∷ []) (with_move m ms)
one_more_move written ms m h =
    let place : ℕ = queue_place m ms in
    let c = place_cut m ms h.in_turn in
    put written (take place ms) (drop place ms) m (subst (IsSchedule written) (sym (take-append-drop place ms)) h) c.0 c.1
