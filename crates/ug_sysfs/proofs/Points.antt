-- Where a search by halves comes out, in moves that are in order.
use Rattle.std.proofs.Common.{◌≡◌, ℕ, zero, suc, ◌+◌, ◌-◌, ◌*◌, ◌<◌, ◌≤◌, Bool, true, false, not, ◌&&◌, ◌||◌, cond, nat_eq, nat_lt, List, [], ◌∷◌, length, insert, get_or, Some, None, Result, Ok, Err, refl, sym, ◌∙◌, ap, subst, arith}
use Rattle.std.specs.List.{position_or_len, slice_get}
use Rattle.std.specs.Result.{OnErr, OnOk}
use Rattle.std.specs.List.Sorted.{IsPartitionedBy, IsPartitionPoint}
use Rattle.std.proofs.lemmas.Bool.{both_ways, not-true}
use Rattle.std.proofs.lemmas.Bool.Decides.{nat_tests}
use Rattle.std.proofs.lemmas.List.Sorted.{IsNonDecreasingBy-insert}
use Rattle.std.proofs.lemmas.Option.{slice_get-get_or}
use Rattle.ug_sysfs.specs.declared.script.Scheduled.{Scheduled}
use Rattle.ug_sysfs.specs.Queue.{AreByTurn, comes_later, first_later, goes_last, isnt_later, or_end, queue_place, turn_of, with_move}

-- ---- turns

later_by : (c d : ℕ) (a b : Bool) → (nat_lt d c || (nat_eq d c && (a && not b))) ≡ true → d * 2 + cond b 1 0 < c * 2 + cond a 1 0
later_by c d true true h = grind (arith, nat_tests)
later_by c d true false h = grind (arith, nat_tests)
later_by c d false true h = grind (arith, nat_tests)
later_by c d false false h = grind (arith, nat_tests)

not_later_by : (c d : ℕ) (a b : Bool) → (nat_lt d c || (nat_eq d c && (a && not b))) ≡ false → c * 2 + cond a 1 0 ≤ d * 2 + cond b 1 0
not_later_by c d true true h = grind (arith, nat_tests)
not_later_by c d true false h = grind (arith, nat_tests)
not_later_by c d false true h = grind (arith, nat_tests)
not_later_by c d false false h = grind (arith, nat_tests)

pub later : (x m : Scheduled) → comes_later x m ≡ true → turn_of m < turn_of x
later x m h = later_by x.call m.call x.after m.after h

pub not_later : (x m : Scheduled) → comes_later x m ≡ false → turn_of x ≤ turn_of m
not_later x m h = not_later_by x.call m.call x.after m.after h

so_not_later : (x m : Scheduled) → turn_of x ≤ turn_of m → comes_later x m ≡ false
so_not_later x m le = by (comes_later x m) refl
  where
    by : (v : Bool) → comes_later x m ≡ v → comes_later x m ≡ false
    by true e = let lt = later x m e in absurd (omega (arith, lt, le))
    by false e = e

pub parted : (m : Scheduled) (ms : List Scheduled) → AreByTurn ms → IsPartitionedBy (λ x. not (comes_later x m)) ms
parted m ms up i j d le lt h =
    let low = not_later (get_or ms j d) m (not-true (comes_later (get_or ms j d) m) h) in
    ap not (so_not_later (get_or ms i d) m (omega (arith, up i j d le lt, low)))

-- ---- places

point : (p : Scheduled → Bool) (ms : List Scheduled) (i : ℕ) → i ≤ length ms → ((k : ℕ) (d : Scheduled) → k < i → p (get_or ms k d) ≡ false) → ((d : Scheduled) → i < length ms → p (get_or ms i d) ≡ true) → position_or_len p ms ≡ i
point p [] i le low high = omega (arith, le)
point p (x ∷ ms) zero le low high = rw (high x (omega arith)) refl
point p (x ∷ ms) (suc i) le low high =
    let rest : position_or_len p ms ≡ i = point p ms i (omega (arith, le)) (λ k d lt. low (suc k) d (omega (arith, lt))) (λ d lt. high d (omega (arith, lt))) in
    rw (low zero x (omega arith)) (omega (arith, rest))

at_end : (n : ℕ) (ms : List Scheduled) → n ≤ length ms → or_end (cond (nat_lt n (length ms)) (Some n) None) ms ≡ n
at_end n ms le = by (nat_lt n (length ms)) refl
  where
    by : (v : Bool) → nat_lt n (length ms) ≡ v → or_end (cond v (Some n) None) ms ≡ n
    by true e = refl
    by false e = grind (arith, nat_tests)

pub first_found : (m : Scheduled) (ms : List Scheduled) (i : ℕ) → i ≤ length ms → IsPartitionPoint (λ x. not (comes_later x m) ≡ true) (λ x. not (comes_later x m) ≡ false) ms i → i ≡ first_later m ms
first_found m ms i le p =
    let here : position_or_len (λ x. comes_later x m) ms ≡ i =
    point (λ x. comes_later x m) ms i le (λ k d lt. not-true (comes_later (get_or ms k d) m) (p.0 k d (omega arith) lt)) (λ d lt. stands (get_or ms i d) (p.1 i d (omega arith) lt)) in
    sym here ∙ sym (at_end (position_or_len (λ x. comes_later x m) ms) ms (omega (arith, here, le)))
  where
    stands : (x : Scheduled) → not (comes_later x m) ≡ false → comes_later x m ≡ true
    stands x h = by (comes_later x m) refl h
      where
        by : (v : Bool) → comes_later x m ≡ v → not v ≡ false → comes_later x m ≡ true
        by true e k = e
        by false e k = absurd (both_ways true k refl)

-- ---- order

record IsPlace (m : Scheduled) (ms : List Scheduled) (i : ℕ) : Type 0 where
  low : (k : ℕ) (d : Scheduled) → k < i → turn_of (get_or ms k d) ≤ turn_of m
  high : (k : ℕ) (d : Scheduled) → i ≤ k → k < length ms → turn_of m ≤ turn_of (get_or ms k d)

-- in front of the first that comes later stand those that don't
before_first : (m : Scheduled) (ms : List Scheduled) (k : ℕ) (d : Scheduled) → k < position_or_len (λ x. comes_later x m) ms → comes_later (get_or ms k d) m ≡ false
before_first m [] k d lt = absurd (omega (arith, lt))
before_first m (x ∷ ms) k d lt = by (comes_later x m) refl (before_first m ms) k lt
  where
    by : (v : Bool) → comes_later x m ≡ v → ((k : ℕ) (d : Scheduled) → k < position_or_len (λ y. comes_later y m) ms → comes_later (get_or ms k d) m ≡ false) → (k : ℕ) → k < cond (not v) (1 + position_or_len (λ y. comes_later y m) ms) zero → comes_later (get_or (x ∷ ms) k d) m ≡ false
    by true e rest k lt = absurd (omega (arith, lt))
    by false e rest zero lt = e
    by false e rest (suc k) lt = rest k d (omega (arith, lt))

at_first : (m : Scheduled) (ms : List Scheduled) (d : Scheduled) → position_or_len (λ x. comes_later x m) ms < length ms → comes_later (get_or ms (position_or_len (λ x. comes_later x m) ms) d) m ≡ true
at_first m [] d lt = absurd (omega (arith, lt))
at_first m (x ∷ ms) d lt = by (comes_later x m) refl (at_first m ms d) lt
  where
    by : (v : Bool) → comes_later x m ≡ v → (position_or_len (λ y. comes_later y m) ms < length ms → comes_later (get_or ms (position_or_len (λ y. comes_later y m) ms) d) m ≡ true)
        → cond (not v) (1 + position_or_len (λ y. comes_later y m) ms) zero < suc (length ms)
        → comes_later (get_or (x ∷ ms) (cond (not v) (1 + position_or_len (λ y. comes_later y m) ms) zero) d) m ≡ true
    by true e rest lt = e
    by false e rest lt =
        let more : 1 + position_or_len (λ y. comes_later y m) ms ≡ suc (position_or_len (λ y. comes_later y m) ms) = omega arith in
        ap (λ (k : ℕ). comes_later (get_or (x ∷ ms) k d) m) more ∙ rest (omega (arith, lt))

first_place : (m : Scheduled) (ms : List Scheduled) → AreByTurn ms → IsPlace m ms (first_later m ms)
first_place m ms up = by (nat_lt (position_or_len (λ x. comes_later x m) ms) (length ms)) refl
  where
    n : ℕ
    n = position_or_len (λ x. comes_later x m) ms

    low : (k : ℕ) (d : Scheduled) → k < n → turn_of (get_or ms k d) ≤ turn_of m
    low k d lt = not_later (get_or ms k d) m (before_first m ms k d lt)

    within : nat_lt n (length ms) ≡ true → n < length ms
    within e = grind (arith, nat_tests)

    by : (v : Bool) → nat_lt n (length ms) ≡ v → IsPlace m ms (or_end (cond v (Some n) None) ms)
    by true e = record {
      low = low;
      high = λ k d le lt.
          let first = later (get_or ms n d) m (at_first m ms d (within e)) in
          omega (arith, first, up n k d le lt);
    }
    by false e = record {
      low = λ k d lt. low k d (let past : length ms ≤ n = grind (arith, nat_tests) in omega (arith, past, lt));
      high = λ k d le lt. absurd (omega (arith, le, lt));
    }

last_place : (m : Scheduled) (ms : List Scheduled) → AreByTurn ms → goes_last m ms ≡ true → IsPlace m ms (length ms)
last_place m ms up last = record {
  low = λ k d lt.
      let at : slice_get ms (length ms - 1) ≡ Some (get_or ms (length ms - 1) d) = slice_get-get_or ms (length ms - 1) d (omega (arith, lt)) in
      let none : comes_later (get_or ms (length ms - 1) d) m ≡ false = not-true (comes_later (get_or ms (length ms - 1) d) m) (sym (ap (isnt_later m) at) ∙ last) in
      omega (arith, up k (length ms - 1) d (omega (arith, lt)) (omega (arith, lt)), not_later (get_or ms (length ms - 1) d) m none);
  high = λ k d le lt. absurd (omega (arith, le, lt));
}

place : (m : Scheduled) (ms : List Scheduled) → AreByTurn ms → IsPlace m ms (queue_place m ms)
place m ms up = by (goes_last m ms) refl
  where
    by : (v : Bool) → goes_last m ms ≡ v → IsPlace m ms (cond v (length ms) (first_later m ms))
    by true e = last_place m ms up e
    by false e = first_place m ms up

pub still_in_order : (m : Scheduled) (ms : List Scheduled) → AreByTurn ms → queue_place m ms ≤ length ms → AreByTurn (with_move m ms)
still_in_order m ms up le =
    let p = place m ms up in
    IsNonDecreasingBy-insert turn_of ms (queue_place m ms) m up le p.low p.high

pub put_either : {T E : Type 0} (Q : Type 0) (r : Result T E) (m : Scheduled) (ms ns : List Scheduled) (at : ℕ) → AreByTurn ms → at ≤ length ms → at ≡ queue_place m ms → OnOk r (ns ≡ insert ms at m) → OnErr r ((ns ≡ ms) × Q) → AreByTurn ns
put_either Q (Ok x) m ms ns at up le is ok err =
    let whole : ns ≡ with_move m ms = ok ∙ ap (λ (i : ℕ). insert ms i m) is in
    subst AreByTurn (sym whole) (still_in_order m ms up (subst (λ (i : ℕ). i ≤ length ms) is le))
put_either Q (Err e) m ms ns at up le is ok err = subst AreByTurn (sym err.0) up
