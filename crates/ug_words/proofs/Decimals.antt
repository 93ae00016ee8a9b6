-- Decimal digits that are written and read.
use Rattle.std.proofs.Common.{◌≡◌, ℕ, zero, suc, ◌+◌, ◌-◌, ◌*◌, ◌/◌, ◌%◌, ◌^◌, ◌<◌, ◌≤◌, inl, inr, Bool, false, nat_eq, List, [], ◌∷◌, ◌++◌, length, get_or, Option, None, Some, refl, sym, ap, ◌∙◌, arith, if◌then◌else◌}
use Rattle.std.specs.Prelude.{decimal, fold}
use Rattle.std.specs.List.{AllByRecursion}
use Rattle.std.proofs.Math.Nat.{mul-le-mul_right}
use Rattle.std.proofs.lemmas.List.Sums.{fold-append}
use Rattle.std.proofs.lemmas.Fmt.{decimal_by_steps, decimal_digit, decimal_nonempty, first_decimal}
use Rattle.ug_words.specs.Words.{digits_of, decimal_of, with_decimal_digit}
use Rattle.ug_words.proofs.Digits.{fold-none}
use Rattle.ug_words.proofs.Tests.{by_test}

abbrev pub most_number : ℕ
most_number = 4294967295

-- ---- digits that are read

pub digit_more : (n d : ℕ) → d < 10 → n * 10 + d ≤ most_number → with_decimal_digit (Some n) (48 + d) ≡ Some (n * 10 + d)
digit_more n d h k =
    let e : 48 + d - 48 ≡ d = omega arith in
    grind arith

-- what one more digit made
pub record Digit (n b m : ℕ) : Type 0 where
  pub least : 48 ≤ b
  pub most : b ≤ 57
  pub is : m ≡ n * 10 + (b - 48)
  pub fits : m ≤ most_number

pub digit_read : (n b m : ℕ) → with_decimal_digit (Some n) b ≡ Some m → Digit n b m
digit_read n b m h = record { least = grind arith; most = grind arith; is = grind arith; fits = grind arith }

some_more : (o : Option ℕ) (ds : List ℕ) (m : ℕ) → fold with_decimal_digit o ds ≡ Some m → (n : ℕ) × (o ≡ Some n)
some_more None ds m h = let none : None ≡ Some m = sym (fold-none ds) ∙ h in let none : ⊥ = cc in absurd none
some_more (Some n) ds m h = (n, refl)

-- numbers below a power of ten
abbrev pub tens : ℕ → ℕ
tens zero = 1
tens (suc k) = 10 * tens k

pub below_tens : (n m : ℕ) (ds : List ℕ) → fold with_decimal_digit (Some n) ds ≡ Some m → m < (n + 1) * tens (length ds)
below_tens n m [] h = let e : n ≡ m = cc in omega (arith, e)
below_tens n m (b ∷ ds) h =
    let s = some_more (with_decimal_digit (Some n) b) ds m h in
    let d : Digit n b s.0 = digit_read n b s.0 s.1 in
    let k : m < (s.0 + 1) * tens (length ds) = below_tens s.0 m ds (sym (ap (λ (o : Option ℕ). fold with_decimal_digit o ds) s.1) ∙ h) in
    let l : s.0 + 1 ≤ (n + 1) * 10 = omega (arith, d.is, d.least, d.most) in
    product (n + 1) (s.0 + 1) (tens (length ds)) m k l
  where
    product : (n s t m : ℕ) → m < s * t → s ≤ n * 10 → m < n * (10 * t)
    product n s t m h k = omega (arith, h, mul-le-mul_right t k)

pub at_most_number : (n m : ℕ) (ds : List ℕ) → n ≤ most_number → fold with_decimal_digit (Some n) ds ≡ Some m → m ≤ most_number
at_most_number n m [] l h = let e : n ≡ m = cc in omega (arith, e, l)
at_most_number n m (b ∷ ds) l h =
    let s = some_more (with_decimal_digit (Some n) b) ds m h in
    let d : Digit n b s.0 = digit_read n b s.0 s.1 in
    at_most_number s.0 m ds d.fits (sym (ap (λ (o : Option ℕ). fold with_decimal_digit o ds) s.1) ∙ h)

pub number_fits : (text : List ℕ) (n : ℕ) → decimal_of text ≡ Some n → n ≤ most_number
unfolding decimal_of
number_fits text n h = elim (by_test (nat_eq (length text) 0) None (if nat_eq (get_or text 0 0) 48 then if nat_eq (length text) 1 then Some 0 else None else digits_of text) (Some n) h) [
  | inl p ↦ let none : ⊥ = cc in absurd none
  | inr p ↦ elim (by_test (nat_eq (get_or text 0 0) 48) (if nat_eq (length text) 1 then Some 0 else None) (digits_of text) (Some n) p.1) [
    | inl q ↦ elim (by_test (nat_eq (length text) 1) (Some 0) None (Some n) q.1) [
      | inl r ↦ let e : 0 ≡ n = cc in omega (arith, e)
      | inr r ↦ let none : ⊥ = cc in absurd none
    ]
    | inr q ↦ at_most_number 0 n text (omega arith) q.1
  ]
]

-- ---- digits that are written

abbrev pub IsDigit : ℕ → Type 0
IsDigit b = (48 ≤ b) × (b ≤ 57)

pub all-append : (P : ℕ → Type 0) (xs ys : List ℕ) → AllByRecursion P xs → AllByRecursion P ys → AllByRecursion P (xs ++ ys)
all-append P [] ys h k = k
all-append P (x ∷ xs) ys h k = (h.0, all-append P xs ys h.1 k)

-- the digits of a number, and that they are read
pub record Written (n : ℕ) (ds : List ℕ) : Type 0 where
  pub digits : AllByRecursion IsDigit ds
  pub value : n ≤ most_number → fold with_decimal_digit (Some 0) ds ≡ Some n

one_written : (n : ℕ) → n < 10 → Written n ((48 + n) ∷ [])
one_written n h =
    let e : 0 * 10 + n ≡ n = omega arith in
    record { digits = ((omega arith, omega (arith, h)), tt); value = λ k. digit_more 0 n h (omega (arith, k)) ∙ ap Some e }

more_written : (n : ℕ) (ds : List ℕ) → 10 ≤ n → Written (n / 10) ds → Written n (ds ++ ((48 + n % 10) ∷ []))
more_written n ds h w =
    let e : n / 10 * 10 + n % 10 ≡ n = omega arith in
    record {
      digits = all-append IsDigit ds ((48 + n % 10) ∷ []) w.digits ((omega arith, omega arith), tt);
      value = λ k.
          fold-append with_decimal_digit (Some 0) ds ((48 + n % 10) ∷ [])
          ∙ ap (λ (o : Option ℕ). with_decimal_digit o (48 + n % 10)) (w.value (omega (arith, k)))
          ∙ digit_more (n / 10) (n % 10) (omega arith) (omega (arith, k))
          ∙ ap Some e;
    }

pub decimal_written : (n : ℕ) → n < 2 ^ 64 → Written n (decimal n)
decimal_written n h = decimal_by_steps Written one_written more_written n h

pub decimal_read : (n : ℕ) → n ≤ most_number → decimal_of (decimal n) ≡ Some n
unfolding decimal_of
decimal_read zero h = ap decimal_of (decimal_digit 0 (omega arith))
decimal_read (suc n) h =
    let ds : List ℕ = decimal (suc n) in
    let some : 0 < length ds = decimal_nonempty (suc n) (omega (arith, h)) in
    let lead : 48 < get_or ds 0 0 = first_decimal (suc n) (omega arith) (omega (arith, h)) in
    let a : nat_eq (length ds) 0 ≡ false = unequal_numbers (length ds) 0 some in
    let b : nat_eq (get_or ds 0 0) 48 ≡ false = unequal_numbers (get_or ds 0 0) 48 lead in
    ap (λ (v : Bool). if v then None else if nat_eq (get_or ds 0 0) 48 then if nat_eq (length ds) 1 then Some 0 else None else digits_of ds) a
    ∙ ap (λ (v : Bool). if v then if nat_eq (length ds) 1 then Some 0 else None else digits_of ds) b
    ∙ (decimal_written (suc n) (omega (arith, h))).value h
  where
    unequal_numbers : (a b : ℕ) → b < a → nat_eq a b ≡ false
    unequal_numbers a b h = grind arith
