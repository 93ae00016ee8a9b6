-- Printed probabilities are words that are read as these.
use Rattle.std.proofs.Common.{◌≡◌, ℕ, zero, suc, ◌+◌, ◌-◌, ◌*◌, ◌/◌, ◌%◌, ◌<◌, ◌≤◌, inl, inr, Bool, true, false, ◌||◌, nat_eq, nat_le, nat_lt, List, [], ◌∷◌, ◌++◌, codes, length, length-append, drop, replicate, Option, None, Some, refl, sym, ap, subst, ◌∙◌, arith, if◌then◌else◌}
use Rattle.std.specs.Prelude.{◌≢◌, fold}
use Rattle.std.specs.List.{AllByRecursion, starts_with}
use Rattle.std.specs.Cmp.Lexicographic.{pointwise}
use Rattle.std.proofs.Math.Nat.{mul-le-mul_right, le-mul_of_pos_right}
use Rattle.std.proofs.lemmas.List.{length-replicate}
use Rattle.std.proofs.lemmas.Nat.{div_below, div-add-mod', div-mul-add, mod-mul-add, mod_below}
use Rattle.ug_words.specs.Words.{billionths_of, chance_of, digits_of, with_decimal_digit, zero_point}
use Rattle.ug_words.proofs.Tests.{by_test}
use Rattle.ug_print.specs.Items.{billionths, probability_text}
use Rattle.ug_print.proofs.ConditionsAgain.{WordFor}
use Rattle.ug_words.proofs.Decimals.{IsDigit, below_tens, digit_more, most_number, tens}
use Rattle.ug_print.proofs.Decimals.{digits_word}

abbrev billion : ℕ
billion = 1000000000

-- ---- what is read is at most one

digits_bound : (digits : List ℕ) (n : ℕ) → billionths_of digits ≡ Some n → n < billion
unfolding billionths_of
digits_bound digits n h = elim (by_test (nat_eq (length digits) 0 || nat_lt 9 (length digits)) None (digits_of (digits ++ replicate (9 - length digits) 48)) (Some n) h) [
  | inl p ↦ let none : ⊥ = cc in absurd none
  | inr p ↦
      let all : List ℕ = digits ++ replicate (9 - length digits) 48 in
      let long : length all ≡ 9 = omega (arith, length-append digits (replicate (9 - length digits) 48), length-replicate {A = ℕ} (9 - length digits) 48, fits (length digits) p.0) in
      let b : n < (0 + 1) * tens (length all) = below_tens 0 n all p.1 in
      let c : tens (length all) ≡ billion = ap tens long in
      omega (arith, b, c)
]
  where
    fits : (n : ℕ) → (nat_eq n 0 || nat_lt 9 n) ≡ false → n ≤ 9
    fits n h = grind arith

chance_bound : (text : List ℕ) (n : ℕ) → chance_of text ≡ Some n → n ≤ billion
unfolding chance_of
chance_bound text n h = elim (by_test (pointwise nat_eq text (codes "0")) (Some 0) (if pointwise nat_eq text (codes "1") then Some billion else if starts_with nat_eq text zero_point then billionths_of (drop 2 text) else None) (Some n) h) [
  | inl p ↦ let e : 0 ≡ n = cc in omega (arith, e)
  | inr p ↦ elim (by_test (pointwise nat_eq text (codes "1")) (Some billion) (if starts_with nat_eq text zero_point then billionths_of (drop 2 text) else None) (Some n) p.1) [
    | inl q ↦ let e : billion ≡ n = cc in omega (arith, e)
    | inr q ↦ elim (by_test (starts_with nat_eq text zero_point) (billionths_of (drop 2 text)) None (Some n) q.1) [
      | inl r ↦ let b = digits_bound (drop 2 text) n r.1 in omega (arith, b)
      | inr r ↦ let none : ⊥ = cc in absurd none
    ]
  ]
]

-- ---- digits of a fraction are read

tens_some : (k : ℕ) → 0 < tens k
tens_some zero = omega arith
tens_some (suc k) = omega (arith, tens_some k)

zeros_read : (m k : ℕ) → m * tens k ≤ most_number → fold with_decimal_digit (Some m) (replicate k 48) ≡ Some (m * tens k)
zeros_read m zero h = let e : m ≡ m * 1 = omega arith in ap Some e
zeros_read m (suc k) h =
    let here : m * 10 + 0 ≤ most_number = omega (arith, h, le-mul_of_pos_right (m * 10) (tens_some k)) in
    let e : (m * 10 + 0) * tens k ≡ m * (10 * tens k) = omega arith in
    let more : (m * 10 + 0) * tens k ≤ most_number = omega (arith, h, e) in
    ap (λ (o : Option ℕ). fold with_decimal_digit o (replicate k 48)) (digit_more m 0 (omega arith) here)
    ∙ zeros_read (m * 10 + 0) k more ∙ ap Some e

-- the digits of n billionths, filled up with zeros
abbrev filled : ℕ → ℕ → List ℕ
filled k n = billionths k n ++ replicate (k - length (billionths k n)) 48

written_digit : (k n : ℕ) → n ≢ 0 → billionths (suc k) n ≡ (48 + n * 10 / billion) ∷ billionths k (n * 10 % billion)
written_digit k n h =
    let e : nat_eq n 0 ≡ false = grind arith in
    ap (λ (v : Bool). if v then [] else (48 + n * 10 / billion) ∷ billionths k (n * 10 % billion)) e

filled_digit : (k n : ℕ) → n ≢ 0 → filled (suc k) n ≡ (48 + n * 10 / billion) ∷ filled k (n * 10 % billion)
filled_digit k n h =
    let ds : List ℕ = billionths k (n * 10 % billion) in
    let e : suc k - suc (length ds) ≡ k - length ds = omega arith in
    ap (λ (l : List ℕ). l ++ replicate (suc k - length l) 48) (written_digit k n h)
    ∙ ap (λ (z : ℕ). (48 + n * 10 / billion) ∷ (ds ++ replicate z 48)) e

some_unit : (unit p : ℕ) → unit * p ≡ billion → 0 < unit
some_unit zero p e = absurd (omega (arith, e))
some_unit (suc unit) p e = omega arith

-- j of so many parts of one, as billionths, and its first digit
record Parts (k j unit : ℕ) : Type 0 where
  digit : j * unit * 10 / billion ≡ j / tens k
  rest : j * unit * 10 % billion ≡ j % tens k * (10 * unit)

parts : (k j unit : ℕ) → unit * (10 * tens k) ≡ billion → Parts k j unit
parts k j unit u =
    let p : ℕ = tens k in
    let some : 0 < p = tens_some k in
    let q : ℕ = j / p in
    let s : ℕ = j % p in
    let cut : q * p + s ≡ j = div-add-mod' j p in
    let all : j * unit * 10 ≡ q * billion + s * (10 * unit) = ap (λ (x : ℕ). x * unit * 10) (sym cut) ∙ (spread q p s unit ∙ ap (λ (x : ℕ). q * x + s * (10 * unit)) u) in
    let less : s * (10 * unit) < billion = below s p unit u (mod_below j p some) in
    record {
      digit = ap (λ (x : ℕ). x / billion) all ∙ div-mul-add q billion (s * (10 * unit)) less;
      rest = ap (λ (x : ℕ). x % billion) all ∙ mod-mul-add q billion (s * (10 * unit)) less;
    }
  where
    spread : (q p s unit : ℕ) → (q * p + s) * unit * 10 ≡ q * (unit * (10 * p)) + s * (10 * unit)
    spread q p s unit = omega arith

    below : (s p unit : ℕ) → unit * (10 * p) ≡ billion → s < p → s * (10 * unit) < billion
    below s p unit e h =
        let a : (s + 1) * (10 * unit) ≤ p * (10 * unit) = mul-le-mul_right (10 * unit) (omega (arith, h)) in
        let some : 0 < unit = some_unit unit (10 * p) e in
        omega (arith, a, e, some)

no_part : (j unit : ℕ) → 0 < unit → j * unit ≡ 0 → j ≡ 0
no_part j unit h e = omega (arith, e, le-mul_of_pos_right j h)

filled_none : (k n : ℕ) → n ≡ 0 → filled k n ≡ replicate k 48
filled_none zero n e = refl
filled_none (suc k) n e =
    let m : suc k - 0 ≡ suc k = omega arith in
    ap (filled (suc k)) e ∙ ap (λ (z : ℕ). replicate z 48) m

fraction_read : (k m j unit : ℕ) → unit * tens k ≡ billion → j < tens k → m * tens k + j ≤ most_number → fold with_decimal_digit (Some m) (filled k (j * unit)) ≡ Some (m * tens k + j)
fraction_read zero m j unit u l b = let e : m ≡ m * 1 + j = omega (arith, l) in ap Some e
fraction_read (suc k) m j unit u l b =
    let p : ℕ = tens k in
    let n : ℕ = j * unit in
    let G : Type 0 = fold with_decimal_digit (Some m) (filled (suc k) n) ≡ Some (m * (10 * p) + j) in
    let P : Bool → Type 0 = λ v. nat_eq n 0 ≡ v → G in
    let f : (v : Bool) → P v = λ v. elim v as P [
      | true ↦ λ e.
          let z : n ≡ 0 = grind arith in
          let none : j ≡ 0 = no_part j unit (some_unit unit (10 * p) u) z in
          let same : m * (10 * p) ≡ m * (10 * p) + j = omega (arith, none) in
          ap (fold with_decimal_digit (Some m)) (filled_none (suc k) n z) ∙ (zeros_read m (suc k) (omega (arith, b)) ∙ ap Some same)
      | false ↦ λ e.
          let some : n ≢ 0 = λ z. grind arith in
          let c : Parts k j unit = parts k j unit u in
          let less : j / p < 10 = div_below j p 10 (tens_some k) (omega (arith, l)) in
          let cut : j / p * p + j % p ≡ j = div-add-mod' j p in
          let all : (m * 10 + j / p) * p + j % p ≡ m * (10 * p) + j = omega (arith, cut) in
          let bound : (m * 10 + j / p) * p + j % p ≤ most_number = omega (arith, b, all) in
          let here : m * 10 + j / p ≤ most_number = omega (arith, bound, le-mul_of_pos_right (m * 10 + j / p) (tens_some k)) in
          let v : 10 * unit * p ≡ billion = omega (arith, u) in
          ap (fold with_decimal_digit (Some m)) (filled_digit k n some)
          ∙ ap (λ (d : ℕ). fold with_decimal_digit (with_decimal_digit (Some m) (48 + d)) (filled k (n * 10 % billion))) c.digit
          ∙ ap (λ (r : ℕ). fold with_decimal_digit (with_decimal_digit (Some m) (48 + j / p)) (filled k r)) c.rest
          ∙ ap (λ (o : Option ℕ). fold with_decimal_digit o (filled k (j % p * (10 * unit)))) (digit_more m (j / p) less here)
          ∙ fraction_read k (m * 10 + j / p) (j % p) (10 * unit) v (mod_below j p (tens_some k)) bound
          ∙ ap Some all
    ] in
    f (nat_eq n 0) refl

-- ---- how many digits

most_digits : (k n : ℕ) → length (billionths k n) ≤ k
most_digits zero n = omega arith
most_digits (suc k) n =
    let P : Bool → Type 0 = λ v. nat_eq n 0 ≡ v → length (billionths (suc k) n) ≤ suc k in
    let f : (v : Bool) → P v = λ v. elim v as P [
      | true ↦ λ e.
          let z : n ≡ 0 = grind arith in
          omega (arith, ap (λ (x : ℕ). length (billionths (suc k) x)) z)
      | false ↦ λ e.
          let some : n ≢ 0 = λ z. grind arith in
          omega (arith, ap length (written_digit k n some), most_digits k (n * 10 % billion))
    ] in
    f (nat_eq n 0) refl

all_digits : (k n : ℕ) → n < billion → AllByRecursion IsDigit (billionths k n)
all_digits zero n h = tt
all_digits (suc k) n h =
    let P : Bool → Type 0 = λ v. AllByRecursion IsDigit (if v then [] else (48 + n * 10 / billion) ∷ billionths k (n * 10 % billion)) in
    let f : (v : Bool) → P v = λ v. elim v as P [
      | true ↦ tt
      | false ↦ ((omega arith, omega (arith, h)), all_digits k (n * 10 % billion) (omega arith))
    ] in
    f (nat_eq n 0)

billionths_read : (n : ℕ) → 0 < n → n < billion → billionths_of (billionths 9 n) ≡ Some n
unfolding billionths_of
billionths_read n h b =
    let ds : List ℕ = billionths 9 n in
    let z : n ≢ 0 = λ e. omega (arith, h, e) in
    let some : 0 < length ds = omega (arith, ap length (written_digit 8 n z)) in
    let test : (nat_eq (length ds) 0 || nat_lt 9 (length ds)) ≡ false = fits (length ds) some (most_digits 9 n) in
    let e : n * 1 ≡ n = omega arith in
    let g : 0 * tens 9 + n ≡ n = omega arith in
    ap (λ (v : Bool). if v then None else digits_of (ds ++ replicate (9 - length ds) 48)) test
    ∙ ap (λ (x : ℕ). digits_of (filled 9 x)) (sym e)
    ∙ fraction_read 9 0 n 1 refl (omega (arith, b)) (omega (arith, b))
    ∙ ap Some g
  where
    fits : (l : ℕ) → 0 < l → l ≤ 9 → (nat_eq l 0 || nat_lt 9 l) ≡ false
    fits l h k = grind arith

-- ---- probabilities

pub half : chance_of (codes "0.5") ≡ Some 500000000
unfolding chance_of billionths_of zero_point
half = refl

pointed : (ds : List ℕ) → chance_of (48 ∷ 46 ∷ ds) ≡ billionths_of ds
unfolding chance_of zero_point
pointed ds = refl

none_word : WordFor chance_of (48 ∷ []) 0
unfolding chance_of
none_word = record { word = (refl, tt); says = refl }

one_word : WordFor chance_of (49 ∷ []) billion
unfolding chance_of
one_word = record { word = (refl, tt); says = refl }

fraction_word : (n : ℕ) → 0 < n → n < billion → WordFor chance_of (48 ∷ 46 ∷ billionths 9 n) n
fraction_word n h b = record { word = (refl, (refl, digits_word (billionths 9 n) (all_digits 9 n b))); says = pointed (billionths 9 n) ∙ billionths_read n h b }

bounded_word : (n : ℕ) → n ≤ billion → WordFor chance_of (probability_text n) n
unfolding probability_text
bounded_word n h =
    let P : Bool → Bool → Type 0 = λ u v. nat_eq n 0 ≡ u → nat_le billion n ≡ v → WordFor chance_of (if u then 48 ∷ [] else if v then 49 ∷ [] else 48 ∷ 46 ∷ billionths 9 n) n in
    let more : (v : Bool) → P false v = λ v. elim v as (λ v. P false v) [
      | true ↦ λ e f. let same : billion ≡ n = grind arith in subst (λ (x : ℕ). WordFor chance_of (49 ∷ []) x) same one_word
      | false ↦ λ e f. fraction_word n (grind arith) (grind arith)
    ] in
    let all : (u v : Bool) → P u v = λ u. elim u as (λ u. (v : Bool) → P u v) [
      | true ↦ λ v e f. let same : 0 ≡ n = grind arith in subst (λ (x : ℕ). WordFor chance_of (48 ∷ []) x) same none_word
      | false ↦ more
    ] in
    all (nat_eq n 0) (nat_le billion n) refl refl

pub chance_word : (text : List ℕ) (n : ℕ) → chance_of text ≡ Some n → WordFor chance_of (probability_text n) n
chance_word text n h = bounded_word n (chance_bound text n h)
