-- Words that are the decimal texts of numbers.
use Rattle.std.proofs.Common.{◌≡◌, ℕ, ◌<◌, ◌^◌, Bool, true, false, cond, nat_eq, nat_lt, List, [], ◌∷◌, Option, Some, None, refl, sym, ap, subst, ◌∙◌, arith, eq-eqb}
use Rattle.std.specs.Prelude.{decimal, ◌&&◌, ◌↔◌}
use Rattle.std.specs.Cmp.Lexicographic.{pointwise, same_text}
use Rattle.std.specs.Str.{IsUtf8}
use Rattle.std.specs.Str.Parse.{digits_value}
use Rattle.std.proofs.lemmas.Bool.Decides.{nat_tests}
use Rattle.std.proofs.lemmas.Fmt.{digits_value-decimal, IsAscii-decimal}
use Rattle.std.proofs.lemmas.Option.{none-some, same_Some}
use Rattle.std.proofs.lemmas.Str.{IsUtf8-from_ascii}
use Rattle.std.proofs.lemmas.Str.Parse.{numerals_by_value, tells_digits}
use Rattle.ug_lines.specs.Numbers.{number_in}

pub text_itself : (text : List ℕ) → pointwise nat_eq text text ≡ true
text_itself [] = refl
text_itself (b ∷ text) = rw (eq-eqb b b refl) (text_itself text)

is_lower : (n : ℕ) → n < 2 ^ 64 → nat_lt n (2 ^ 64) ≡ true
is_lower n h = grind (arith, nat_tests)

lower : (n : ℕ) → nat_lt n (2 ^ 64) ≡ true → n < 2 ^ 64
lower n e = grind (arith, nat_tests)

abbrev tried : List ℕ → ℕ → Option ℕ
tried word n = cond (nat_lt n (2 ^ 64) && pointwise nat_eq word (decimal n)) (Some n) None

pub is_number : (word : List ℕ) (n : ℕ) → n < 2 ^ 64 → word ≡ decimal n → number_in word ≡ Some n
unfolding number_in
is_number word n h e =
    ap (λ (w : List ℕ). tried w (digits_value 10 w)) e
    ∙ ap (tried (decimal n)) (digits_value-decimal (numerals_by_value _ tells_digits) n h)
    ∙ ap (λ (v : Bool). cond (v && pointwise nat_eq (decimal n) (decimal n)) (Some n) None) (is_lower n h)
    ∙ ap (λ (v : Bool). cond v (Some n) None) (text_itself (decimal n))

pub number_found : (word : List ℕ) (n : ℕ) → number_in word ≡ Some n → (word ≡ decimal n) × (n < 2 ^ 64)
unfolding number_in
number_found word n h = by (nat_lt (digits_value 10 word) (2 ^ 64)) (pointwise nat_eq word (decimal (digits_value 10 word))) refl refl h
  where
    by : (v u : Bool) → nat_lt (digits_value 10 word) (2 ^ 64) ≡ v → pointwise nat_eq word (decimal (digits_value 10 word)) ≡ u → cond (v && u) (Some (digits_value 10 word)) None ≡ Some n → (word ≡ decimal n) × (n < 2 ^ 64)
    by false u e f k = absurd (none-some n k)
    by true false e f k = absurd (none-some n k)
    by true true e f k =
        let same : digits_value 10 word ≡ n = same_Some (digits_value 10 word) n k in
        (same_text word (decimal (digits_value 10 word)) (sym f) ∙ ap decimal same, subst (λ (m : ℕ). m < 2 ^ 64) same (lower (digits_value 10 word) e))

pub no_number : (word : List ℕ) → ((n : ℕ) → n < 2 ^ 64 → word ≡ decimal n → ⊥) → number_in word ≡ None
no_number word h = by (number_in word) refl
  where
    by : (o : Option ℕ) → number_in word ≡ o → number_in word ≡ None
    by None e = e
    by (Some n) e = let k = number_found word n e in absurd (h n k.1 k.0)

pub decimal_utf8 : (word : List ℕ) (n : ℕ) → n < 2 ^ 64 → word ≡ decimal n → IsUtf8 word
decimal_utf8 word n h e = subst IsUtf8 (sym e) (IsUtf8-from_ascii (decimal n) (IsAscii-decimal n h))

pub decimal_law : (word : List ℕ) (n : ℕ) → (number_in word ≡ Some n) ↔ ((word ≡ decimal n) × (n < 2 ^ 64))
decimal_law word n = (number_found word n, λ h. is_number word n h.1 h.0)
