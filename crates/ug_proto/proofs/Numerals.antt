-- Decimal texts of numbers in lines.
use Rattle.std.proofs.Common.{◌≡◌, ◌≢◌, ℕ, ◌<◌, ◌^◌, Bool, true, false, nat_eq, List, [], ◌∷◌, refl, sym, arith, inl, inr}
use Rattle.std.specs.Prelude.{decimal, codes}
use Rattle.std.specs.Cmp.Lexicographic.{pointwise, same_text}
use Rattle.std.specs.Str.Parse.{AllDigits}
use Rattle.std.proofs.lemmas.Fmt.{decimal_digit, digits_decimal}
use Rattle.std.proofs.lemmas.Str.Parse.{numerals_by_value, tells_digits, digit_from_value}
use Rattle.ug_types.specs.Elements.{Has}

pub zero_text : decimal 0 ≡ codes "0"
zero_text = decimal_digit 0 (omega arith)

-- no digit is a space
digits_plain : (ds : List ℕ) → AllDigits 10 ds → ¬ Has ds 32
digits_plain [] d h = h
digits_plain (c ∷ ds) d (inl e) = let k = digit_from_value c d.0 in omega (arith, k, e)
digits_plain (c ∷ ds) d (inr h) = digits_plain ds d.1 h

pub decimal_digits : (n : ℕ) → n < 2 ^ 64 → AllDigits 10 (decimal n)
decimal_digits n h = digits_decimal (numerals_by_value _ tells_digits) n h

pub decimal_plain : (n : ℕ) → n < 2 ^ 64 → ¬ Has (decimal n) 32
decimal_plain n h = digits_plain (decimal n) (decimal_digits n h)

no_end : (ds : List ℕ) → AllDigits 10 ds → ds ≢ codes "end"
no_end [] d e = let none : ⊥ = cc in none
no_end (c ∷ ds) d e =
    let first : c ≡ 101 = cc in
    let k = digit_from_value c d.0 in omega (arith, k, first)

-- no number is written `end`
pub decimal_no_end : (n : ℕ) → n < 2 ^ 64 → pointwise nat_eq (decimal n) (codes "end") ≡ false
decimal_no_end n h = by (pointwise nat_eq (decimal n) (codes "end")) refl
  where
    by : (v : Bool) → pointwise nat_eq (decimal n) (codes "end") ≡ v → pointwise nat_eq (decimal n) (codes "end") ≡ false
    by true e = absurd (no_end (decimal n) (decimal_digits n h) (same_text (decimal n) (codes "end") (sym e)))
    by false e = e
