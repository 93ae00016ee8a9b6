use Rattle.std.proofs.Common.{◌≡◌, ℕ, ◌+◌, ◌*◌, ◌<◌, ◌≤◌, Fits, w8, true, leb, List, [], ◌∷◌, length, slice_index, Option, Some, None, sym, ap, subst, ◌∙◌, arith}
use Rattle.std.specs.Int.{is_in_range}
use Rattle.std.proofs.lemmas.Bool.{and_parts, cond_both, leb-true}
use Rattle.ug_words.specs.Lexing.{digit_of, hex_escape, pair_of}
use Rattle.ug_words.proofs.string.digits.Goals as goal

abbrev IfDigit : Option ℕ → Type 0
IfDigit None = Unit {0}
IfDigit (Some value) = value < 16

at_most : (low high b : ℕ) → is_in_range low high b ≡ true → b ≤ high
at_most low high b e = leb-true b high (and_parts (leb low b) (leb b high) e).1

below : (b : ℕ) → IfDigit (digit_of b)
below b =
    cond_both (is_in_range 48 57 b) _ _ IfDigit (λ e. omega (arith, at_most 48 57 b e)) (λ d.
    cond_both (is_in_range 97 102 b) _ _ IfDigit (λ e. omega (arith, at_most 97 102 b e)) (λ f.
    cond_both (is_in_range 65 70 b) _ _ IfDigit (λ e. omega (arith, at_most 65 70 b e)) (λ g. tt)))

digit_below : (b value : ℕ) → digit_of b ≡ Some value → value < 16
digit_below b value e = subst IfDigit e (below b)

scaled : (high : ℕ) → high < 16 → Fits w8 (high * 16)
scaled high h = omega arith

joined : (high low : ℕ) → high < 16 → low < 16 → Fits w8 (high * 16 + low)
joined high low h l = omega arith

both : (bytes : List ℕ) (high low : Option ℕ) → 2 ≤ length bytes → digit_of (slice_index bytes 0) ≡ high → digit_of (slice_index bytes 1) ≡ low → hex_escape bytes ≡ pair_of high low
both [] high low h d e = absurd (omega (arith, h))
both (x ∷ []) high low h d e = absurd (omega (arith, h))
both (x ∷ y ∷ bytes) high low h d e = ap (λ (o : Option ℕ). pair_of o (digit_of y)) d ∙ ap (pair_of high) e

pub overflow_mul-result : goal.overflow_mul-result
overflow_mul-result c = scaled c.in-Some-Some.high (digit_below (slice_index c.args.bytes.now 0) c.in-Some-Some.high (sym c.in-Some-Some.ensures))

pub overflow_add-result : goal.overflow_add-result
overflow_add-result c =
    joined c.in-Some-Some.high c.in-Some-Some.low (digit_below (slice_index c.args.bytes.now 0) c.in-Some-Some.high (sym c.in-Some-Some.ensures)) (digit_below (slice_index c.args.bytes.now 1) c.in-Some-Some.low (sym c.in-Some-Some.ensures'))

pub returns-in-Some-Some-clause-is : goal.returns-in-Some-Some-clause-is
returns-in-Some-Some-clause-is c = sym (both c.args.bytes.now _ _ c.if-bytes-lt2.false (sym c.in-Some-Some.ensures) (sym c.in-Some-Some.ensures'))

pub returns-in_default-clause-is : goal.returns-in_default-clause-is
returns-in_default-clause-is c = sym (both c.args.bytes.now _ _ c.if-bytes-lt2.false (sym c.in_default.ensures) (sym c.in_default.ensures'))

pub returns-in_default-2-clause-is : goal.returns-in_default-2-clause-is
returns-in_default-2-clause-is c = sym (both c.args.bytes.now _ _ c.if-bytes-lt2.false (sym c.digit.ensures ∙ c.in_default.is-0) (sym c.digit-2.ensures))
