-- A text is read as a moment where it is that number's decimal text.
use Rattle.std.proofs.Common.{◌≡◌, ℕ, ◌^◌, ◌<◌, ◌≤◌, Bool, true, false, cond, List, Option, None, Some, nat_le, refl, ap, subst, ◌∙◌, arith, ◌↔◌}
use Rattle.std.specs.Fmt.{decimal}
use Rattle.std.proofs.lemmas.Bool.{leb-true, le-leb}
use Rattle.std.proofs.lemmas.Option.{same_Some, none-some}
use Rattle.ug_lines.proofs.Numerals.{is_number, number_found}
use Rattle.ug_lines.specs.Numbers.{number_in}
use Rattle.ug_steps.specs.Words.{moment_in, moment_word}

fits : (m n : ℕ) → moment_in (Some m) ≡ Some n → (m ≡ n) × (n ≤ 250000000000)
fits m n h = by (nat_le m 250000000000) refl h
  where
    by : (v : Bool) → nat_le m 250000000000 ≡ v → cond v (Some m) None ≡ Some n → (m ≡ n) × (n ≤ 250000000000)
    by true e k = let same : m ≡ n = same_Some m n k in (same, subst (λ (x : ℕ). x ≤ 250000000000) same (leb-true m 250000000000 e))
    by false e k = absurd (none-some n k)

moment_written : (text : List ℕ) (n : ℕ) → moment_word text ≡ Some n → (text ≡ decimal n) × (n ≤ 250000000000)
unfolding moment_word
moment_written text n h = by (number_in text) refl h
  where
    by : (o : Option ℕ) → number_in text ≡ o → moment_in o ≡ Some n → (text ≡ decimal n) × (n ≤ 250000000000)
    by None e k = absurd (none-some n k)
    by (Some m) e k = let f = fits m n k in ((number_found text m e).0 ∙ ap decimal f.0, f.1)

moment_read : (text : List ℕ) (n : ℕ) → text ≡ decimal n → n ≤ 250000000000 → moment_word text ≡ Some n
unfolding moment_word
moment_read text n e l =
    let low : n < 2 ^ 64 = omega (arith, l) in
    ap moment_in (is_number text n low e) ∙ ap (λ (v : Bool). cond v (Some n) None) (le-leb n 250000000000 l)

pub moment_text : (text : List ℕ) (n : ℕ) → (moment_word text ≡ Some n) ↔ ((text ≡ decimal n) × (n ≤ 250000000000))
moment_text text n = (moment_written text n, λ h. moment_read text n h.0 h.1)
