-- Digits of a fraction, one by one.
use Rattle.std.proofs.Common.{◌≡◌, ℕ, zero, suc, ◌+◌, ◌-◌, ◌*◌, ◌/◌, ◌%◌, ◌<◌, ◌≤◌, Bool, false, nat_eq, List, [], ◌∷◌, ◌++◌, if◌then◌else◌, ap, refl, sym, ◌∙◌, arith, append_assoc}
use Rattle.std.specs.Prelude.{◌≢◌}
use Rattle.std.proofs.lemmas.List.{append-nil}
use Rattle.ug_print.specs.Items.{billionths}

nothing : (k n : ℕ) → n ≡ 0 → billionths k n ≡ []
nothing zero n e = refl
nothing (suc k) n e = rw e refl

pub nothing_left : (out : List ℕ) (place n : ℕ) → n ≡ 0 → out ++ billionths (9 - place) n ≡ out
nothing_left out place n e = ap (λ (l : List ℕ). out ++ l) (nothing (9 - place) n e) ∙ append-nil out

pub all_written : (out : List ℕ) (place n : ℕ) → 9 ≤ place → out ++ billionths (9 - place) n ≡ out
all_written out place n h = let e : 9 - place ≡ 0 = omega (arith, h) in ap (λ (k : ℕ). out ++ billionths k n) e ∙ append-nil out

digit : (k n : ℕ) → n ≢ 0 → billionths (suc k) n ≡ (48 + n * 10 / 1000000000) ∷ billionths k (n * 10 % 1000000000)
digit k n h =
    let e : nat_eq n 0 ≡ false = grind arith in
    ap (λ (v : Bool). if v then [] else (48 + n * 10 / 1000000000) ∷ billionths k (n * 10 % 1000000000)) e

pub one_more : (out : List ℕ) (place n : ℕ) → place < 9 → n ≢ 0 → out ++ billionths (9 - place) n ≡ (out ++ (48 + n * 10 / 1000000000) ∷ []) ++ billionths (9 - (place + 1)) (n * 10 % 1000000000)
one_more out place n h d =
    let e : 9 - place ≡ suc (9 - (place + 1)) = omega (arith, h) in
    ap (λ (k : ℕ). out ++ billionths k n) e
    ∙ ap (λ (l : List ℕ). out ++ l) (digit (9 - (place + 1)) n d)
    ∙ sym (append_assoc out ((48 + n * 10 / 1000000000) ∷ []) (billionths (9 - (place + 1)) (n * 10 % 1000000000)))
