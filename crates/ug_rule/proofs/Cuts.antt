-- A part of a line, whose ends may stand past the line's.
use Rattle.std.proofs.Common.{◌≡◌, ℕ, ◌-◌, ◌≤◌, ◌<◌, Bool, true, false, nat_le, List, length, take, drop, min, refl, sym, ap, ◌∙◌, arith, length-drop, length-take}
use Rattle.std.proofs.lemmas.Bool.{leb-true}
use Rattle.std.proofs.lemmas.Bool.Decides.{nat_tests}
use Rattle.std.proofs.lemmas.List.{take_min, nil_from_length}

inside : (line : List ℕ) (start end : ℕ) → start ≤ min end (length line) → take (min end (length line) - min start (min end (length line))) (drop (min start (min end (length line))) line) ≡ take (end - start) (drop start line)
inside line start end h =
    let s : min start (min end (length line)) ≡ start = omega arith in
    let n : min end (length line) - min start (min end (length line)) ≡ min (end - start) (length (drop start line)) = omega (arith, length-drop start line) in
    ap (λ (k : ℕ). take k (drop (min start (min end (length line))) line)) n
    ∙ ap (λ (k : ℕ). take (min (end - start) (length (drop start line))) (drop k line)) s
    ∙ take_min (end - start) (drop start line)

past : (line : List ℕ) (start end : ℕ) → min end (length line) < start → take (min end (length line) - min start (min end (length line))) (drop (min start (min end (length line))) line) ≡ take (end - start) (drop start line)
past line start end h =
    let l : length (take (min end (length line) - min start (min end (length line))) (drop (min start (min end (length line))) line)) ≡ 0 =
    omega (arith, length-take (min end (length line) - min start (min end (length line))) (drop (min start (min end (length line))) line)) in
    let r : length (take (end - start) (drop start line)) ≡ 0 = omega (arith, length-take (end - start) (drop start line), length-drop start line) in
    nil_from_length _ l ∙ sym (nil_from_length _ r)

pub cut : (line : List ℕ) (start end : ℕ) → take (min end (length line) - min start (min end (length line))) (drop (min start (min end (length line))) line) ≡ take (end - start) (drop start line)
cut line start end = by (nat_le start (min end (length line))) refl
  where
    by : (b : Bool) → nat_le start (min end (length line)) ≡ b → take (min end (length line) - min start (min end (length line))) (drop (min start (min end (length line))) line) ≡ take (end - start) (drop start line)
    by true e = inside line start end (leb-true start (min end (length line)) e)
    by false e = past line start end (grind (arith, nat_tests, e))
