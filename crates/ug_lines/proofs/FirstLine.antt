-- The first line of a text, byte by byte.
use Rattle.std.proofs.Common.{◌≡◌, ℕ, ◌+◌, ◌-◌, ◌<◌, ◌≤◌, true, false, List, [], ◌∷◌, ◌++◌, length, take, drop, get_or, nat_eq, refl, sym, ap, ◌∙◌, arith}
use Rattle.std.proofs.lemmas.Bool.Decides.{nat_tests}
use Rattle.std.proofs.lemmas.List.{take_more, take_all, drop_all}
use Rattle.ug_types.proofs.Known.{to_end}
use Rattle.ug_lines.specs.Lines.{whole_from, rest_from, lines_from, lines_of}
use Rattle.ug_lines.proofs.Lines.{whole_from-end, rest_from-end, whole_from-byte, rest_from-byte}
use Rattle.ug_lines.proofs.BlankSteps.{next}

lines_from-byte : (line : List ℕ) (b : ℕ) (bytes : List ℕ) → nat_eq b 10 ≡ false → lines_from line (b ∷ bytes) ≡ lines_from (line ++ b ∷ []) bytes
lines_from-byte line b bytes e = rw (whole_from-byte line b bytes e, rest_from-byte line b bytes e) refl

pub lines_from-end : (line : List ℕ) (b : ℕ) (bytes : List ℕ) → nat_eq b 10 ≡ true → lines_from line (b ∷ bytes) ≡ line ∷ lines_of bytes
lines_from-end line b bytes e = rw (whole_from-end line b bytes e, rest_from-end line b bytes e) refl

-- a byte that is no newline goes onto the line
pub line_longer : (i : ℕ) (text : List ℕ) → i < length text → (get_or text i 0 ≡ 10 → ⊥)
    → lines_from (take i text) (drop i text) ≡ lines_of text → lines_from (take (i + 1) text) (drop (i + 1) text) ≡ lines_of text
line_longer i text h other q =
    let e : nat_eq (get_or text i 0) 10 ≡ false = grind (arith, nat_tests) in
    ap (λ (l : List ℕ). lines_from l (drop (i + 1) text)) (take_more text i 0 h)
    ∙ sym (lines_from-byte (take i text) (get_or text i 0) (drop (i + 1) text) e)
    ∙ ap (lines_from (take i text)) (sym (next i text h)) ∙ q

pub line_ended : (i : ℕ) (text : List ℕ) → i < length text → get_or text i 0 ≡ 10
    → lines_from (take i text) (drop i text) ≡ lines_of text → lines_of text ≡ take i text ∷ lines_of (take (length text - (i + 1)) (drop (i + 1) text))
line_ended i text h newline q =
    let e : nat_eq (get_or text i 0) 10 ≡ true = grind (arith, nat_tests) in
    sym q ∙ ap (lines_from (take i text)) (next i text h)
    ∙ lines_from-end (take i text) (get_or text i 0) (drop (i + 1) text) e
    ∙ ap (λ (l : List ℕ). take i text ∷ lines_of l) (sym (to_end (i + 1) text))

alone : (text : List ℕ) → 0 < length text → lines_from text [] ≡ text ∷ []
unfolding whole_from rest_from
alone [] h = absurd (omega arith)
alone (b ∷ bytes) h = refl

pub nothing : (text : List ℕ) → text ≡ [] → lines_of text ≡ []
unfolding whole_from rest_from
nothing text e = ap lines_of e

pub line_last : (i : ℕ) (text : List ℕ) → 0 < length text → length text ≤ i
    → lines_from (take i text) (drop i text) ≡ lines_of text → lines_of text ≡ text ∷ lines_of (take (length text - length text) (drop (length text) text))
line_last i text h le q =
    let rest : take (length text - length text) (drop (length text) text) ≡ [] = to_end (length text) text ∙ drop_all (length text) text (omega arith) in
    sym q ∙ ap (λ (l : List ℕ). lines_from l (drop i text)) (take_all i text le) ∙ ap (lines_from text) (drop_all i text le)
    ∙ alone text h ∙ ap (λ (ls : List (List ℕ)). text ∷ ls) (sym (nothing (take (length text - length text) (drop (length text) text)) rest))
