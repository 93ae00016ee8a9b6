-- Texts without their blanks, byte by byte.
use Rattle.std.proofs.Common.{◌≡◌, ℕ, suc, ◌+◌, ◌-◌, ◌<◌, ◌≤◌, Bool, true, false, cond, List, [], ◌∷◌, ◌++◌, length, take, drop, get_or, refl, sym, ap, ◌∙◌, arith, drop-cons}
use Rattle.std.proofs.lemmas.List.{take_more}
use Rattle.ug_lines.specs.Blanks.{is_line_blank, before_end, without_end}

pub next : (i : ℕ) (text : List ℕ) → i < length text → drop i text ≡ get_or text i 0 ∷ drop (i + 1) text
next i text h = let one : suc i ≡ i + 1 = omega arith in drop-cons text i 0 h ∙ ap (λ (k : ℕ). get_or text i 0 ∷ drop k text) one

-- a blank more behind
pub end_blank : (xs : List ℕ) (b : ℕ) → is_line_blank b ≡ true → without_end (xs ++ b ∷ []) ≡ without_end xs
end_blank [] b e = ap (λ (v : Bool). cond v [] (b ∷ [])) e
end_blank (x ∷ xs) b e = ap (before_end x) (end_blank xs b e)

kept_end : (b : ℕ) (xs : List ℕ) (c : ℕ) → before_end b (xs ++ c ∷ []) ≡ b ∷ (xs ++ c ∷ [])
kept_end b [] c = refl
kept_end b (x ∷ xs) c = refl

pub end_found : (xs : List ℕ) (b : ℕ) → is_line_blank b ≡ false → without_end (xs ++ b ∷ []) ≡ xs ++ b ∷ []
end_found [] b e = ap (λ (v : Bool). cond v [] (b ∷ [])) e
end_found (x ∷ xs) b e = ap (before_end x) (end_found xs b e) ∙ kept_end x xs b

front_of : (n : ℕ) (text : List ℕ) → 0 < n → n ≤ length text → take n text ≡ take (n - 1) text ++ get_or text (n - 1) 0 ∷ []
front_of n text h le =
    let e : n ≡ n - 1 + 1 = omega arith in
    ap (λ (k : ℕ). take k text) e ∙ take_more text (n - 1) 0 (omega arith)

pub taken_blank : (n : ℕ) (text : List ℕ) → 0 < n → n ≤ length text → is_line_blank (get_or text (n - 1) 0) ≡ true → without_end (take n text) ≡ without_end (take (n - 1) text)
taken_blank n text h le e = ap without_end (front_of n text h le) ∙ end_blank (take (n - 1) text) (get_or text (n - 1) 0) e

pub taken_found : (n : ℕ) (text : List ℕ) → 0 < n → n ≤ length text → is_line_blank (get_or text (n - 1) 0) ≡ false → without_end (take n text) ≡ take n text
taken_found n text h le e = ap without_end (front_of n text h le) ∙ end_found (take (n - 1) text) (get_or text (n - 1) 0) e ∙ sym (front_of n text h le)
