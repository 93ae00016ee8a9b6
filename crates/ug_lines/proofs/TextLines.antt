-- The lines of a text are the only ones that it splits into.
use Rattle.std.proofs.Common.{◌≡◌, ℕ, List, [], ◌∷◌, ◌++◌, refl, sym, ap, subst, ◌∙◌}
use Rattle.std.proofs.lemmas.List.{append-nil}
use Rattle.ug_lines.specs.Lines.{whole_from, rest_from, last_line, lines_from, lines_of}
use Rattle.ug_lines.specs.Splitting.{IsLine, AreLines, lines_joined, Splits, AreLinesOf, Nothing, Open, Closed}
use Rattle.ug_lines.proofs.FirstLine.{nothing}
use Rattle.ug_lines.proofs.Lines.{whole_from-end, rest_from-end}
use Rattle.ug_lines.proofs.Splitting.{splits, lines_from-run}

-- whole lines and a rest
in_parts : (lines : List (List ℕ)) (rest : List ℕ) → AreLines lines → IsLine rest → AreLinesOf (lines_joined lines rest) (lines ++ last_line rest)
in_parts [] [] h k = Nothing
in_parts [] (b ∷ rest) h k = Open b rest k
in_parts (line ∷ lines) rest h k = Closed line (lines_joined lines rest) (lines ++ last_line rest) h.0 (in_parts lines rest h.1 k)

split_lines : (text : List ℕ) → AreLinesOf text (lines_of text)
split_lines text =
    let s : Splits text (whole_from [] text) (rest_from [] text) = splits text in
    subst (λ (t : List ℕ). AreLinesOf t (lines_of text)) (sym s.whole) (in_parts (whole_from [] text) (rest_from [] text) s.each s.open_line)

no_more : (b : ℕ) (line : List ℕ) → lines_from (b ∷ line) [] ≡ (b ∷ line) ∷ []
unfolding whole_from rest_from
no_more b line = refl

open_line : (b : ℕ) (line : List ℕ) → IsLine (b ∷ line) → lines_of (b ∷ line) ≡ (b ∷ line) ∷ []
open_line b line h = ap lines_of (sym (append-nil (b ∷ line))) ∙ lines_from-run [] (b ∷ line) [] h ∙ no_more b line

newline : (line text : List ℕ) → lines_from line (10 ∷ text) ≡ line ∷ lines_of text
newline line text =
    ap (λ (lines : List (List ℕ)). lines ++ last_line (rest_from line (10 ∷ text))) (whole_from-end line 10 text refl)
    ∙ ap (λ (rest : List ℕ). (line ∷ whole_from [] text) ++ last_line rest) (rest_from-end line 10 text refl)

closed_line : (line text : List ℕ) → IsLine line → lines_of (line ++ 10 ∷ text) ≡ line ∷ lines_of text
closed_line line text h = lines_from-run [] line (10 ∷ text) h ∙ newline line text

pub split_only : (text : List ℕ) (lines : List (List ℕ)) → AreLinesOf text lines → lines_of text ≡ lines
split_only text lines Nothing = nothing [] refl
split_only text lines (Open b line h) = open_line b line h
split_only text lines (Closed line rest more h s) = closed_line line rest h ∙ ap (λ (ls : List (List ℕ)). line ∷ ls) (split_only rest more s)

pub text_lines : (text : List ℕ) (lines : List (List ℕ)) → (lines_of text ≡ lines → AreLinesOf text lines) × (AreLinesOf text lines → lines_of text ≡ lines)
text_lines text lines = (λ e. subst (λ (ls : List (List ℕ)). AreLinesOf text ls) e (split_lines text), λ s. split_only text lines s)
