-- A line and its words.
use Rattle.std.proofs.Common.{◌≡◌, ℕ, ◌<◌, ◌^◌, Bool, true, nat_eq, List, [], ◌∷◌, ◌++◌, get_or, sym, ap, ◌∙◌, append_assoc, arith}
use Rattle.std.specs.Cmp.Lexicographic.{pointwise}
use Rattle.std.specs.Str.Parse.{digits_value}
use Rattle.std.proofs.lemmas.List.{append-nil}
use Rattle.ug_types.proofs.SpacedWords.{is_graphic, is_line, split_words, split_one, split_then, graphic_line, both_lines}
use Rattle.ug_audit.specs.Lines.{and_words}

abbrev pub AllGraphic : List (List ℕ) → Type 0
AllGraphic [] = Unit {0}
AllGraphic (word ∷ words) = (is_graphic word ≡ true) × AllGraphic words

abbrev behind : List (List ℕ) → List ℕ
behind [] = []
behind (word ∷ words) = 32 ∷ (word ++ behind words)

words_behind : (text : List ℕ) (words : List (List ℕ)) → and_words text words ≡ text ++ behind words
words_behind text [] = sym (append-nil text)
words_behind text (word ∷ words) = words_behind (text ++ 32 ∷ word) words ∙ append_assoc text (32 ∷ word) (behind words)

split_behind : (word : List ℕ) (words : List (List ℕ)) → is_graphic word ≡ true → AllGraphic words → split_words (word ++ behind words) ≡ word ∷ words
split_behind word [] g h = ap split_words (append-nil word) ∙ split_one word g
split_behind word (next ∷ words) g h = split_then word (next ++ behind words) g ∙ ap (λ (ws : List (List ℕ)). word ∷ ws) (split_behind next words h.0 h.1)

line_behind : (word : List ℕ) (words : List (List ℕ)) → is_graphic word ≡ true → AllGraphic words → is_line (word ++ behind words) ≡ true
line_behind word [] g h = ap is_line (append-nil word) ∙ graphic_line word g
line_behind word (next ∷ words) g h = both_lines word (32 ∷ (next ++ behind words)) (graphic_line word g) (line_behind next words h.0 h.1)

abbrev pub same_word : List ℕ → List ℕ → Bool
same_word a b = pointwise nat_eq a b

abbrev pub nth : List (List ℕ) → ℕ → List ℕ
nth words i = get_or words i []

abbrev pub nth_number : List (List ℕ) → ℕ → ℕ
nth_number words i = digits_value 10 (get_or words i [])

pub byte_number : (n : ℕ) → n < 256 → n < 2 ^ 64
byte_number n h = omega (arith, h)

-- whatever is told of the words of a line
pub told_of_words : {A : Type 0} (tell : List (List ℕ) → A) (word : List ℕ) (words : List (List ℕ)) → is_graphic word ≡ true → AllGraphic words → tell (split_words (and_words word words)) ≡ tell (word ∷ words)
told_of_words tell word words g h =
    ap (λ (line : List ℕ). tell (split_words line)) (words_behind word words) ∙ ap tell (split_behind word words g h)

pub is_one_line : (word : List ℕ) (words : List (List ℕ)) → is_graphic word ≡ true → AllGraphic words → is_line (and_words word words) ≡ true
is_one_line word words g h = ap is_line (words_behind word words) ∙ line_behind word words g h
