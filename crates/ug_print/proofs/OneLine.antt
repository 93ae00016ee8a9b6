-- A text that is cut into pieces stands on one line.
use Rattle.std.proofs.Common.{◌≡◌, ◌≢◌, ℕ, ◌<◌, inl, inr, ◌⊎◌, true, List, [], ◌∷◌, ◌++◌, Option, Some, Result, Ok, Err, refl, sym, subst, ◌∙◌, arith}
use Rattle.std.specs.List.{AllByRecursion}
use Rattle.std.specs.Prelude.{IfOk}
use Rattle.std.proofs.lemmas.List.{append-nil}
use Rattle.ug_types.specs.declared.no_memory.NoMemory.{NoMemory}
use Rattle.ug_words.specs.declared.token.TokenKind.{TokenKind}
use Rattle.ug_words.specs.Lexing.{digit_of, is_blank, is_word_byte, mark_token}
use Rattle.ug_words.specs.Grammar.{AllStand, IsWordByte, LinePart, Spells, Empty, Itself, Escaped, Coded, StandsInLine, Blank, Mark, Word, String, parts_text}
use Rattle.ug_lines.specs.Splitting.{IsLine}
use Rattle.ug_print.proofs.Pieces.{Piece, Cut}

append_line : (a b : List ℕ) → IsLine a → IsLine b → IsLine (a ++ b)
append_line [] b h k = k
append_line (x ∷ a) b h k = (h.0, append_line a b h.1 k)

-- bytes of which a newline is none

hex_byte : (b n : ℕ) → digit_of b ≡ Some n → b ≢ 10
hex_byte b n h e = let here : digit_of 10 ≡ Some n = subst (λ (k : ℕ). digit_of k ≡ Some n) e h in let none : ⊥ = cc in none

blank_byte : (b : ℕ) → is_blank b ≡ true → b ≢ 10
blank_byte b h e = let here : is_blank 10 ≡ true = subst (λ (k : ℕ). is_blank k ≡ true) e h in let none : ⊥ = cc in none

word_byte : (b : ℕ) → is_word_byte b ≡ true → b ≢ 10
word_byte b h e = let here : is_word_byte 10 ≡ true = subst (λ (k : ℕ). is_word_byte k ≡ true) e h in let none : ⊥ = cc in none

mark_byte : (b : ℕ) (mark : TokenKind) → mark_token b ≡ Some mark → b ≢ 10
mark_byte b mark h e = let here : mark_token 10 ≡ Some mark = subst (λ (k : ℕ). mark_token k ≡ Some mark) e h in let none : ⊥ = cc in none

quoted_byte : (b : ℕ) → (b ≡ 34) ⊎ (b ≡ 92) → b ≢ 10
quoted_byte b (inl h) e = omega arith
quoted_byte b (inr h) e = omega arith

other : (m : ℕ) → 10 < m → m ≢ 10
other m h e = omega arith

-- parts of a line

word_line : (run : List ℕ) → AllByRecursion IsWordByte run → IsLine run
word_line [] h = tt
word_line (b ∷ run) h = (word_byte b h.0, word_line run h.1)

inside_line : (inside text : List ℕ) → Spells inside text → IsLine inside
inside_line inside text Empty = tt
inside_line inside text (Itself b more rest h k n s) = (n, inside_line more rest s)
inside_line inside text (Escaped b more rest h s) = (other 92 (omega arith), (quoted_byte b h, inside_line more rest s))
inside_line inside text (Coded high low h l more rest d e s) = (other 92 (omega arith), (other 120 (omega arith), (hex_byte high h d, (hex_byte low l e, inside_line more rest s))))

part_line : (bytes : List ℕ) (kind : Option TokenKind) (rest : List ℕ) → StandsInLine bytes kind rest → IsLine bytes
part_line bytes kind rest (Blank b r h) = (blank_byte b h, tt)
part_line bytes kind rest (Mark b mark r h) = (mark_byte b mark h, tt)
part_line bytes kind rest (Word b run r h g) = word_line (b ∷ run) h
part_line bytes kind rest (String inside text r s) = (other 34 (omega arith), append_line inside (34 ∷ []) (inside_line inside text s) (other 34 (omega arith), tt))

parts_line : (parts : List LinePart) → AllStand parts [] → IsLine (parts_text parts [])
parts_line [] h = tt
parts_line (part ∷ parts) h = append_line part.bytes (parts_text parts []) (part_line part.bytes part.kind (parts_text parts []) h.0) (parts_line parts h.1)

pub cut_line : (text : List ℕ) (pieces : List Piece) → Cut text pieces → IsLine text
cut_line text pieces c =
    let e : text ≡ parts_text c.parts [] = sym (append-nil text) ∙ c.all [] in
    subst IsLine (sym e) (parts_line c.parts (c.stand [] refl))

-- ---- of an answer that has the text

pub answer_on_line : (text : List ℕ) (result : Result (List ℕ) NoMemory) → IfOk result (λ found. found ≡ text) → IsLine text → IfOk result (λ found. IsLine found)
answer_on_line text (Ok found) e h = subst IsLine (sym e) h
answer_on_line text (Err no_memory) e h = tt

pub answer_is : (a b : List ℕ) (result : Result (List ℕ) NoMemory) → IfOk result (λ text. text ≡ a) → a ≡ b → IfOk result (λ text. text ≡ b)
answer_is a b (Ok text) e h = e ∙ h
answer_is a b (Err no_memory) e h = tt
