-- A line cut into blanks, tokens and a comment: usbguard-rules.conf(5).
use Rattle.std.specs.Prelude.{◌≡◌, ◌≢◌, ℕ, ◌+◌, ◌*◌, ◌<◌, ◌≤◌, ◌⊎◌, Bool, true, false, List, [], ◌∷◌, ◌++◌, length, Option, None, Some}
use Rattle.std.specs.List.{AllByRecursion}
use Rattle.ug_words.specs.declared.fault.LexFault.{LexFault}
use Rattle.ug_words.specs.declared.fault.LexFault.TheVariants as lex
use Rattle.ug_words.specs.declared.token.Token.{Token}
use Rattle.ug_words.specs.declared.token.TokenKind.{TokenKind}
use Rattle.ug_words.specs.declared.token.TokenKind.TheVariants as kind
use Rattle.ug_words.specs.Lexing.{Fault, BadEscape, OpenString, BadByte, digit_of, is_blank, is_word_byte, mark_token}

-- the bytes within a string spell a text
pub data Spells : List ℕ → List ℕ → Type 0 where
  Empty : Spells [] []
  -- a byte that stands for itself
  Itself : (b : ℕ) (inside text : List ℕ) → b ≢ 34 → b ≢ 92 → b ≢ 10 → Spells inside text
      → Spells (b ∷ inside) (b ∷ text)
  -- a backslash before a quote or a backslash
  Escaped : (b : ℕ) (inside text : List ℕ) → (b ≡ 34) ⊎ (b ≡ 92) → Spells inside text
      → Spells (92 ∷ b ∷ inside) (b ∷ text)
  -- a backslash, an x and two hexadecimal digits
  Coded : (high low h l : ℕ) (inside text : List ℕ) → digit_of high ≡ Some h → digit_of low ≡ Some l
      → Spells inside text → Spells (92 ∷ 120 ∷ high ∷ low ∷ inside) ((h * 16 + l) ∷ text)

abbrev pub goes_on : List ℕ → Bool
goes_on [] = false
goes_on (b ∷ bytes) = is_word_byte b

abbrev pub IsWordByte : ℕ → Type 0
IsWordByte b = is_word_byte b ≡ true

-- bytes that are a blank or a token, before the rest of the line
pub data StandsInLine : List ℕ → Option TokenKind → List ℕ → Type 0 where
  Blank : (b : ℕ) (rest : List ℕ) → is_blank b ≡ true → StandsInLine (b ∷ []) None rest
  Mark : (b : ℕ) (mark : TokenKind) (rest : List ℕ) → mark_token b ≡ Some mark
      → StandsInLine (b ∷ []) (Some mark) rest
  -- a longest run of a word's bytes
  Word : (b : ℕ) (run rest : List ℕ) → AllByRecursion IsWordByte (b ∷ run) → goes_on rest ≡ false
      → StandsInLine (b ∷ run) (Some kind.Word) rest
  String : (inside text rest : List ℕ) → Spells inside text
      → StandsInLine (34 ∷ (inside ++ 34 ∷ [])) (Some (kind.Str text)) rest

-- some bytes of a line, and the token that they are unless they are a blank
pub record LinePart : Type 0 where
  pub bytes : List ℕ
  pub kind : Option TokenKind

abbrev pub parts_text : List LinePart → List ℕ → List ℕ
parts_text [] rest = rest
parts_text (part ∷ parts) rest = part.bytes ++ parts_text parts rest

-- each is a blank or a token, before what stands behind it
abbrev pub AllStand : List LinePart → List ℕ → Type 0
AllStand [] rest = Unit {0}
AllStand (part ∷ parts) rest =
    StandsInLine part.bytes part.kind (parts_text parts rest) × AllStand parts rest

abbrev pub token_at : ℕ → List ℕ → Option TokenKind → List Token
token_at at bytes None = []
token_at at bytes (Some kind) = record { kind = kind; start = at; end = at + length bytes } ∷ []

-- the tokens among the parts, which begin at a place
abbrev pub tokens_placed : ℕ → List LinePart → List Token
tokens_placed at [] = []
tokens_placed at (part ∷ parts) =
    token_at at part.bytes part.kind ++ tokens_placed (at + length part.bytes) parts

-- how many bytes the parts have
abbrev pub width : List LinePart → ℕ
width [] = 0
width (part ∷ parts) = length part.bytes + width parts

-- nothing, or a comment
abbrev pub IsComment : List ℕ → Type 0
IsComment rest = (rest ≡ []) ⊎ ((text : List ℕ) × (rest ≡ 35 ∷ text))

-- the line has these tokens
pub record Good (line : List ℕ) (tokens : List Token) : Type 0 where
  pub parts : List LinePart
  pub rest : List ℕ
  pub all : line ≡ parts_text parts rest
  pub stand : AllStand parts rest
  pub ends : IsComment rest
  pub says : tokens ≡ tokens_placed 0 parts

abbrev pub IsLineEnd : List ℕ → Type 0
IsLineEnd rest = (rest ≡ []) ⊎ ((more : List ℕ) × (rest ≡ 10 ∷ more))

-- a backslash before these bytes begins an escape
pub data BeginsEscape : List ℕ → Type 0 where
  Plain : (b : ℕ) (rest : List ℕ) → (b ≡ 34) ⊎ (b ≡ 92) → BeginsEscape (b ∷ rest)
  Digits : (high low h l : ℕ) (rest : List ℕ) → digit_of high ≡ Some h → digit_of low ≡ Some l
      → BeginsEscape (120 ∷ high ∷ low ∷ rest)

-- no token, blank or comment stands at the front of the rest, which begins at a place
pub data Faulty (at : ℕ) : List ℕ → Fault → Type 0 where
  -- a byte that begins nothing
  Strange : (b : ℕ) (behind : List ℕ) → is_blank b ≡ false → is_word_byte b ≡ false
      → mark_token b ≡ None → b ≢ 34 → b ≢ 35 → Faulty at (b ∷ behind) (BadByte at)
  -- a string that meets the line's end
  Unclosed : (inside text behind : List ℕ) → Spells inside text → IsLineEnd behind
      → Faulty at (34 ∷ (inside ++ behind)) (OpenString at)
  -- a string that meets a backslash without escape
  Misspelled : (inside text behind : List ℕ) → Spells inside text → (BeginsEscape behind → ⊥)
      → Faulty at (34 ∷ (inside ++ 92 ∷ behind)) (BadEscape (at + 1 + length inside))

-- the line has this first fault
pub record Bad (line : List ℕ) (fault : Fault) : Type 0 where
  pub parts : List LinePart
  pub rest : List ℕ
  pub all : line ≡ parts_text parts rest
  pub stand : AllStand parts rest
  pub faulty : Faulty (width parts) rest fault

abbrev pub IfLexical : LexFault → (Fault → Type 0) → Type 0
IfLexical (lex.BadEscape place) P = P (BadEscape place)
IfLexical (lex.OpenString place) P = P (OpenString place)
IfLexical (lex.BadByte place) P = P (BadByte place)
IfLexical lex.Memory P = Unit {0}

-- the tokens take bytes one behind another, each at least one, between two places
abbrev pub InOrder : ℕ → ℕ → List Token → Type 0
InOrder from to [] = from ≤ to
InOrder from to (token ∷ tokens) =
    (from ≤ token.start) × (token.start < token.end) × InOrder token.end to tokens
