-- The tokens of a line, and those that are still to be read.
use Rattle.std.specs.Prelude.{◌≡◌, ℕ, ◌-◌, Bool, true, false, List, [], ◌∷◌, take, drop, Option, Some, None, Result, Ok, Err}
use Rattle.ug_words.specs.Lexing.{Lexed, tokens_of}
use Rattle.ug_words.specs.Lexing as lexing
use Rattle.ug_words.specs.declared.token.Token.{Token}
use Rattle.ug_words.specs.declared.token.TokenKind.{TokenKind}
use Rattle.ug_words.specs.declared.token.TokenKind.TheVariants.{Word, Str, Open, Close, ParenOpen, ParenClose, Bang}
use Rattle.ug_rule.specs.declared.fault.Fault.{Fault}
use Rattle.ug_rule.specs.declared.fault.FaultKind.TheVariants.{BadEscape, OpenString, BadByte}
use Rattle.ug_rule.specs.declared.fault.Stop.{Stop}
use Rattle.ug_rule.specs.declared.fault.Stop.TheVariants.{Bad, Memory}
use Rattle.ug_rule.specs.Faults.{fault_at}

abbrev pub word_by : List ℕ → TokenKind → ℕ → ℕ → List ℕ
word_by line Word start end = take (end - start) (drop start line)
word_by line (Str text) start end = []
word_by line Open start end = []
word_by line Close start end = []
word_by line ParenOpen start end = []
word_by line ParenClose start end = []
word_by line Bang start end = []

-- the bytes of a word, and none where the token is no word
abbrev pub word_of : List ℕ → Token → List ℕ
word_of line token = word_by line token.kind token.start token.end

abbrev pub is_word : TokenKind → Bool
is_word Word = true
is_word (Str text) = false
is_word Open = false
is_word Close = false
is_word ParenOpen = false
is_word ParenClose = false
is_word Bang = false

abbrev pub is_open : TokenKind → Bool
is_open Word = false
is_open (Str text) = false
is_open Open = true
is_open Close = false
is_open ParenOpen = false
is_open ParenClose = false
is_open Bang = false

abbrev pub is_close : TokenKind → Bool
is_close Word = false
is_close (Str text) = false
is_close Open = false
is_close Close = true
is_close ParenOpen = false
is_close ParenClose = false
is_close Bang = false

abbrev pub is_paren_open : TokenKind → Bool
is_paren_open Word = false
is_paren_open (Str text) = false
is_paren_open Open = false
is_paren_open Close = false
is_paren_open ParenOpen = true
is_paren_open ParenClose = false
is_paren_open Bang = false

abbrev pub is_paren_close : TokenKind → Bool
is_paren_close Word = false
is_paren_close (Str text) = false
is_paren_close Open = false
is_paren_close Close = false
is_paren_close ParenOpen = false
is_paren_close ParenClose = true
is_paren_close Bang = false

abbrev pub is_bang : TokenKind → Bool
is_bang Word = false
is_bang (Str text) = false
is_bang Open = false
is_bang Close = false
is_bang ParenOpen = false
is_bang ParenClose = false
is_bang Bang = true

-- what a string spells
abbrev pub string_by : TokenKind → Option (List ℕ)
string_by Word = None
string_by (Str text) = Some text
string_by Open = None
string_by Close = None
string_by ParenOpen = None
string_by ParenClose = None
string_by Bang = None

-- the word that comes first
abbrev pub first_word : List ℕ → List Token → List ℕ
first_word line [] = []
first_word line (token ∷ tokens) = word_of line token

abbrev pub starts_with_paren : List Token → Bool
starts_with_paren [] = false
starts_with_paren (token ∷ tokens) = is_paren_open token.kind

-- the tokens behind the first
abbrev pub behind_first : List Token → List Token
behind_first [] = []
behind_first (token ∷ tokens) = tokens

abbrev pub read_by : Lexed → Result (List Token) Fault
read_by (Ok tokens) = Ok tokens
read_by (Err (lexing.BadEscape place)) = Err (fault_at BadEscape place)
read_by (Err (lexing.OpenString place)) = Err (fault_at OpenString place)
read_by (Err (lexing.BadByte place)) = Err (fault_at BadByte place)

-- the tokens of a line, or the first fault of a token
abbrev pub tokens_read : List ℕ → Result (List Token) Fault
tokens_read line = read_by (tokens_of line)

-- an answer is what was read up to the tokens that are left, unless memory was refused
abbrev pub Reads : {X : Type 0} → Result X Stop → List Token → Result (X × List Token) Fault
    → Type 0
Reads (Ok x) rest read = read ≡ Ok (x, rest)
Reads (Err (Bad fault)) rest read = read ≡ Err fault
Reads (Err Memory) rest read = Unit {0}

-- the same, where what is read is written behind a reference
abbrev pub ReadsInto : {X : Type 0} → Result (Unit {0}) Stop → X → List Token
    → Result (X × List Token) Fault → Type 0
ReadsInto (Ok done) x rest read = read ≡ Ok (x, rest)
ReadsInto (Err (Bad fault)) x rest read = read ≡ Err fault
ReadsInto (Err Memory) x rest read = Unit {0}
