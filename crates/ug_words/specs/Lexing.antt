-- The tokens of a line, read from the front, or the first fault: usbguard-rules.conf(5).
use Rattle.std.specs.Prelude.{ℕ, zero, suc, ◌+◌, ◌-◌, ◌*◌, Bool, ◌||◌, nat_eq, if◌then◌else◌, List, [], ◌∷◌, Option, None, Some, Result, Ok, Err, ◌≡◌}
use Rattle.std.specs.Char.{is_ascii_alphanumeric}
use Rattle.std.specs.Int.{is_in_range}
use Rattle.std.specs.List.{prefix_len}
use Rattle.ug_words.specs.declared.fault.LexFault.{LexFault}
use Rattle.ug_words.specs.declared.fault.LexFault.TheVariants as lex
use Rattle.ug_words.specs.declared.pieces.Front.{Front}
use Rattle.ug_words.specs.declared.pieces.Front.TheVariants.{Blank, Comment, Piece}
use Rattle.ug_words.specs.declared.pieces.Inner.{Inner}
use Rattle.ug_words.specs.declared.pieces.Inner.TheVariants.{Quote, Newline, Stray, Byte}
use Rattle.ug_words.specs.declared.pieces.Quoted.{Quoted}
use Rattle.ug_words.specs.declared.token.Token.{Token}
use Rattle.ug_words.specs.declared.token.TokenKind.{TokenKind}
use Rattle.ug_words.specs.declared.token.TokenKind.TheVariants.{Word, Str, Open, Close, ParenOpen, ParenClose, Bang}

-- a kind of fault and its place
pub data Fault : Type 0 where
  -- a backslash that begins no escape
  BadEscape : (place : ℕ) → Fault
  -- a string without end, at its opening quote
  OpenString : (place : ℕ) → Fault
  -- a byte that begins no token
  BadByte : (place : ℕ) → Fault

abbrev pub Lexed : Type 0
Lexed = Result (List Token) Fault

-- space, tab and carriage return
abbrev pub is_blank : ℕ → Bool
is_blank b = nat_eq b 32 || nat_eq b 9 || nat_eq b 13

-- an ASCII letter or digit, a dash, an underscore, a colon, a star or a dot
abbrev pub is_word_byte : ℕ → Bool
is_word_byte b =
    is_ascii_alphanumeric b || nat_eq b 45 || nat_eq b 95 || nat_eq b 58 || nat_eq b 42
    || nat_eq b 46

-- a token of one byte
abbrev pub mark_token : ℕ → Option TokenKind
mark_token b =
    if nat_eq b 123 then Some Open else
    if nat_eq b 125 then Some Close else
    if nat_eq b 40 then Some ParenOpen else
    if nat_eq b 41 then Some ParenClose else
    if nat_eq b 33 then Some Bang else None

-- the value of a hexadecimal digit of either case
abbrev pub digit_of : ℕ → Option ℕ
digit_of b =
    if is_in_range 48 57 b then Some (b - 48) else
    if is_in_range 97 102 b then Some (b - 87) else
    if is_in_range 65 70 b then Some (b - 55) else None

-- two hexadecimal digits
abbrev pub pair_of : Option ℕ → Option ℕ → Inner
pair_of (Some high) (Some low) = Byte (high * 16 + low) 3
pair_of (Some high) None = Stray
pair_of None low = Stray

abbrev pub hex_escape : List ℕ → Inner
hex_escape [] = Stray
hex_escape (high ∷ []) = Stray
hex_escape (high ∷ low ∷ bytes) = pair_of (digit_of high) (digit_of low)

-- what a backslash begins, by the bytes behind it: a quote, a backslash, or an x with two digits
abbrev pub escape_of : List ℕ → Inner
escape_of [] = Stray
escape_of (c ∷ bytes) =
    if nat_eq c 34 || nat_eq c 92 then Byte c 1 else
    if nat_eq c 120 then hex_escape bytes else Stray

-- what stands at the front within a string
abbrev pub inner_of : List ℕ → Inner
inner_of [] = Newline
inner_of (b ∷ bytes) =
    if nat_eq b 34 then Quote else
    if nat_eq b 10 then Newline else
    if nat_eq b 92 then escape_of bytes else Byte b 0

-- how many bytes belong to the first one
abbrev pub more_of : Inner → ℕ
more_of Quote = 0
more_of Newline = 0
more_of Stray = 0
more_of (Byte value more) = more

abbrev pub spelled : ℕ → ℕ → Result Quoted Fault → Result Quoted Fault
spelled value more (Ok quoted) =
    Ok (record { text = value ∷ quoted.text; more = 1 + more + quoted.more })
spelled value more (Err fault) = Err fault

abbrev pub within_string : ℕ → ℕ → Inner → Result Quoted Fault → Result Quoted Fault
within_string opening at Quote rest = Ok (record { text = []; more = 1 })
within_string opening at Newline rest = Err (OpenString opening)
within_string opening at Stray rest = Err (BadEscape at)
within_string opening at (Byte value more) rest = spelled value more rest

-- the rest of a string that was opened at a place, where some bytes are passed over first
unfoldable pub quoted_from : ℕ → ℕ → ℕ → List ℕ → Result Quoted Fault
quoted_from opening at passed [] = Err (OpenString opening)
quoted_from opening at (suc passed) (b ∷ bytes) = quoted_from opening (at + 1) passed bytes
quoted_from opening at zero (b ∷ bytes) =
    within_string opening at (inner_of (b ∷ bytes))
    (quoted_from opening (at + 1) (more_of (inner_of (b ∷ bytes))) bytes)

abbrev pub string_of : Result Quoted Fault → Result Front Fault
string_of (Ok quoted) = Ok (Piece (Str quoted.text) quoted.more)
string_of (Err fault) = Err fault

abbrev pub mark_at : ℕ → Option TokenKind → Result Front Fault
mark_at at (Some kind) = Ok (Piece kind 0)
mark_at at None = Err (BadByte at)

-- what stands at the front of the rest of a line, from a place on
unfoldable pub front_of : ℕ → List ℕ → Result Front Fault
front_of at [] = Ok Comment
front_of at (b ∷ bytes) =
    if is_blank b then Ok Blank else
    if nat_eq b 35 then Ok Comment else
    if nat_eq b 34 then string_of (quoted_from at (at + 1) 0 bytes) else
    if is_word_byte b then Ok (Piece Word (prefix_len is_word_byte bytes)) else
    mark_at at (mark_token b)

abbrev pub passed_by : Result Front Fault → ℕ
passed_by (Ok Blank) = 0
passed_by (Ok Comment) = 0
passed_by (Ok (Piece kind more)) = more
passed_by (Err fault) = 0

abbrev pub led_by : Token → Lexed → Lexed
led_by token (Ok tokens) = Ok (token ∷ tokens)
led_by token (Err fault) = Err fault

abbrev pub before_rest : ℕ → Result Front Fault → Lexed → Lexed
before_rest at (Ok Blank) rest = rest
before_rest at (Ok Comment) rest = Ok []
before_rest at (Ok (Piece kind more)) rest =
    led_by (record { kind = kind; start = at; end = at + 1 + more }) rest
before_rest at (Err fault) rest = Err fault

-- the tokens of the rest of a line from a place on, where some bytes are passed over first
unfoldable pub tokens_from : ℕ → ℕ → List ℕ → Lexed
tokens_from at passed [] = Ok []
tokens_from at (suc passed) (b ∷ bytes) = tokens_from (at + 1) passed bytes
tokens_from at zero (b ∷ bytes) =
    before_rest at (front_of at (b ∷ bytes))
    (tokens_from (at + 1) (passed_by (front_of at (b ∷ bytes))) bytes)

-- the tokens of a line, or its first fault
unfoldable pub tokens_of : List ℕ → Lexed
tokens_of line = tokens_from 0 0 line

-- an answer is what was read, unless memory was refused
abbrev pub AnswersTokens : {X : Type 0} → Result X LexFault → Result X Fault → Type 0
AnswersTokens (Ok value) read = read ≡ Ok value
AnswersTokens (Err (lex.BadEscape place)) read = read ≡ Err (BadEscape place)
AnswersTokens (Err (lex.OpenString place)) read = read ≡ Err (OpenString place)
AnswersTokens (Err (lex.BadByte place)) read = read ≡ Err (BadByte place)
AnswersTokens (Err lex.Memory) read = Unit {0}
