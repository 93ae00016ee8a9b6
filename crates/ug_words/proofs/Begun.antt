-- What a byte outside a string begins.
use Rattle.std.proofs.Common.{◌≡◌, ℕ, ◌+◌, Bool, true, false, nat_eq, if◌then◌else◌, List, [], ◌∷◌, ◌++◌, length, None, Some, Result, Ok, Err, refl, sym, ap, ◌∙◌, arith}
use Rattle.std.specs.Prelude.{◌≢◌}
use Rattle.std.specs.List.{AllByRecursion, prefix_len}
use Rattle.ug_words.specs.declared.pieces.Front.{Front}
use Rattle.ug_words.specs.declared.pieces.Front.TheVariants.{Blank, Comment, Piece}
use Rattle.ug_words.specs.declared.token.TokenKind.{TokenKind}
use Rattle.ug_words.specs.declared.token.TokenKind.TheVariants as kind
use Rattle.ug_words.specs.Lexing.{Fault, BadByte, front_of, is_blank, is_word_byte, mark_at, mark_token, quoted_from, string_of}
use Rattle.ug_words.specs.Grammar.{IsWordByte, goes_on}

pub blank_front : (at b : ℕ) (bytes : List ℕ) → is_blank b ≡ true → front_of at (b ∷ bytes) ≡ Ok Blank
unfolding front_of
blank_front at b bytes h = grind arith

pub comment_front : (at : ℕ) (bytes : List ℕ) → front_of at (35 ∷ bytes) ≡ Ok Comment
unfolding front_of
comment_front at bytes = refl

pub string_front : (at : ℕ) (bytes : List ℕ) → front_of at (34 ∷ bytes) ≡ string_of (quoted_from at (at + 1) 0 bytes)
unfolding front_of
string_front at bytes = refl

apart : (b n : ℕ) → is_word_byte b ≡ true → is_word_byte n ≡ false → b ≢ n
apart b n h f = λ e. let no : true ≡ false = sym h ∙ ap is_word_byte e ∙ f in let none : ⊥ = cc in absurd none

unmarked : (b n : ℕ) (mark : TokenKind) → mark_token b ≡ Some mark → mark_token n ≡ None → b ≢ n
unmarked b n mark h f = λ e. let no : Some mark ≡ None = sym h ∙ ap mark_token e ∙ f in let none : ⊥ = cc in absurd none

solid : (b : ℕ) → b ≢ 32 → b ≢ 9 → b ≢ 13 → is_blank b ≡ false
solid b space tab return = grind arith

pub same_number : (b n : ℕ) → nat_eq b n ≡ true → b ≡ n
same_number b n h = grind arith

pub other_number : (b n : ℕ) → nat_eq b n ≡ false → b ≢ n
other_number b n h = λ e. grind arith

not_eq : (b n : ℕ) → b ≢ n → nat_eq b n ≡ false
not_eq b n h = grind arith

unlisted : (b : ℕ) → b ≢ 123 → b ≢ 125 → b ≢ 40 → b ≢ 41 → b ≢ 33 → mark_token b ≡ None
unlisted b a c d e f = grind arith

-- a byte that is no blank, comment or quote
other_front : (at b : ℕ) (bytes : List ℕ) → is_blank b ≡ false → b ≢ 35 → b ≢ 34 → front_of at (b ∷ bytes) ≡ (if is_word_byte b then Ok (Piece kind.Word (prefix_len is_word_byte bytes)) else mark_at at (mark_token b))
unfolding front_of
other_front at b bytes blank hash quote =
    let word : Result Front Fault = if is_word_byte b then Ok (Piece kind.Word (prefix_len is_word_byte bytes)) else mark_at at (mark_token b) in
    let string : Result Front Fault = string_of (quoted_from at (at + 1) 0 bytes) in
    ap (λ (v : Bool). if v then Ok Blank else if nat_eq b 35 then Ok Comment else if nat_eq b 34 then string else word) blank
    ∙ ap (λ (v : Bool). if v then Ok Comment else if nat_eq b 34 then string else word) (not_eq b 35 hash)
    ∙ ap (λ (v : Bool). if v then string else word) (not_eq b 34 quote)

pub word_front : (at b : ℕ) (bytes : List ℕ) → is_word_byte b ≡ true → front_of at (b ∷ bytes) ≡ Ok (Piece kind.Word (prefix_len is_word_byte bytes))
word_front at b bytes h =
    other_front at b bytes (solid b (apart b 32 h refl) (apart b 9 h refl) (apart b 13 h refl)) (apart b 35 h refl) (apart b 34 h refl)
    ∙ ap (λ (v : Bool). if v then Ok (Piece kind.Word (prefix_len is_word_byte bytes)) else mark_at at (mark_token b)) h

no_mark : (b : ℕ) → is_word_byte b ≡ true → mark_token b ≡ None
no_mark b h =
    let open_ : b ≢ 123 = apart b 123 h refl in
    let close : b ≢ 125 = apart b 125 h refl in
    let paren : b ≢ 40 = apart b 40 h refl in
    let end_ : b ≢ 41 = apart b 41 h refl in
    let bang : b ≢ 33 = apart b 33 h refl in
    unlisted b open_ close paren end_ bang

mark_no_word : (b : ℕ) (mark : TokenKind) → mark_token b ≡ Some mark → is_word_byte b ≡ false
mark_no_word b mark h =
    let T : Bool → Type 0 = λ v. is_word_byte b ≡ v → is_word_byte b ≡ false in
    let f : (v : Bool) → T v = λ v. elim v as T [
      | true ↦ λ e. let no : Some mark ≡ None = sym h ∙ no_mark b e in let none : ⊥ = cc in absurd none
      | false ↦ λ e. e
    ] in
    f (is_word_byte b) refl

pub mark_front : (at b : ℕ) (bytes : List ℕ) (mark : TokenKind) → mark_token b ≡ Some mark → front_of at (b ∷ bytes) ≡ Ok (Piece mark 0)
mark_front at b bytes mark h =
    other_front at b bytes (solid b (unmarked b 32 mark h refl) (unmarked b 9 mark h refl) (unmarked b 13 mark h refl)) (unmarked b 35 mark h refl) (unmarked b 34 mark h refl)
    ∙ ap (λ (v : Bool). if v then Ok (Piece kind.Word (prefix_len is_word_byte bytes)) else mark_at at (mark_token b)) (mark_no_word b mark h)
    ∙ ap (mark_at at) h

pub strange_front : (at b : ℕ) (bytes : List ℕ) → is_blank b ≡ false → is_word_byte b ≡ false → mark_token b ≡ None → b ≢ 34 → b ≢ 35 → front_of at (b ∷ bytes) ≡ Err (BadByte at)
unfolding front_of
strange_front at b bytes blank word mark quote hash = grind arith

-- a run of a word's bytes
pub run_length : (run rest : List ℕ) → AllByRecursion IsWordByte run → goes_on rest ≡ false → prefix_len is_word_byte (run ++ rest) ≡ length run
run_length [] [] all stop = refl
run_length [] (b ∷ rest) all stop = grind arith
run_length (b ∷ run) rest all stop = let h = run_length run rest all.1 stop in let e : is_word_byte b ≡ true = all.0 in grind arith

pub record Run (bytes : List ℕ) : Type 0 where
  pub run : List ℕ
  pub rest : List ℕ
  pub all : bytes ≡ run ++ rest
  pub each : AllByRecursion IsWordByte run
  pub stop : goes_on rest ≡ false

pub run_of : (bytes : List ℕ) → Run bytes
run_of [] = record { run = []; rest = []; all = refl; each = tt; stop = refl }
run_of (b ∷ bytes) =
    let T : Bool → Type 0 = λ v. is_word_byte b ≡ v → Run (b ∷ bytes) in
    let more : Run bytes = run_of bytes in
    let f : (v : Bool) → T v = λ v. elim v as T [
      | true ↦ λ e. record { run = b ∷ more.run; rest = more.rest; all = ap (λ (l : List ℕ). b ∷ l) more.all; each = (e, more.each); stop = more.stop }
      | false ↦ λ e. record { run = []; rest = b ∷ bytes; all = refl; each = tt; stop = e }
    ] in
    f (is_word_byte b) refl
