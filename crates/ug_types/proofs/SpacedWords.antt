-- Texts of words with one space between, and the words of a text.
use Rattle.std.proofs.Common.{◌≡◌, ℕ, ◌<◌, ◌^◌, inl, inr, Bool, true, false, nat_eq, nat_lt, List, [], ◌∷◌, ◌++◌, refl, ap, ◌∙◌, arith}
use Rattle.std.specs.Prelude.{if◌then◌else◌, ◌&&◌, decimal}
use Rattle.std.specs.List.{list_all}
use Rattle.std.specs.Str.Parse.{AllDigits}
use Rattle.std.proofs.lemmas.Bool.{and_parts}
use Rattle.std.proofs.lemmas.Bool.Decides.{nat_tests}
use Rattle.std.proofs.lemmas.Fmt.{digits_decimal}
use Rattle.std.proofs.lemmas.List.Folds.{list_all-append}
use Rattle.std.proofs.lemmas.Str.Parse.{numerals_by_value, tells_digits, digit_from_value}
use Rattle.ug_types.specs.Elements.{Has}

-- no byte is a space or a control
abbrev pub is_graphic : List ℕ → Bool
is_graphic word = list_all (nat_lt 32) word

-- no byte is a control
abbrev pub is_line : List ℕ → Bool
is_line text = list_all (nat_lt 31) text

abbrev pub onto_first : ℕ → List (List ℕ) → List (List ℕ)
onto_first b [] = (b ∷ []) ∷ []
onto_first b (word ∷ words) = (b ∷ word) ∷ words

-- what stands between spaces
abbrev pub split_words : List ℕ → List (List ℕ)
split_words [] = [] ∷ []
split_words (b ∷ text) = if nat_eq b 32 then [] ∷ split_words text else onto_first b (split_words text)

no_space : (b : ℕ) → nat_lt 32 b ≡ true → nat_eq b 32 ≡ false
no_space b e = grind (arith, nat_tests)

no_control : (b : ℕ) → nat_lt 32 b ≡ true → nat_lt 31 b ≡ true
no_control b e = grind (arith, nat_tests)

pub split_one : (word : List ℕ) → is_graphic word ≡ true → split_words word ≡ word ∷ []
split_one [] h = refl
split_one (b ∷ word) h =
    let s = and_parts (nat_lt 32 b) (is_graphic word) h in
    rw (no_space b s.0) (ap (onto_first b) (split_one word s.1))

pub split_then : (word text : List ℕ) → is_graphic word ≡ true → split_words (word ++ 32 ∷ text) ≡ word ∷ split_words text
split_then [] text h = refl
split_then (b ∷ word) text h =
    let s = and_parts (nat_lt 32 b) (is_graphic word) h in
    rw (no_space b s.0) (ap (onto_first b) (split_then word text s.1))

pub graphic_line : (word : List ℕ) → is_graphic word ≡ true → is_line word ≡ true
graphic_line [] h = refl
graphic_line (b ∷ word) h =
    let s = and_parts (nat_lt 32 b) (is_graphic word) h in
    rw (no_control b s.0) (graphic_line word s.1)

pub both_lines : (a b : List ℕ) → is_line a ≡ true → is_line b ≡ true → is_line (a ++ b) ≡ true
both_lines a b h k = list_all-append (nat_lt 31) a b ∙ ap (λ (v : Bool). v && is_line b) h ∙ k

pub both_graphic : (a b : List ℕ) → is_graphic a ≡ true → is_graphic b ≡ true → is_graphic (a ++ b) ≡ true
both_graphic a b h k = list_all-append (nat_lt 32) a b ∙ ap (λ (v : Bool). v && is_graphic b) h ∙ k

-- a newline is a control
pub line_no_newline : (text : List ℕ) → is_line text ≡ true → ¬ Has text 10
line_no_newline [] h k = k
line_no_newline (b ∷ text) h (inl m) = let s = and_parts (nat_lt 31 b) (is_line text) h in let none : ⊥ = grind (arith, nat_tests, s.0) in none
line_no_newline (b ∷ text) h (inr m) = line_no_newline text (and_parts (nat_lt 31 b) (is_line text) h).1 m

digits_graphic : (ds : List ℕ) → AllDigits 10 ds → is_graphic ds ≡ true
digits_graphic [] d = refl
digits_graphic (c ∷ ds) d =
    let k = digit_from_value c d.0 in
    let yes : nat_lt 32 c ≡ true = grind (arith, nat_tests, k.0) in
    rw yes (digits_graphic ds d.1)

pub number_graphic : (n : ℕ) → n < 2 ^ 64 → is_graphic (decimal n) ≡ true
number_graphic n h = digits_graphic (decimal n) (digits_decimal (numerals_by_value _ tells_digits) n h)
