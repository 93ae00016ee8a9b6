-- Hexadecimal digits that are cut into tokens.
use Rattle.std.proofs.Common.{◌≡◌, ℕ, ◌<◌, true, Some, arith}
use Rattle.std.specs.Char.{digit_char}
use Rattle.ug_words.specs.Lexing.{digit_of, is_word_byte}

pub digit_lexed : (n : ℕ) → n < 16 → digit_of (digit_char n) ≡ Some n
digit_lexed n h = grind arith

pub digit_word : (n : ℕ) → n < 16 → is_word_byte (digit_char n) ≡ true
digit_word n h = grind arith
