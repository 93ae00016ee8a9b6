-- Decimal digits that are cut into tokens.
use Rattle.std.proofs.Common.{◌≡◌, ℕ, ◌<◌, ◌≤◌, true, List, [], ◌∷◌, length, arith}
use Rattle.std.specs.List.{AllByRecursion}
use Rattle.ug_words.specs.Lexing.{is_word_byte}
use Rattle.ug_words.specs.Grammar.{IsWordByte}
use Rattle.ug_words.proofs.Decimals.{IsDigit}
use Rattle.ug_print.proofs.Pieces.{IsWord}

pub digit_byte : (b : ℕ) → IsDigit b → is_word_byte b ≡ true
digit_byte b h = let low : 48 ≤ b = h.0 in let high : b ≤ 57 = h.1 in grind arith

pub digits_word : (ds : List ℕ) → AllByRecursion IsDigit ds → AllByRecursion IsWordByte ds
digits_word [] h = tt
digits_word (b ∷ ds) h = (digit_byte b h.0, digits_word ds h.1)

pub word_of_bytes : (word : List ℕ) → 0 < length word → AllByRecursion IsWordByte word → IsWord word
word_of_bytes [] some h = absurd (omega (arith, some))
word_of_bytes (b ∷ word) some h = h
