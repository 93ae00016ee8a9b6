-- Hexadecimal digits that are written and read.
use Rattle.std.proofs.Common.{◌≡◌, ℕ, ◌/◌, ◌%◌, ◌<◌, List, Some, refl, arith}
use Rattle.std.specs.Char.{digit_char}
use Rattle.hex.specs.Hex.{hex_digit_value}
use Rattle.ug_words.specs.WordGrammar.{IsTwo, IsFour}
use Rattle.ug_lines.specs.Digits.{hex_two, hex_four}

digit_read : (n : ℕ) → n < 16 → hex_digit_value (digit_char n) ≡ Some n
digit_read n h = grind arith

digit_below : (c n : ℕ) → hex_digit_value c ≡ Some n → n < 16
digit_below c n h = grind arith

pub two_below : (n : ℕ) (text : List ℕ) → IsTwo n text → n < 256
two_below n text t = omega (arith, t.is, digit_below t.first t.high t.says_high, digit_below t.second t.low t.says_low)

pub four_below : (n : ℕ) (text : List ℕ) → IsFour n text → n < 65536
four_below n text t = omega (arith, t.is, two_below t.high t.front t.says_high, two_below t.low t.back t.says_low)

pub two_again : (n : ℕ) → n < 256 → IsTwo n (hex_two n)
two_again n h = record {
  first = digit_char (n / 16);
  second = digit_char (n % 16);
  high = n / 16;
  low = n % 16;
  cut = refl;
  says_high = digit_read (n / 16) (omega (arith, h));
  says_low = digit_read (n % 16) (omega arith);
  is = omega arith;
}

pub four_again : (n : ℕ) → n < 65536 → IsFour n (hex_four n)
four_again n h = record {
  front = hex_two (n / 256);
  back = hex_two (n % 256);
  high = n / 256;
  low = n % 256;
  cut = refl;
  says_high = two_again (n / 256) (omega (arith, h));
  says_low = two_again (n % 256) (omega arith);
  is = omega arith;
}
