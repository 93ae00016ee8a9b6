-- How numbers are written in hexadecimal digits, in lower case.
use Rattle.std.specs.Prelude.{ℕ, ◌/◌, ◌%◌, List, [], ◌∷◌, ◌++◌}
use Rattle.std.specs.Char.{digit_char}

-- a number below 256
abbrev pub hex_two : ℕ → List ℕ
hex_two n = digit_char (n / 16) ∷ digit_char (n % 16) ∷ []

-- a number below 65,536
abbrev pub hex_four : ℕ → List ℕ
hex_four n = hex_two (n / 256) ++ hex_two (n % 256)
