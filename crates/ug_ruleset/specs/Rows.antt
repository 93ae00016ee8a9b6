-- A row of a list: a number and what has it.
use Rattle.std.specs.Prelude.{ℕ, List, ◌++◌, codes, decimal}

unfoldable pub numbered_row : ℕ → List ℕ → List ℕ
numbered_row number text = decimal number ++ (codes ": " ++ text)
