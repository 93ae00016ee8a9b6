-- Numbers in words: decimal, without a sign or a leading zero, and below 2^64.
use Rattle.std.specs.Prelude.{ℕ, ◌^◌, ◌&&◌, nat_eq, nat_lt, if◌then◌else◌, List, Option, Some, None, decimal}
use Rattle.std.specs.Cmp.Lexicographic.{pointwise}
use Rattle.std.specs.Str.Parse.{digits_value}

-- the number that the word is the decimal text of
unfoldable pub number_in : List ℕ → Option ℕ
number_in word =
    if nat_lt (digits_value 10 word) (2 ^ 64)
    && pointwise nat_eq word (decimal (digits_value 10 word)) then Some (digits_value 10 word) else
    None
