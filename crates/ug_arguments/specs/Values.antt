-- The values that an argument may have.
use Rattle.std.specs.Prelude.{ℕ, ◌&&◌, Bool, not, nat_eq, nat_le, List, length, Option, Some, None, if◌then◌else◌}
use Rattle.std.specs.Prelude.{option_and_then, codes, bytes_eq, false}
use Rattle.std.specs.List.{list_all}
use Rattle.clap.specs.Words.{Row, first_of}
use Rattle.ug_lines.specs.Numbers.{number_in}

abbrev pub is_line_byte : ℕ → Bool
is_line_byte b = not (nat_eq b 10)

abbrev pub is_plain_byte : ℕ → Bool
is_plain_byte b = not (nat_eq b 10) && not (nat_eq b 32)

-- without a newline
abbrev pub is_line : List ℕ → Bool
is_line = list_all is_line_byte

-- at least one byte, without a newline
abbrev pub is_rule : List ℕ → Bool
is_rule text = nat_le 1 (length text) && is_line text

abbrev pub are_word_bytes : List ℕ → Bool
are_word_bytes = list_all is_plain_byte

-- at least one byte, without a newline or a space
abbrev pub is_plain_word : List ℕ → Bool
is_plain_word text = nat_le 1 (length text) && are_word_bytes text

abbrev pub passing : (List ℕ → Bool) → List ℕ → Option (List ℕ)
passing test text = if test text then Some text else None

-- the value that was found by that name, if it passes
abbrev pub text_found : (List ℕ → Bool) → List ℕ → List Row → Option (List ℕ)
text_found test id rows = option_and_then (passing test) (first_of id rows)

abbrev pub number_found : List ℕ → List Row → Option ℕ
number_found id rows = option_and_then number_in (first_of id rows)

abbrev pub is_flag_set : Option (List ℕ) → Bool
is_flag_set None = false
is_flag_set (Some text) = bytes_eq text (codes "true")

-- how many notices may be asked for
abbrev pub is_most : ℕ → Bool
is_most n = nat_le 1 n && nat_le n 1000000

-- how many events a script may be made of, and from which start

abbrev pub is_event_count : ℕ → Bool
is_event_count n = nat_le 1 n && nat_le n 500000

abbrev pub is_start : ℕ → Bool
is_start n = nat_le n 4294967295

-- whether the flag of that name stands among the words
abbrev pub is_set : List ℕ → List Row → Bool
is_set id rows = is_flag_set (first_of id rows)
