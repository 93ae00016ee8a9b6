-- Names, numbers and hexadecimal words of a script's lines.
use Rattle.std.specs.Prelude.{◌≡◌, ℕ, ◌+◌, ◌-◌, ◌*◌, ℤ, pos, neg_ℤ, Bool, false, not, ◌&&◌, ◌||◌, nat_eq, nat_le, if◌then◌else◌, List, [], ◌∷◌, length, take, drop, get_or, find, Option, Some, None, Result, Ok, Err}
use Rattle.std.specs.List.{fold, list_any, position}
use Rattle.hex.specs.Hex.{decode_of, decode_sized}
use Rattle.hex.specs.declared.error.FromHexError.{FromHexError}
use Rattle.ug_lines.specs.Numbers.{number_in}
use Rattle.ug_types.specs.Reading.{after, ends_name}
use Rattle.ug_types.specs.declared.reading.Reading.{Reading}
use Rattle.ug_types.specs.declared.reading.Reading.TheVariants.{Start}
use Rattle.ug_steps.specs.declared.step.StepFault.{StepFault}
use Rattle.ug_steps.specs.declared.step.StepFault.TheVariants.{Bad, Memory}

abbrev pub cut_at_place : {X : Type 0} → (List ℕ → List ℕ → X) → X → Option ℕ → List ℕ → X
cut_at_place reads alone None text = alone
cut_at_place reads alone (Some place) text = reads (take place text) (drop (place + 1) text)

-- what stands before the first space is read with what stands behind it, unless there is none
abbrev pub cut_by_space : {X : Type 0} → (List ℕ → List ℕ → X) → X → List ℕ → X
cut_by_space reads alone text = cut_at_place reads alone (position (nat_eq 32) text) text

-- the same with the first dot
abbrev pub cut_by_dot : {X : Type 0} → (List ℕ → List ℕ → X) → X → List ℕ → X
cut_by_dot reads alone text = cut_at_place reads alone (position (nat_eq 46) text) text

abbrev pub then_byte : Option Reading → ℕ → Option Reading
then_byte None b = None
then_byte (Some reading) b = after reading b

-- what the bytes of a node name lead to
abbrev pub reading_of : List ℕ → Option Reading
reading_of text = fold then_byte (Some Start) text

abbrev pub is_whole : Option Reading → Bool
is_whole None = false
is_whole (Some reading) = ends_name reading

-- a node name of at most 31 bytes
unfoldable pub name_of : List ℕ → Option (List ℕ)
name_of text = if is_whole (reading_of text) && nat_le (length text) 31 then Some text else None

abbrev pub moment_in : Option ℕ → Option ℕ
moment_in None = None
moment_in (Some n) = if nat_le n 250000000000 then Some n else None

-- a decimal number without sign or leading zero, up to the limit
unfoldable pub moment_word : List ℕ → Option ℕ
moment_word text = moment_in (number_in text)

abbrev pub call_in : Option ℕ → Option ℕ
call_in None = None
call_in (Some n) = if nat_le 1 n && nat_le n 1048576 then Some n else None

-- the number of a call in an event, from 1 to 1,048,576
abbrev pub call_of : List ℕ → Option ℕ
call_of text = call_in (moment_word text)

abbrev pub begins_entry : Option ℕ → Bool
begins_entry None = false
begins_entry (Some b) = not (nat_eq b 35)

-- a line of settings or of access that is neither blank nor a comment
abbrev pub is_entry : List ℕ → Bool
is_entry text = begins_entry (find (λ b. not (nat_eq b 32 || nat_eq b 9)) text)

-- a text without a newline
abbrev pub is_one_line : List ℕ → Bool
is_one_line text = not (list_any (λ b. nat_eq b 10) text)

abbrev pub some_bytes : Result (List ℕ) FromHexError → Option (List ℕ)
some_bytes (Ok []) = None
some_bytes (Ok (b ∷ bytes)) = Some (b ∷ bytes)
some_bytes (Err e) = None

-- an even number of hexadecimal digits of either case, at least two
unfoldable pub bytes_of : List ℕ → Option (List ℕ)
bytes_of text = some_bytes (decode_of text)

abbrev pub seed_in : Result (List ℕ) FromHexError → Option (List ℕ)
seed_in (Ok bytes) = Some bytes
seed_in (Err e) = None

-- 32 bytes, as 64 hexadecimal digits of either case
abbrev pub seed_of : List ℕ → Option (List ℕ)
seed_of text = seed_in (decode_sized text 32)

abbrev pub is_digit : ℕ → Bool
is_digit b = nat_le 48 b && nat_le b 57

-- the number of two decimal digits
abbrev pub two_digits : ℕ → ℕ → Option ℕ
two_digits a b = if is_digit a && is_digit b then Some ((a - 48) * 10 + (b - 48)) else None

abbrev pub signed_by : ℕ → ℕ → Option ℤ
signed_by sign seconds =
    if nat_eq sign 43 then Some (pos seconds) else if nat_eq sign 45 then Some (neg_ℤ (pos seconds))
    else None

abbrev pub with_minutes : ℕ → ℕ → Option ℕ → Option ℤ
with_minutes sign hours None = None
with_minutes sign hours (Some minutes) =
    if nat_le hours 23 && nat_le minutes 59 then signed_by sign (hours * 3600 + minutes * 60)
    else None

abbrev pub with_hours : ℕ → Option ℕ → Option ℕ → Option ℤ
with_hours sign None minutes = None
with_hours sign (Some hours) minutes = with_minutes sign hours minutes

-- `+HH:MM` or `-HH:MM`, in seconds
unfoldable pub offset_of : List ℕ → Option ℤ
offset_of text =
    if nat_eq (length text) 6 && nat_eq (get_or text 3 0) 58
    then with_hours (get_or text 0 0) (two_digits (get_or text 1 0) (get_or text 2 0))
    (two_digits (get_or text 4 0) (get_or text 5 0))
    else None

-- what was asked for, or the fault where nothing is; want of memory may come at any text
abbrev pub Parses : {X : Type 0} → Option X → Result X StepFault → Type 0
Parses asked (Ok value) = asked ≡ Some value
Parses asked (Err Bad) = asked ≡ None
Parses asked (Err Memory) = Unit {0}
