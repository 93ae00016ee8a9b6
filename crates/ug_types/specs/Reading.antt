-- What the bytes of a node name lead to, one after the other.
use Rattle.std.specs.Prelude.{ℕ, ◌+◌, ◌-◌, ◌*◌, Bool, true, false, Option, Some, None, nat_eq, nat_le, ◌&&◌, if◌then◌else◌}
use Rattle.std.specs.Option.{option_map}
use Rattle.ug_types.specs.declared.reading.Reading.{Reading}
use Rattle.ug_types.specs.declared.reading.Reading.TheVariants.{Start, U, Us, Usb, RootHub, Bus, Mark, Port}

abbrev pub only_letter : ℕ → Reading → ℕ → Option Reading
only_letter letter next b = if nat_eq b letter then Some next else None

-- a number doesn't begin with a zero
abbrev pub first_digit : ℕ → Option ℕ
first_digit b = if nat_le 49 b && nat_le b 57 then Some (b - 48) else None

abbrev pub up_to : ℕ → ℕ → Option ℕ
up_to most n = if nat_le n most then Some n else None

abbrev pub with_digit : ℕ → ℕ → ℕ → Option ℕ
with_digit most n b = if nat_le 48 b && nat_le b 57 then up_to most (n * 10 + (b - 48)) else None

abbrev pub after : Reading → ℕ → Option Reading
after Start b = if nat_eq b 117 then Some U else option_map Bus (first_digit b)
after U b = only_letter 115 Us b
after Us b = only_letter 98 Usb b
after Usb b = option_map RootHub (first_digit b)
after (RootHub n) b = option_map RootHub (with_digit 999 n b)
after (Bus n) b = if nat_eq b 45 then Some Mark else option_map Bus (with_digit 999 n b)
after Mark b = option_map Port (first_digit b)
after (Port n) b = if nat_eq b 46 then Some Mark else option_map Port (with_digit 255 n b)

abbrev pub ends_name : Reading → Bool
ends_name Start = false
ends_name U = false
ends_name Us = false
ends_name Usb = false
ends_name (RootHub n) = true
ends_name (Bus n) = false
ends_name Mark = false
ends_name (Port n) = true
