-- How the values and conditions of a rule are written: usbguard-rules.conf(5).
use Rattle.std.specs.Prelude.{ℕ, zero, suc, ◌+◌, ◌*◌, ◌/◌, ◌%◌, ◌||◌, ◌&&◌, nat_eq, nat_le, nat_lt, if◌then◌else◌, List, [], ◌∷◌, ◌++◌, Option, None, Some, decimal, flat_map}
use Rattle.ug_lines.specs.Digits.{hex_two, hex_four}
use Rattle.ug_types.specs.declared.rule.Id.{Id}
use Rattle.ug_types.specs.declared.rule.Iface.{Iface}

abbrev pub or_star : (ℕ → List ℕ) → Option ℕ → List ℕ
or_star hex None = 42 ∷ []
or_star hex (Some n) = hex n

-- vvvv:pppp, where either may be a star
abbrev pub id_text : Id → List ℕ
id_text id = or_star hex_four id.vendor ++ 58 ∷ or_star hex_four id.product

-- cc:ss:pp, where the last two may be stars
abbrev pub interface_text : Iface → List ℕ
interface_text i =
    hex_two i.class ++ 58 ∷ (or_star hex_two i.subclass ++ 58 ∷ or_star hex_two i.protocol)

-- a quote and a backslash have a backslash before them; what ASCII doesn't print is in hexadecimal
abbrev pub byte_text : ℕ → List ℕ
byte_text b =
    if nat_eq b 34 || nat_eq b 92 then 92 ∷ b ∷ [] else
    if nat_le 32 b && nat_le b 126 then b ∷ [] else 92 ∷ 120 ∷ hex_two b

abbrev pub string_text : List ℕ → List ℕ
string_text text = 34 ∷ (flat_map byte_text text ++ 34 ∷ [])

abbrev pub two_decimal_digits : ℕ → List ℕ
two_decimal_digits n = if nat_lt n 10 then 48 ∷ decimal n else decimal n

-- HH:MM:SS, of the seconds of a day
abbrev pub time_text : ℕ → List ℕ
time_text s =
    two_decimal_digits (s / 3600) ++ 58
    ∷ (two_decimal_digits (s / 60 % 60) ++ 58 ∷ two_decimal_digits (s % 60))

-- the decimal digits of n billionths, up to so many and until nothing is left
abbrev pub billionths : ℕ → ℕ → List ℕ
billionths zero n = []
billionths (suc k) n =
    if nat_eq n 0 then [] else (48 + n * 10 / 1000000000) ∷ billionths k (n * 10 % 1000000000)

-- 0, 1, or 0. and digits without zeros at their end
unfoldable pub probability_text : ℕ → List ℕ
probability_text n =
    if nat_eq n 0 then 48 ∷ [] else
    if nat_le 1000000000 n then 49 ∷ [] else 48 ∷ 46 ∷ billionths 9 n

-- what was in the past has its seconds in parentheses, or none
abbrev pub past_text : Option ℕ → List ℕ
past_text None = []
past_text (Some seconds) = 40 ∷ (decimal seconds ++ 41 ∷ [])
