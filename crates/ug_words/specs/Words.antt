-- What the words of a rule's values say: usbguard-rules.conf(5).
use Rattle.std.specs.Prelude.{ℕ, ◌+◌, ◌-◌, ◌*◌, Bool, ◌&&◌, ◌||◌, nat_eq, nat_le, nat_lt, if◌then◌else◌, List, ◌++◌, length, take, drop, get_or, replicate, codes, Option, Some, None, Result, Ok, Err}
use Rattle.std.specs.List.{fold, position, starts_with}
use Rattle.std.specs.Cmp.Lexicographic.{pointwise}
use Rattle.hex.specs.Hex.{decode_sized}
use Rattle.hex.specs.declared.error.FromHexError.{FromHexError}
use Rattle.ug_types.specs.declared.rule.Id.{Id}
use Rattle.ug_types.specs.declared.rule.Iface.{Iface}
use Rattle.ug_words.specs.declared.words.DaySpan.{DaySpan}
use Rattle.ug_words.specs.declared.words.Clock.{Clock}
use Rattle.ug_words.specs.declared.words.Clock.TheVariants.{Minute, Second}

-- ---- hexadecimal numbers

abbrev pub byte_in : Result (List ℕ) FromHexError → Option ℕ
byte_in (Ok bytes) = Some (get_or bytes 0 0)
byte_in (Err e) = None

abbrev pub pair_in : Result (List ℕ) FromHexError → Option ℕ
pair_in (Ok bytes) = Some (get_or bytes 0 0 * 256 + get_or bytes 1 0)
pair_in (Err e) = None

-- two hexadecimal digits of either case
unfoldable pub two_of : List ℕ → Option ℕ
two_of text = byte_in (decode_sized text 1)

-- four hexadecimal digits of either case
unfoldable pub four_of : List ℕ → Option ℕ
four_of text = pair_in (decode_sized text 2)

-- a colon stands behind so many bytes
abbrev pub has_colon_at : ℕ → List ℕ → Bool
has_colon_at n text = nat_lt n (length text) && nat_eq (get_or text n 0) 58

unfoldable pub star : List ℕ
star = codes "*"

unfoldable pub two_stars : List ℕ
two_stars = codes "*:*"

-- ---- ids

abbrev pub id_from : ℕ → Option ℕ → Option Id
id_from vendor None = None
id_from vendor (Some product) = Some (record { vendor = Some vendor; product = Some product })

abbrev pub id_of_vendor : Option ℕ → List ℕ → Option Id
id_of_vendor None text = None
id_of_vendor (Some vendor) text =
    if pointwise nat_eq text star then Some (record { vendor = Some vendor; product = None })
    else id_from vendor (four_of text)

-- `vvvv:pppp`, `vvvv:*` or `*:*`
unfoldable pub id_of : List ℕ → Option Id
id_of word =
    if pointwise nat_eq word two_stars then Some (record { vendor = None; product = None })
    else if has_colon_at 4 word then id_of_vendor (four_of (take 4 word)) (drop 5 word)
    else None

-- ---- interfaces

abbrev pub interface_from : ℕ → ℕ → Option ℕ → Option Iface
interface_from class subclass None = None
interface_from class subclass (Some protocol) =
    Some (record { class = class; subclass = Some subclass; protocol = Some protocol })

abbrev pub interface_of_subclass : ℕ → Option ℕ → List ℕ → Option Iface
interface_of_subclass class None text = None
interface_of_subclass class (Some subclass) text =
    if pointwise nat_eq text star
    then Some (record { class = class; subclass = Some subclass; protocol = None })
    else interface_from class subclass (two_of text)

abbrev pub interface_of_class : Option ℕ → List ℕ → Option Iface
interface_of_class None text = None
interface_of_class (Some class) text =
    if pointwise nat_eq text two_stars
    then Some (record { class = class; subclass = None; protocol = None })
    else if has_colon_at 2 text
    then interface_of_subclass class (two_of (take 2 text)) (drop 3 text)
    else None

-- `cc:ss:pp`, `cc:ss:*` or `cc:*:*`
unfoldable pub interface_of : List ℕ → Option Iface
interface_of word =
    if has_colon_at 2 word then interface_of_class (two_of (take 2 word)) (drop 3 word) else None

-- ---- decimal numbers

-- one more decimal digit, up to 2^32 - 1
abbrev pub with_decimal_digit : Option ℕ → ℕ → Option ℕ
with_decimal_digit None b = None
with_decimal_digit (Some n) b =
    if nat_le 48 b && nat_le b 57 && nat_le (n * 10 + (b - 48)) 4294967295
    then Some (n * 10 + (b - 48)) else None

abbrev pub digits_of : List ℕ → Option ℕ
digits_of digits = fold with_decimal_digit (Some 0) digits

-- a decimal number without a sign or a leading zero, up to 2^32 - 1
unfoldable pub decimal_of : List ℕ → Option ℕ
decimal_of text =
    if nat_eq (length text) 0 then None
    else if nat_eq (get_or text 0 0) 48 then if nat_eq (length text) 1 then Some 0 else None
    else digits_of text

-- ---- times

abbrev pub number_up_to : ℕ → Option ℕ → Option ℕ
number_up_to most None = None
number_up_to most (Some n) = if nat_le n most then Some n else None

-- two decimal digits, up to a number
unfoldable pub part_of : ℕ → List ℕ → Option ℕ
part_of most text = if nat_eq (length text) 2 then number_up_to most (digits_of text) else None

abbrev pub minute_from : ℕ → Option ℕ → Option ℕ
minute_from hours None = None
minute_from hours (Some minutes) = Some (hours * 3600 + minutes * 60)

abbrev pub minute_of_hours : Option ℕ → List ℕ → Option ℕ
minute_of_hours None text = None
minute_of_hours (Some hours) text = minute_from hours (part_of 59 text)

-- `HH:MM` as seconds
unfoldable pub minute_of : ℕ → List ℕ → Option ℕ
minute_of most text =
    if has_colon_at 2 text then minute_of_hours (part_of most (take 2 text)) (drop 3 text) else None

abbrev pub time_at : Option ℕ → Option Clock
time_at None = None
time_at (Some minute) = Some (Minute minute)

abbrev pub second_from : ℕ → Option ℕ → Option Clock
second_from minute None = None
second_from minute (Some seconds) = Some (Second (minute + seconds))

abbrev pub second_of_minute : Option ℕ → List ℕ → Option Clock
second_of_minute None text = None
second_of_minute (Some minute) text = second_from minute (part_of 59 text)

-- `HH:MM` or `HH:MM:SS`, with hours up to a number
unfoldable pub time_of : ℕ → List ℕ → Option Clock
time_of most text =
    if has_colon_at 5 text then second_of_minute (minute_of most (take 5 text)) (drop 6 text)
    else time_at (minute_of most text)

abbrev pub first_second : Clock → ℕ
first_second (Minute minute) = minute
first_second (Second second) = second

abbrev pub last_second : Clock → ℕ
last_second (Minute minute) = minute + 59
last_second (Second second) = second

abbrev pub span_from : Clock → Option Clock → Option DaySpan
span_from begin None = None
span_from begin (Some end) = Some (record { begin = first_second begin; end = first_second end })

abbrev pub span_of_begin : Option Clock → List ℕ → Option DaySpan
span_of_begin None text = None
span_of_begin (Some begin) text = span_from begin (time_of 23 text)

abbrev pub span_at : Option Clock → Option DaySpan
span_at None = None
span_at (Some time) = Some (record { begin = first_second time; end = last_second time })

abbrev pub span_by_dash : Option ℕ → List ℕ → Option DaySpan
span_by_dash None text = span_at (time_of 23 text)
span_by_dash (Some dash) text = span_of_begin (time_of 23 (take dash text)) (drop (dash + 1) text)

-- a time of the day, a minute of it as its seconds 0 to 59, or two times with a dash between
unfoldable pub span_of : List ℕ → Option DaySpan
span_of text = span_by_dash (position (nat_eq 45) text) text

abbrev pub seconds_of_time : Option Clock → Option ℕ
seconds_of_time None = None
seconds_of_time (Some time) = Some (first_second time)

-- a time with hours up to 99, or a number of seconds
unfoldable pub past_of : List ℕ → Option ℕ
past_of text = if has_colon_at 2 text then seconds_of_time (time_of 99 text) else decimal_of text

-- ---- probabilities

unfoldable pub zero_point : List ℕ
zero_point = codes "0."

-- billionths from one to nine decimal digits; zeros stand for those that are left out
unfoldable pub billionths_of : List ℕ → Option ℕ
billionths_of digits =
    if nat_eq (length digits) 0 || nat_lt 9 (length digits) then None
    else digits_of (digits ++ replicate (9 - length digits) 48)

-- `0`, `1`, or `0.` and one to nine digits, in billionths
unfoldable pub chance_of : List ℕ → Option ℕ
chance_of text =
    if pointwise nat_eq text (codes "0") then Some 0
    else if pointwise nat_eq text (codes "1") then Some 1000000000
    else if starts_with nat_eq text zero_point then billionths_of (drop 2 text)
    else None
