-- What ids, interfaces, times, pasts and probabilities are as words: usbguard-rules.conf(5).
use Rattle.std.specs.Prelude.{◌≡◌, ℕ, ◌+◌, ◌-◌, ◌*◌, ◌^◌, ◌<◌, ◌≤◌, List, [], ◌∷◌, ◌++◌, length, map, codes, Option, Some, None}
use Rattle.std.specs.List.{fold, AllByRecursion}
use Rattle.hex.specs.Hex.{hex_digit_value}
use Rattle.ug_types.specs.declared.rule.Id.{Id}
use Rattle.ug_types.specs.declared.rule.Iface.{Iface}
use Rattle.ug_words.specs.declared.words.Clock.{Clock}
use Rattle.ug_words.specs.declared.words.Clock.TheVariants.{Minute, Second}
use Rattle.ug_words.specs.declared.words.DaySpan.{DaySpan}
use Rattle.ug_words.specs.Words.{first_second, last_second}

-- ---- ids and interfaces

-- two hexadecimal digits of either case
pub record IsTwo (n : ℕ) (text : List ℕ) : Type 0 where
  pub first : ℕ
  pub second : ℕ
  pub high : ℕ
  pub low : ℕ
  pub cut : text ≡ first ∷ second ∷ []
  pub says_high : hex_digit_value first ≡ Some high
  pub says_low : hex_digit_value second ≡ Some low
  pub is : n ≡ high * 16 + low

-- four hexadecimal digits of either case
pub record IsFour (n : ℕ) (text : List ℕ) : Type 0 where
  pub front : List ℕ
  pub back : List ℕ
  pub high : ℕ
  pub low : ℕ
  pub cut : text ≡ front ++ back
  pub says_high : IsTwo high front
  pub says_low : IsTwo low back
  pub is : n ≡ high * 256 + low

abbrev pub id_with : Option ℕ → Option ℕ → Id
id_with vendor product = record { vendor = vendor; product = product }

-- `*:*`, `vvvv:*` or `vvvv:pppp`
pub data IsId : Id → List ℕ → Type 0 where
  Any : IsId (id_with None None) (codes "*:*")
  OfVendor : (v : ℕ) (vendor : List ℕ) → IsFour v vendor
      → IsId (id_with (Some v) None) (vendor ++ codes ":*")
  Exact : (v p : ℕ) (vendor product : List ℕ) → IsFour v vendor → IsFour p product
      → IsId (id_with (Some v) (Some p)) (vendor ++ (codes ":" ++ product))

abbrev pub interface_with : ℕ → Option ℕ → Option ℕ → Iface
interface_with class subclass protocol =
    record { class = class; subclass = subclass; protocol = protocol }

-- `cc:*:*`, `cc:ss:*` or `cc:ss:pp`
pub data IsInterface : Iface → List ℕ → Type 0 where
  OfClass : (c : ℕ) (class : List ℕ) → IsTwo c class
      → IsInterface (interface_with c None None) (class ++ codes ":*:*")
  OfSubclass : (c s : ℕ) (class subclass : List ℕ) → IsTwo c class → IsTwo s subclass → IsInterface
      (interface_with c (Some s) None) (class ++ (codes ":" ++ (subclass ++ codes ":*")))
  OfProtocol : (c s p : ℕ) (class subclass protocol : List ℕ) → IsTwo c class → IsTwo s subclass
      → IsTwo p protocol → IsInterface (interface_with c (Some s) (Some p)) (class
      ++ (codes ":" ++ (subclass ++ (codes ":" ++ protocol))))

-- ---- decimal numbers

-- decimal digits, the highest of them first, and their number
pub record IsDecimal (n : ℕ) (text : List ℕ) : Type 0 where
  pub digits : List ℕ
  pub cut : text ≡ map (λ d. 48 + d) digits
  pub fit : AllByRecursion (λ d. d ≤ 9) digits
  pub is : n ≡ fold (λ m d. m * 10 + d) 0 digits

-- at least one digit, and a zero in front only where it is alone
abbrev pub NoLeadingZero : List ℕ → Type 0
NoLeadingZero [] = ⊥
NoLeadingZero (b ∷ []) = Unit {0}
NoLeadingZero (b ∷ c ∷ bytes) = 48 < b

-- two digits, up to a number
pub record IsPart (most n : ℕ) (text : List ℕ) : Type 0 where
  pub decimal : IsDecimal n text
  pub two : length text ≡ 2
  pub fits : n ≤ most

-- ---- times

-- `HH:MM` in seconds, with hours up to a number
pub record IsMinute (most n : ℕ) (text : List ℕ) : Type 0 where
  pub front : List ℕ
  pub back : List ℕ
  pub hours : ℕ
  pub minutes : ℕ
  pub cut : text ≡ front ++ (codes ":" ++ back)
  pub says_hours : IsPart most hours front
  pub says_minutes : IsPart 59 minutes back
  pub is : n ≡ hours * 3600 + minutes * 60

-- `HH:MM:SS` in seconds
pub record IsSecond (most n : ℕ) (text : List ℕ) : Type 0 where
  pub front : List ℕ
  pub back : List ℕ
  pub minute : ℕ
  pub seconds : ℕ
  pub cut : text ≡ front ++ (codes ":" ++ back)
  pub says_minute : IsMinute most minute front
  pub says_seconds : IsPart 59 seconds back
  pub is : n ≡ minute + seconds

-- `HH:MM` or `HH:MM:SS`
abbrev pub IsTime : ℕ → Clock → List ℕ → Type 0
IsTime most (Minute n) text = IsMinute most n text
IsTime most (Second n) text = IsSecond most n text

abbrev pub span_with : ℕ → ℕ → DaySpan
span_with begin end = record { begin = begin; end = end }

-- one time, which is each second of its minute or that second alone, or
-- two times with a dash between
pub data IsSpan : DaySpan → List ℕ → Type 0 where
  One : (time : Clock) (text : List ℕ) → IsTime 23 time text
      → IsSpan (span_with (first_second time) (last_second time)) text
  Range : (begin end : Clock) (front back : List ℕ) → IsTime 23 begin front → IsTime 23 end back
      → IsSpan (span_with (first_second begin) (first_second end)) (front ++ (codes "-" ++ back))

-- a time with hours up to 99, or a number of seconds without a leading zero
pub data IsPast : ℕ → List ℕ → Type 0 where
  Time : (time : Clock) (text : List ℕ) → IsTime 99 time text → IsPast (first_second time) text
  Seconds : (n : ℕ) (text : List ℕ) → IsDecimal n text → NoLeadingZero text → n ≤ 4294967295
      → IsPast n text

-- ---- probabilities

-- `0`, `1`, or `0.` and one to nine digits, in billionths
pub data IsChance : ℕ → List ℕ → Type 0 where
  Never : IsChance 0 (codes "0")
  Always : IsChance 1000000000 (codes "1")
  Fraction : (n : ℕ) (text : List ℕ) → IsDecimal n text → 0 < length text → length text ≤ 9
      → IsChance (n * 10 ^ (9 - length text)) (codes "0." ++ text)
