-- The words of a refusal behind `refused`: its number, and what stands behind.
use Rattle.std.specs.Prelude.{◌≡◌, ℕ, ◌≤◌, Bool, true, false, List, [], ◌∷◌, ◌++◌, codes, decimal}
use Rattle.ug_types.specs.Access.{section_word, privilege_word}
use Rattle.ug_types.specs.declared.access.Section.{Section}
use Rattle.ug_types.specs.declared.access.Privilege.{Privilege}
use Rattle.ug_types.specs.declared.refusal.Refusal.{Refusal}
use Rattle.ug_types.specs.declared.refusal.Refusal.TheVariants as refusal
use Rattle.ug_types.specs.Refusals.{refusal_words, IsRefusal}

-- a number, and the byte that ends it
abbrev pub number_then : ℕ → ℕ → List ℕ
number_then end n = decimal n ++ end ∷ []

abbrev pub named_number : List ℕ → ℕ → List ℕ
named_number name n = name ++ number_then 10 n

abbrev pub named_numbers : List ℕ → ℕ × ℕ → List ℕ
named_numbers name numbers = name ++ (number_then 32 numbers.0 ++ number_then 10 numbers.1)

-- a word, and the byte that ends it
abbrev pub spelled_then : {X : Type 0} → (X → List ℕ) → ℕ → X → List ℕ
spelled_then word_of end it = word_of it ++ end ∷ []

abbrev pub section_then : Section → List ℕ
section_then = spelled_then section_word 32

abbrev pub privilege_then : Privilege → List ℕ
privilege_then = spelled_then privilege_word 10

abbrev pub denied_pair : Section × Privilege → List ℕ
denied_pair pair = section_then pair.0 ++ privilege_then pair.1

abbrev pub denial_text : Section × Privilege → List ℕ
denial_text pair = codes "denied " ++ denied_pair pair

-- what has no numbers
abbrev pub Anything : {X : Type 0} → X → Type 0
Anything x = Unit {0}

abbrev pub IsNumberIn : ℕ → ℕ → ℕ → Type 0
IsNumberIn least most n = (least ≤ n) × (n ≤ most)

abbrev pub IsPairIn : ℕ → ℕ × ℕ → Type 0
IsPairIn most numbers = IsNumberIn 0 most numbers.0 × IsNumberIn 0 18446744073709551615 numbers.1

abbrev pub stands_number : Bool → ℕ
stands_number false = 0
stands_number true = 1

abbrev pub refusal_number : Refusal → ℕ
refusal_number (refusal.BadRequest place) = 1
refusal_number (refusal.Denied section privilege) = 2
refusal_number (refusal.BadRule kind place) = 3
refusal_number (refusal.NoDevice number) = 4
refusal_number (refusal.NoRule id) = 5
refusal_number refusal.BadParameter = 6
refusal_number refusal.BadValue = 7
refusal_number (refusal.MalformedDevice number) = 8
refusal_number refusal.RulesFull = 9
refusal_number (refusal.StoreFault count) = 10
refusal_number (refusal.DeviceFault call count) = 11
refusal_number (refusal.Memory stands) = 12
refusal_number (refusal.ProbeFault count) = 13
refusal_number (refusal.FolderRule id) = 14

-- what stands behind the number, with the newline
unfoldable pub refusal_rest : Refusal → List ℕ
refusal_rest (refusal.BadRequest place) = named_number (codes "bad-request ") place
refusal_rest (refusal.Denied section privilege) = denial_text (section, privilege)
refusal_rest (refusal.BadRule kind place) = named_numbers (codes "bad-rule ") (kind, place)
refusal_rest (refusal.NoDevice number) = named_number (codes "no-device ") number
refusal_rest (refusal.NoRule id) = named_number (codes "no-rule ") id
refusal_rest refusal.BadParameter = codes "bad-parameter\n"
refusal_rest refusal.BadValue = codes "bad-value\n"
refusal_rest (refusal.MalformedDevice number) = named_number (codes "malformed-device ") number
refusal_rest refusal.RulesFull = codes "rules-full\n"
refusal_rest (refusal.StoreFault count) = named_number (codes "store-fault ") count
refusal_rest (refusal.DeviceFault call count) = named_numbers (codes "device-fault ") (call, count)
refusal_rest (refusal.Memory stands) = named_number (codes "memory ") (stands_number stands)
refusal_rest (refusal.ProbeFault count) = named_number (codes "probe-fault ") count
refusal_rest (refusal.FolderRule id) = named_number (codes "folder-rule ") id

abbrev pub refusal_line : Refusal → List ℕ
refusal_line r = refusal_words r ++ 10 ∷ []

-- a refusal of that number
abbrev pub HasRefusalNumber : ℕ → Refusal → Type 0
HasRefusalNumber number r = IsRefusal r × (refusal_number r ≡ number)
