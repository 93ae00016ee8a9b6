-- Names of device nodes and principals are words.
use Rattle.std.proofs.Common.{◌≡◌, ℕ, inl, inr, Bool, true, false, nat_eq, nat_lt, nat_le, List, [], ◌∷◌, ◌++◌, refl, ap, ◌∙◌, arith}
use Rattle.std.specs.Prelude.{codes, decimal, if◌then◌else◌, ◌&&◌, length}
use Rattle.std.specs.Cmp.Lexicographic.{pointwise}
use Rattle.std.specs.List.{list_all}
use Rattle.std.specs.Str.Parse.{AllDigits}
use Rattle.std.proofs.lemmas.Bool.{and_parts, false≢true}
use Rattle.std.proofs.lemmas.Bool.Decides.{nat_tests}
use Rattle.std.proofs.lemmas.Fmt.{digits_decimal}
use Rattle.std.proofs.lemmas.Str.Parse.{numerals_by_value, tells_digits, digit_from_value}
use Rattle.ug_types.specs.NodeNames.{IsPort, ArePorts, joined_by_dots, IsNodeName}
use Rattle.ug_types.specs.Principals.{Named, is_name_byte, is_name, principal_text}
use Rattle.ug_types.proofs.SpacedWords.{is_graphic, number_graphic, both_graphic}

port_graphic : (port : ℕ) → IsPort port → is_graphic (decimal port) ≡ true
port_graphic port h = number_graphic port (omega (arith, h.1))

joined_graphic : (port : ℕ) (ports : List ℕ) → ArePorts (port ∷ ports) → is_graphic (joined_by_dots port ports) ≡ true
joined_graphic port [] h = port_graphic port h.0
joined_graphic port (next ∷ ports) h = both_graphic (decimal port) (46 ∷ joined_by_dots next ports) (port_graphic port h.0) (joined_graphic next ports h.1)

pub node_graphic : (name : List ℕ) → IsNodeName name → is_graphic name ≡ true
node_graphic name (inl h) = ap is_graphic h.is ∙ number_graphic h.bus (omega (arith, h.is_bus.1))
node_graphic name (inr h) = ap is_graphic h.is ∙ both_graphic (decimal h.bus) (45 ∷ joined_by_dots h.port h.ports) (number_graphic h.bus (omega (arith, h.is_bus.1))) (joined_graphic h.port h.ports h.are_ports)

no_star : (ds text : List ℕ) → AllDigits 10 ds → pointwise nat_eq (ds ++ 45 ∷ text) (codes "*") ≡ false
no_star [] text d = refl
no_star (c ∷ ds) text d =
    let k = digit_from_value c d.0 in
    let no : nat_eq c 42 ≡ false = grind (arith, nat_tests, k.0) in
    rw no refl

-- no name is a star
pub node_no_star : (name : List ℕ) → IsNodeName name → pointwise nat_eq name (codes "*") ≡ false
node_no_star name (inl h) = ap (λ (v : List ℕ). pointwise nat_eq v (codes "*")) h.is
node_no_star name (inr h) =
    ap (λ (v : List ℕ). pointwise nat_eq v (codes "*")) h.is
    ∙ no_star (decimal h.bus) (joined_by_dots h.port h.ports) (digits_decimal (numerals_by_value _ tells_digits) h.bus (omega (arith, h.is_bus.1)))

-- a byte of a name is neither a space nor a colon
name_byte : (b : ℕ) → is_name_byte b ≡ true → (nat_lt 32 b ≡ true) × (nat_eq b 58 ≡ false)
name_byte b h = (grind (arith, nat_tests), grind (arith, nat_tests))

name_graphic : (name : List ℕ) → list_all is_name_byte name ≡ true → is_graphic name ≡ true
name_graphic [] h = refl
name_graphic (b ∷ name) h =
    let s = and_parts (is_name_byte b) (list_all is_name_byte name) h in
    rw (name_byte b s.0).0 (name_graphic name s.1)

name_bytes : (name : List ℕ) → is_name name ≡ true → list_all is_name_byte name ≡ true
name_bytes name h = (and_parts (nat_le 1 (length name) && nat_le (length name) 32) (list_all is_name_byte name) h).1

pub principal_graphic : (p : Named) → is_name p.name ≡ true → is_graphic (principal_text p) ≡ true
principal_graphic p h = by p.group (name_graphic p.name (name_bytes p.name h))
  where
    by : (group : Bool) → is_graphic p.name ≡ true → is_graphic (if group then 58 ∷ p.name else p.name) ≡ true
    by true k = k
    by false k = k

abbrev pub principal_read : List ℕ → Named
principal_read [] = record { group = false; name = [] }
principal_read (b ∷ text) = if nat_eq b 58 then record { group = true; name = text } else record { group = false; name = b ∷ text }

pub principal_back : (p : Named) → is_name p.name ≡ true → principal_read (principal_text p) ≡ p
principal_back p h = by p.group p.name h
  where
    by : (group : Bool) (name : List ℕ) → is_name name ≡ true → principal_read (if group then 58 ∷ name else name) ≡ record { group = group; name = name }
    by true name k = refl
    by false [] k = absurd (false≢true k)
    by false (b ∷ name) k = rw (name_byte b (and_parts (is_name_byte b) (list_all is_name_byte name) (name_bytes (b ∷ name) k)).0).1 refl
