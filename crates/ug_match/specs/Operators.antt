-- The operators of a set of values.
use Rattle.std.specs.Prelude.{List, Bool, ◌&&◌, not, nat_eq, length, IsTrue}
use Rattle.std.specs.List.{list_all, list_any, zip}
use Rattle.ug_types.specs.Elements.{Has}
use Rattle.ug_types.specs.declared.rule.Op.{Op}
use Rattle.ug_types.specs.declared.rule.Op.TheVariants.{AllOf, OneOf, NoneOf, Equals, EqualsOrdered}

-- a rule's value matches some value of the device
abbrev pub matches_some : {X Y : Type 0} → (X → Y → Bool) → List Y → X → Bool
matches_some covers device rule = list_any (λ value. covers rule value) device

-- a device's value is matched by some value of the rule
abbrev pub is_matched : {X Y : Type 0} → (X → Y → Bool) → List X → Y → Bool
is_matched covers rules value = list_any (λ rule. covers rule value) rules

-- one length, and each matches the one at its place
abbrev pub in_order : {X Y : Type 0} → (X → Y → Bool) → List X → List Y → Bool
in_order covers rules device =
    nat_eq (length rules) (length device)
    && list_all (λ pair. covers pair.0 pair.1) (zip rules device)

abbrev pub holds : {X Y : Type 0} → (X → Y → Bool) → Op → List X → List Y → Bool
holds covers AllOf rules device = list_all (matches_some covers device) rules
holds covers OneOf rules device = list_any (matches_some covers device) rules
holds covers NoneOf rules device = not (list_any (matches_some covers device) rules)
holds covers Equals rules device =
    list_all (matches_some covers device) rules && list_all (is_matched covers rules) device
holds covers EqualsOrdered rules device = in_order covers rules device

-- the rule's value matches a value of the device
abbrev pub MatchesSome : {X Y : Type 0} → (X → Y → Bool) → List Y → X → Type 0
MatchesSome {X} {Y} covers device rule = (value : Y) × Has device value × IsTrue (covers rule value)

-- the device's value is matched by a value of the rule
abbrev pub IsMatched : {X Y : Type 0} → (X → Y → Bool) → List X → Y → Type 0
IsMatched {X} {Y} covers rules value = (rule : X) × Has rules rule × IsTrue (covers rule value)
