-- When whatever one query matches, another matches too, as far as their values tell.
use Rattle.std.specs.Prelude.{List, [], ◌∷◌, Bool, true, false, ◌&&◌, Option, Some, None}
use Rattle.std.specs.List.{list_all, list_any}
use Rattle.ug_types.specs.declared.rule.Op.{Op}
use Rattle.ug_types.specs.declared.rule.Op.TheVariants.{AllOf, OneOf, NoneOf, Equals, EqualsOrdered}
use Rattle.ug_types.specs.declared.rule.Query.{Query}
use Rattle.ug_types.specs.declared.rule.Values.{Values}
use Rattle.ug_match.specs.Covers.{covers_text}
use Rattle.ug_match.specs.Operators.{in_order, is_matched, matches_some}
use Rattle.ug_lint.specs.Covers.{id_covers, interface_covers}

-- ---- sets of values; those of the implied set are first, and `covers` is between one of them and
-- one of the other set

-- some value covers one of the others
abbrev pub some_covers : {X : Type 0} → (X → X → Bool) → List X → List X → Bool
some_covers covers values others = list_any (matches_some covers others) values

-- each value covers one of the others
abbrev pub each_covers : {X : Type 0} → (X → X → Bool) → List X → List X → Bool
each_covers covers values others = list_all (matches_some covers others) values

-- each of the others is covered by a value
abbrev pub each_covered : {X : Type 0} → (X → X → Bool) → List X → List X → Bool
each_covered covers values others = list_all (is_matched covers values) others

-- each value covers each of the others
abbrev pub covers_all : {X : Type 0} → (X → X → Bool) → List X → X → Bool
covers_all covers others value = list_all (λ other. covers value other) others

abbrev pub each_covers_all : {X : Type 0} → (X → X → Bool) → List X → List X → Bool
each_covers_all covers values others = list_all (covers_all covers others) values

abbrev pub one_of_implied : {X : Type 0} → (X → X → Bool) → List X → Op → List X → Bool
one_of_implied covers values AllOf others = some_covers covers values others
one_of_implied covers values OneOf others = each_covered covers values others
one_of_implied covers values NoneOf others = false
one_of_implied covers values Equals others = some_covers covers values others
one_of_implied covers values EqualsOrdered others = some_covers covers values others

abbrev pub all_of_implied : {X : Type 0} → (X → X → Bool) → List X → Op → List X → Bool
all_of_implied covers values AllOf others = each_covers covers values others
all_of_implied covers values OneOf others = each_covers_all covers values others
all_of_implied covers values NoneOf others = false
all_of_implied covers values Equals others = each_covers covers values others
all_of_implied covers values EqualsOrdered others = each_covers covers values others

-- each value is covered by one of the others
abbrev pub none_of_implied : {X : Type 0} → (X → X → Bool) → List X → Op → List X → Bool
none_of_implied covers values AllOf others = false
none_of_implied covers values OneOf others = false
none_of_implied covers values NoneOf others = each_covered covers others values
none_of_implied covers values Equals others = false
none_of_implied covers values EqualsOrdered others = false

abbrev pub equals_implied : {X : Type 0} → (X → X → Bool) → List X → Op → List X → Bool
equals_implied covers values AllOf others = false
equals_implied covers values OneOf others = false
equals_implied covers values NoneOf others = false
equals_implied covers values Equals others =
    each_covers covers values others && each_covered covers values others
equals_implied covers values EqualsOrdered others =
    each_covers covers values others && each_covered covers values others

abbrev pub ordered_implied : {X : Type 0} → (X → X → Bool) → List X → Op → List X → Bool
ordered_implied covers values AllOf others = false
ordered_implied covers values OneOf others = false
ordered_implied covers values NoneOf others = false
ordered_implied covers values Equals others = false
ordered_implied covers values EqualsOrdered others = in_order covers values others

-- by the operator of the implied set, and that of the other
abbrev pub set_implied : {X : Type 0} → (X → X → Bool) → Op → List X → Op → List X → Bool
set_implied covers AllOf values op others = all_of_implied covers values op others
set_implied covers OneOf values op others = one_of_implied covers values op others
set_implied covers NoneOf values op others = none_of_implied covers values op others
set_implied covers Equals values op others = equals_implied covers values op others
set_implied covers EqualsOrdered values op others = ordered_implied covers values op others

-- ---- attributes

-- values of an attribute of which a device can have many
abbrev pub many_implied : {X : Type 0} → (X → X → Bool) → Values X → Values X → Bool
many_implied covers values others = set_implied covers values.op values.items others.op others.items

-- an order of one item says what all-of says
abbrev pub ordered_of_one : {X : Type 0} → List X → Op
ordered_of_one [] = EqualsOrdered
ordered_of_one (item ∷ []) = AllOf
ordered_of_one (item ∷ other ∷ items) = EqualsOrdered

-- the operator, where a device has one value: equals then says what all-of says
abbrev pub op_of_one : {X : Type 0} → Op → List X → Op
op_of_one AllOf items = AllOf
op_of_one OneOf items = OneOf
op_of_one NoneOf items = NoneOf
op_of_one Equals items = AllOf
op_of_one EqualsOrdered items = ordered_of_one items

-- values of an attribute of which a device has one
abbrev pub one_implied : {X : Type 0} → (X → X → Bool) → Values X → Values X → Bool
one_implied covers values others =
    set_implied covers (op_of_one values.op values.items) values.items
    (op_of_one others.op others.items) others.items

-- an attribute that the implied query gives is given by the other, and is implied
abbrev pub given_implied : {X : Type 0} → (Values X → Values X → Bool) → Option (Values X)
    → Option (Values X) → Bool
given_implied implied None others = true
given_implied implied (Some values) None = false
given_implied implied (Some values) (Some others) = implied values others

-- ---- queries

-- each attribute but the label; the implied query is first
unfoldable pub query_implied : Query → Query → Bool
query_implied query other =
    given_implied (one_implied id_covers) query.id other.id
    && given_implied (one_implied covers_text) query.serial other.serial
    && given_implied (one_implied covers_text) query.name other.name
    && given_implied (one_implied covers_text) query.hash other.hash
    && given_implied (one_implied covers_text) query.parent_hash other.parent_hash
    && given_implied (one_implied covers_text) query.via_port other.via_port
    && given_implied (many_implied interface_covers) query.interface other.interface
    && given_implied (one_implied covers_text) query.connect other.connect
