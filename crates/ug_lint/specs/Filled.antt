-- Sets of values that have a value.
use Rattle.std.specs.Prelude.{List, [], ◌∷◌, Option, Some, None}
use Rattle.ug_types.specs.declared.rule.Query.{Query}
use Rattle.ug_types.specs.declared.rule.Values.{Values}

abbrev pub HasItem : {X : Type 0} → List X → Type 0
HasItem [] = ⊥
HasItem (x ∷ xs) = Unit {0}

abbrev pub MayHaveItem : {X : Type 0} → Option (Values X) → Type 0
MayHaveItem None = Unit {0}
MayHaveItem (Some values) = HasItem values.items

-- no set is empty that the query gives of an attribute of which a device has one value
pub record IsFilled (query : Query) : Type 0 where
  pub id : MayHaveItem query.id
  pub serial : MayHaveItem query.serial
  pub name : MayHaveItem query.name
  pub hash : MayHaveItem query.hash
  pub parent_hash : MayHaveItem query.parent_hash
  pub via_port : MayHaveItem query.via_port
  pub connect : MayHaveItem query.connect
