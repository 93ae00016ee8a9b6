-- Which ids a rule can match.
use Rattle.std.specs.Prelude.{◌≡◌, ◌≢◌, ℕ, ◌+◌, ◌%◌, List, [], ◌∷◌, Bool, Option, Some, None}
use Rattle.ug_types.specs.declared.rule.Id.{Id}
use Rattle.ug_types.specs.declared.rule.Op.{Op}
use Rattle.ug_types.specs.declared.rule.Op.TheVariants.{AllOf, OneOf, NoneOf, Equals, EqualsOrdered}
use Rattle.ug_types.specs.declared.rule.Values.{Values}
use Rattle.ug_types.specs.declared.rule.Query.{Query}
use Rattle.ug_match.specs.Covers.{covers_id}
use Rattle.ug_match.specs.Queries.{attribute}
use Rattle.ug_policy.specs.declared.reach.Reach.{Reach}
use Rattle.ug_policy.specs.declared.reach.Reach.TheVariants as reach

-- a rule can match an id where it has no `id` attribute, or where its values hold of that one
abbrev pub can_match : Query → ℕ → ℕ → Bool
can_match query vendor product =
    attribute covers_id query.id (record { vendor = vendor; product = product } ∷ [])

abbrev pub remainder : ℕ → ℕ → ℕ
remainder vendor product = (vendor + product) % 64

-- an id with both numbers is one id alone
abbrev pub reach_of_numbers : Option ℕ → Option ℕ → Reach
reach_of_numbers None product = reach.Wide
reach_of_numbers (Some vendor) None = reach.Wide
reach_of_numbers (Some vendor) (Some product) = reach.Narrow (remainder vendor product)

abbrev pub reach_of_ids : List Id → Reach
reach_of_ids [] = reach.Wide
reach_of_ids (id ∷ []) = reach_of_numbers id.vendor id.product
reach_of_ids (id ∷ other ∷ ids) = reach.Wide

abbrev pub reach_of_values : Op → List Id → Reach
reach_of_values AllOf ids = reach_of_ids ids
reach_of_values OneOf ids = reach_of_ids ids
reach_of_values NoneOf ids = reach.Wide
reach_of_values Equals ids = reach_of_ids ids
reach_of_values EqualsOrdered ids = reach_of_ids ids

abbrev pub reach_of_attribute : Option (Values Id) → Reach
reach_of_attribute None = reach.Wide
reach_of_attribute (Some values) = reach_of_values values.op values.items

-- what the index knows of a query
abbrev pub reach_of : Query → Reach
reach_of query = reach_of_attribute query.id

-- a query is narrow where its `id` is one item with both numbers, under
-- another operator than `none-of`
pub record IsNarrow (query : Query) (vendor product : ℕ) : Type 0 where
  pub values : Values Id
  pub id : Id
  pub given : query.id ≡ Some values
  pub one : values.items ≡ id ∷ []
  pub other : values.op ≢ NoneOf
  pub vendor_is : id.vendor ≡ Some vendor
  pub product_is : id.product ≡ Some product
