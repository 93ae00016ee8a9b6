-- Which queries are narrow.
use Rattle.std.proofs.Common.{◌≡◌, ℕ, List, [], ◌∷◌, Option, Some, None, refl, sym, ap, ◌∙◌}
use Rattle.ug_types.specs.declared.rule.Id.{Id}
use Rattle.ug_types.specs.declared.rule.Op.{Op}
use Rattle.ug_types.specs.declared.rule.Op.TheVariants.{AllOf, OneOf, NoneOf, Equals, EqualsOrdered}
use Rattle.ug_types.specs.declared.rule.Values.{Values}
use Rattle.ug_types.specs.declared.rule.Query.{Query}
use Rattle.ug_policy.specs.declared.reach.Reach.TheVariants as reach
use Rattle.ug_policy.specs.Reaches.{IsNarrow, reach_of, reach_of_attribute, reach_of_ids, reach_of_numbers, reach_of_values, remainder}

by_op : (op : Op) (ids : List Id) → (op ≡ NoneOf → ⊥) → reach_of_values op ids ≡ reach_of_ids ids
by_op NoneOf ids other = absurd (other refl)
by_op AllOf ids other = refl
by_op OneOf ids other = refl
by_op Equals ids other = refl
by_op EqualsOrdered ids other = refl

pub narrow_there : (query : Query) (vendor product : ℕ) → IsNarrow query vendor product → reach_of query ≡ reach.Narrow (remainder vendor product)
narrow_there query vendor product n =
    ap reach_of_attribute n.given
    ∙ by_op n.values.op n.values.items n.other
    ∙ ap reach_of_ids n.one
    ∙ ap (λ (number : Option ℕ). reach_of_numbers number n.id.product) n.vendor_is
    ∙ ap (λ (number : Option ℕ). reach_of_numbers (Some vendor) number) n.product_is

-- the numbers of a narrow id
abbrev pub AreNumbers : Option ℕ → Option ℕ → ℕ → Type 0
AreNumbers a b r = (vendor : ℕ) × (product : ℕ) × (a ≡ Some vendor) × (b ≡ Some product) × (r ≡ remainder vendor product)

same_narrow : (a b : ℕ) → reach.Narrow a ≡ reach.Narrow b → a ≡ b
same_narrow a b h = cc

by_numbers : (a b : Option ℕ) (r : ℕ) → reach_of_numbers a b ≡ reach.Narrow r → AreNumbers a b r
by_numbers None b r h = let none : ⊥ = cc in absurd none
by_numbers (Some a) None r h = let none : ⊥ = cc in absurd none
by_numbers (Some a) (Some b) r h = (a, b, refl, refl, sym (same_narrow (remainder a b) r h))

abbrev pub IsOne : List Id → ℕ → Type 0
IsOne ids r = (id : Id) × (ids ≡ id ∷ []) × AreNumbers id.vendor id.product r

by_ids : (ids : List Id) (r : ℕ) → reach_of_ids ids ≡ reach.Narrow r → IsOne ids r
by_ids [] r h = let none : ⊥ = cc in absurd none
by_ids (id ∷ []) r h = (id, refl, by_numbers id.vendor id.product r h)
by_ids (id ∷ other ∷ ids) r h = let none : ⊥ = cc in absurd none

by_values : (op : Op) (ids : List Id) (r : ℕ) → reach_of_values op ids ≡ reach.Narrow r → (op ≡ NoneOf → ⊥) × IsOne ids r
by_values NoneOf ids r h = let none : ⊥ = cc in absurd none
by_values AllOf ids r h = (λ e. cc, by_ids ids r h)
by_values OneOf ids r h = (λ e. cc, by_ids ids r h)
by_values Equals ids r h = (λ e. cc, by_ids ids r h)
by_values EqualsOrdered ids r h = (λ e. cc, by_ids ids r h)

pub narrow_only : (query : Query) (r : ℕ) → reach_of query ≡ reach.Narrow r → (vendor : ℕ) × (product : ℕ) × IsNarrow query vendor product × (r ≡ remainder vendor product)
narrow_only query r h = by_attribute query.id refl h where
  by_attribute : (given : Option (Values Id)) → query.id ≡ given → reach_of_attribute given ≡ reach.Narrow r → (vendor : ℕ) × (product : ℕ) × IsNarrow query vendor product × (r ≡ remainder vendor product)
  by_attribute None is h = let none : ⊥ = cc in absurd none
  by_attribute (Some values) is h =
      let k = by_values values.op values.items r h in
      let narrow : IsNarrow query k.1.2.0 k.1.2.1 = record {
        values = values;
        id = k.1.0;
        given = is;
        one = k.1.1;
        other = k.0;
        vendor_is = k.1.2.2;
        product_is = k.1.2.3;
      } in
      (k.1.2.0, k.1.2.1, narrow, k.1.2.4)
