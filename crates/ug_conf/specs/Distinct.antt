-- That elements are distinct is one fact.
use Rattle.std.specs.Prelude.{List, [], ◌∷◌}
use mathlib.Core.HLevel.{→_prop, ×_prop, ⊥_prop, Unit-prop}
use Rattle.ug_types.specs.Elements.{AllDistinct}

pub distinct_prop : {X : Type 0} (xs : List X) → IsProp (AllDistinct xs)
distinct_prop [] = Unit-prop
distinct_prop (x ∷ xs) = ×_prop (→_prop ⊥_prop) (distinct_prop xs)
