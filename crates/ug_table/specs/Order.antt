-- How standings are kept: in sweep order of their names, under numbers of their own.
use Rattle.std.specs.Prelude.{ℕ, ◌<◌, ◌≤◌, nat_lt, Bool, ◌&&◌, List, Option, Some, None}
use Rattle.ug_types.specs.Elements.{Has, AllDistinct}
use Rattle.ug_table.specs.Laws.{AreInOrder, numbers_of}
use Rattle.ug_table.specs.Sweep.{names_of}
use Rattle.ug_table.specs.declared.standing.Standing.{Standing}

-- the standings are in sweep order of their names, and so no name has two; no number has two, and
-- each is below the next
pub record StandInOrder (next : ℕ) (ss : List Standing) : Type 0 where
  pub order : AreInOrder (names_of ss)
  pub distinct : AllDistinct (numbers_of ss)
  pub numbers : (s : Standing) → Has ss s → s.number < next

-- where the standings before were kept so, those after are
abbrev pub KeepsOrder : List Standing → List Standing → Type 0
KeepsOrder before after = (next : ℕ) → StandInOrder next before → StandInOrder next after

-- the standing with the least number above this one; none exactly where no number is above it
abbrev pub IsNextNumbered : List Standing → ℕ → Option Standing → Type 0
IsNextNumbered ss number None = (s : Standing) → Has ss s → s.number ≤ number
IsNextNumbered ss number (Some next) =
    Has ss next × (number < next.number)
    × ((s : Standing) → Has ss s → number < s.number → next.number ≤ s.number)

-- whether the number of a standing is above that one, and below that of the standing that was found
-- so far
abbrev pub is_nearer : ℕ → Option Standing → Standing → Bool
is_nearer number None s = nat_lt number s.number
is_nearer number (Some found) s = nat_lt number s.number && nat_lt s.number found.number
