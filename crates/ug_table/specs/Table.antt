-- What a table is seen as.
use Rattle.std.specs.Prelude.{ℕ, Bool, List}
use Rattle.ug_table.specs.declared.standing.Standing.{Standing}

-- the standings, the number of the next, and whether a listing has succeeded
pub record TableState : Type 0 where
  pub standings : List Standing
  pub next : ℕ
  pub listed : Bool
