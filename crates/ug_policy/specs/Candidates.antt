-- What an index stands for.
use Rattle.std.specs.Prelude.{◌≡◌, ◌≢◌, ℕ, ◌<◌, List, IsTrue, Some, map, length, slice_get}
use Rattle.std.specs.List.Sorted.{IsStrictlyIncreasing}
use Rattle.ug_types.specs.Elements.{Has}
use Rattle.ug_types.specs.declared.rule.Query.{Query}
use Rattle.ug_policy.specs.declared.reach.Reach.{Reach}
use Rattle.ug_policy.specs.Reaches.{IsNarrow, can_match, reach_of, remainder}

-- the reach of each rule in order, and the number of those for which there is room
pub record Indexed : Type 0 where
  pub reaches : List Reach
  pub spare : ℕ

-- an index stands for a list of queries
abbrev pub StandsForQueries : Indexed → List Query → Type 0
StandsForQueries index queries = index.reaches ≡ map reach_of queries

-- the places of the queries that can match an id, and perhaps of others, but of no
-- narrow query of another remainder
pub record AreCandidates (queries : List Query) (vendor product : ℕ)
    (places : List ℕ) : Type 0 where
  pub rise : IsStrictlyIncreasing places
  pub below : (k : ℕ) → Has places k → k < length queries
  pub complete : (k : ℕ) (query : Query) → slice_get queries k ≡ Some query
      → IsTrue (can_match query vendor product) → Has places k
  pub apart : (k own_vendor own_product : ℕ) (query : Query) → slice_get queries k ≡ Some query
      → IsNarrow query own_vendor own_product
      → remainder own_vendor own_product ≢ remainder vendor product → ¬ Has places k
