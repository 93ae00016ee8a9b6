-- What listeners and sessions in memory go by, as it stands.
use Rattle.std.specs.Prelude.{ℕ, List, []}
use Rattle.ug_links.specs.declared.peer.Peer.{Peer}
use Rattle.ug_links.specs.declared.scripts.Arrival.{Arrival}
use Rattle.ug_links.specs.declared.scripts.ListenItem.{ListenItem}

-- a script for listening, one for each listener, the other end of each session,
-- and how many listeners there are
pub record Planned : Type 0 where
  pub listens : List ListenItem
  pub arrivals : List (List Arrival)
  pub peers : List Peer
  pub listening : ℕ

-- before the first call
abbrev pub unopened : List ListenItem → List (List Arrival) → Planned
unopened listens arrivals =
    record { listens = listens; arrivals = arrivals; peers = []; listening = 0 }
