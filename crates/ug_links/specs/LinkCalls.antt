-- What is told of the calls of a client's connection.
use Rattle.std.specs.Prelude.{ℕ, List, [], ◌∷◌, take, Bool, cond, Option, Some, None}
use Rattle.ug_types.specs.Told.{GrowsBy}
use Rattle.ug_types.specs.declared.source.Taken.{Taken}
use Rattle.ug_types.specs.declared.source.Taken.TheVariants as taken
use Rattle.ug_links.specs.declared.link_call.Receipt.{Receipt}
use Rattle.ug_links.specs.declared.link_call.Receipt.TheVariants as receipt
use Rattle.ug_links.specs.declared.link_call.LinkCall.{LinkCall}

-- what a receive gave, by its answer and the places that were lent
abbrev pub receipt_of : Taken → List ℕ → Receipt
receipt_of (taken.Bytes n) buffer = receipt.Bytes (take n buffer)
receipt_of taken.End buffer = receipt.End
receipt_of taken.Failed buffer = receipt.Failed

-- where calls are told after a call, they were told before it, and this one stands behind them
abbrev pub TellsCall : Option (List LinkCall) → LinkCall → Option (List LinkCall) → Type 0
TellsCall before call None = Unit {0}
TellsCall before call (Some after) = GrowsBy before (call ∷ []) after

-- calls are told until memory is short for one
abbrev pub calls_unless : Bool → List LinkCall → Option (List LinkCall)
calls_unless short calls = cond short None (Some calls)
