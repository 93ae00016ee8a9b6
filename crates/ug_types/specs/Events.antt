-- What a daemon is asked to do.
use Rattle.std.specs.Prelude.{ℕ, ◌≤◌, length}
use Rattle.ug_types.specs.declared.event.Event.{Event}
use Rattle.ug_types.specs.declared.event.Event.TheVariants.{Sweep, Order, Hint}

-- a piece has at most so many bytes
abbrev pub longest_piece : ℕ
longest_piece = 1048576

abbrev pub FitsEvent : Event → Type 0
FitsEvent (Sweep moment) = Unit {0}
FitsEvent (Order moment who line) = Unit {0}
FitsEvent (Hint moment piece) = length piece ≤ longest_piece
