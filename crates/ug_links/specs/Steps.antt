-- What a call of the daemon's sockets may answer.
use Rattle.std.specs.Prelude.{◌≡◌, ℕ, max, ◌+◌, ◌<◌, ◌≤◌, List, [], ◌∷◌, ◌++◌, Option, Some, length, take}
use Rattle.ug_links.specs.declared.links.Listening.TheVariants as listening
use Rattle.ug_links.specs.declared.links.Accepted.TheVariants as accepted
use Rattle.ug_links.specs.declared.links.LinkRead.{LinkRead}
use Rattle.ug_links.specs.declared.links.LinkRead.TheVariants as read
use Rattle.ug_links.specs.declared.links.LinkWrote.{LinkWrote}
use Rattle.ug_links.specs.declared.links.LinkWrote.TheVariants as wrote
use Rattle.ug_links.specs.declared.step.Reading.{Reading}
use Rattle.ug_links.specs.declared.step.Reading.TheVariants as given
use Rattle.ug_links.specs.declared.step.LinkStep.{LinkStep}
use Rattle.ug_links.specs.declared.step.LinkStep.TheVariants.{Listened, AcceptedAt, ReadFrom, WroteTo}

-- what a read gave, by its answer and the places that were lent
abbrev pub reading_given : LinkRead → List ℕ → Reading
reading_given (read.Took n) buffer = given.Bytes (take n buffer)
reading_given read.NotYet buffer = given.NotYet
reading_given read.End buffer = given.End
reading_given read.Failed buffer = given.Failed

-- at least one byte came, and no more than there was room for
abbrev pub FitsRead : ℕ → LinkRead → Type 0
FitsRead room (read.Took n) = (0 < n) × (n ≤ room)
FitsRead room read.NotYet = Unit {0}
FitsRead room read.End = Unit {0}
FitsRead room read.Failed = Unit {0}

-- at least one byte was sent, and no more than there are
abbrev pub FitsWrite : ℕ → LinkWrote → Type 0
FitsWrite size (wrote.Sent n) = (0 < n) × (n ≤ size)
FitsWrite size wrote.NotYet = Unit {0}
FitsWrite size wrote.Failed = Unit {0}

-- the number behind the id of a session that came by this call
abbrev pub id_end : LinkStep → ℕ
id_end (AcceptedAt listener (accepted.Session id)) = id.0 + 1
id_end step = 0

-- the least number above all ids of sessions that came
abbrev pub ids_end : List LinkStep → ℕ
ids_end [] = 0
ids_end (step ∷ steps) = max (id_end step) (ids_end steps)

-- whether a listener was made
abbrev pub listener_in : LinkStep → ℕ
listener_in (Listened principal (listening.Ready number)) = 1
listener_in step = 0

-- how many were
abbrev pub listeners_in : List LinkStep → ℕ
listeners_in [] = 0
listeners_in (step ∷ steps) = listener_in step + listeners_in steps

-- an answer that the call may have behind these steps
abbrev pub IsStep : List LinkStep → LinkStep → Type 0
IsStep before (Listened principal (listening.Ready number)) = number ≡ listeners_in before
IsStep before (AcceptedAt listener (accepted.Session id)) = ids_end before ≤ id.0
IsStep before (ReadFrom id room (given.Bytes bytes)) = (0 < length bytes) × (length bytes ≤ room)
IsStep before (WroteTo id bytes (wrote.Sent n)) = (0 < n) × (n ≤ length bytes)
IsStep before step = Unit {0}

-- the calls were told before, and this one stands behind them
abbrev pub TellsStep : Option (List LinkStep) → LinkStep → List LinkStep → Type 0
TellsStep told step after =
    (before : List LinkStep) × (told ≡ Some before) × (after ≡ before ++ step ∷ [])
    × IsStep before step
