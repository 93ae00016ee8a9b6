-- What was taken from an input that is to be read whole.
use Rattle.std.specs.Prelude.{ℕ, ◌≡◌, ◌<◌, ◌≤◌, List, length, Option, Result, Ok, Err}
use Rattle.std.specs.Io.KnownBytes.{Consumes, IsAtEnd}
use Rattle.ug_command_io.specs.declared.read.InputFault.{InputFault}
use Rattle.ug_command_io.specs.declared.read.InputFault.TheVariants.{TooLong, Failed, Memory}

-- these bytes were taken
abbrev pub Took : ℕ → Option (List ℕ) → List ℕ → Result (List ℕ) InputFault → Type 0
-- they are all, and no more than the limit
Took most left taken (Ok bytes) = (bytes ≡ taken) × IsAtEnd left × (length taken ≤ most)
-- they are more than the limit
Took most left taken (Err TooLong) = most < length taken
Took most left taken (Err Failed) = length taken ≤ most
Took most left taken (Err Memory) = Unit {0}

pub record ReadsWhole (most : ℕ) (before after : Option (List ℕ))
    (result : Result (List ℕ) InputFault) : Type 0 where
  pub taken : List ℕ
  pub source : Consumes before after taken
  pub told : Took most after taken result
