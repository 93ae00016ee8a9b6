-- What is written for an input that is read whole, where `good` and `bad` say which text belongs to
-- which bytes.
use Rattle.std.specs.Prelude.{ℕ, ◌≡◌, ◌<◌, ◌≤◌, List, ◌++◌, length, Option, Some}
use Rattle.std.specs.Io.KnownBytes.{Appends, Consumes, IsAtEnd}
use Rattle.ug_command_io.specs.Fold.{input_too_long, read_fault, no_memory}
use Rattle.ug_command_io.specs.declared.results.Ended.{Ended}
use Rattle.ug_command_io.specs.declared.results.Ended.TheVariants.{Done, Bad, TooLong, ReadFault, WriteFault, Memory}
use Rattle.ug_command_io.specs.declared.read.InputFault.{InputFault}
use Rattle.ug_command_io.specs.declared.read.InputFault.TheVariants as input

-- the whole output for these bytes, where it ended so and an input may have so many bytes at most
abbrev pub Output : ℕ → (List ℕ → List ℕ → Type 0) → (List ℕ → List ℕ → Type 0) → List ℕ → Ended
    → List ℕ → Type 0
Output most good bad bytes Done text = (length bytes ≤ most) × good bytes text
Output most good bad bytes Bad text = (length bytes ≤ most) × bad bytes text
Output most good bad bytes TooLong text = (most < length bytes) × (text ≡ input_too_long)
Output most good bad bytes ReadFault text = text ≡ read_fault
Output most good bad bytes WriteFault text = ⊥
Output most good bad bytes Memory text = text ≡ no_memory

-- good or bad, the input was read to its end
abbrev pub IsWhole : Ended → Option (List ℕ) → Type 0
IsWhole Done left = IsAtEnd left
IsWhole Bad left = IsAtEnd left
IsWhole TooLong left = Unit {0}
IsWhole ReadFault left = Unit {0}
IsWhole WriteFault left = Unit {0}
IsWhole Memory left = Unit {0}

abbrev pub Written : ℕ → (List ℕ → List ℕ → Type 0) → (List ℕ → List ℕ → Type 0) → List ℕ
    → Option (List ℕ) → Ended → List ℕ → Type 0
Written most good bad bytes left ended text =
    IsWhole ended left × Output most good bad bytes ended text

-- what was written: an output, or a front of one where the sink failed
abbrev pub WroteWhole : ℕ → (List ℕ → List ℕ → Type 0) → (List ℕ → List ℕ → Type 0) → List ℕ
    → Option (List ℕ) → Ended → List ℕ → Type 0
WroteWhole most good bad bytes left Done text = Written most good bad bytes left Done text
WroteWhole most good bad bytes left Bad text = Written most good bad bytes left Bad text
WroteWhole most good bad bytes left TooLong text = Written most good bad bytes left TooLong text
WroteWhole most good bad bytes left ReadFault text = Written most good bad bytes left ReadFault text
WroteWhole most good bad bytes left WriteFault text =
    (ended : Ended) × (rest : List ℕ) × Written most good bad bytes left ended (text ++ rest)
WroteWhole most good bad bytes left Memory text = Written most good bad bytes left Memory text

-- the same, with what the sink holds
pub record TellsWhole (most : ℕ) (good bad : List ℕ → List ℕ → Type 0) (bytes : List ℕ)
    (left held0 held : Option (List ℕ)) (result : Ended) : Type 0 where
  pub text : List ℕ
  pub sink : Appends held0 held text
  pub told : WroteWhole most good bad bytes left result text

-- the whole call
pub record CompletesWhole (most : ℕ) (good bad : List ℕ → List ℕ → Type 0)
    (left0 left held0 held : Option (List ℕ)) (result : Ended) : Type 0 where
  pub taken : List ℕ
  pub source : Consumes left0 left taken
  pub tells : TellsWhole most good bad taken left held0 held result

-- what a status says: all are the bytes of the source and base those of the sink before the call
pub record AnswersWhole (status_of : Ended → ℕ) (most : ℕ) (good bad : List ℕ → List ℕ → Type 0)
    (all base : List ℕ) (left held : Option (List ℕ)) (status : ℕ) : Type 0 where
  pub ended : Ended
  pub is : status ≡ status_of ended
  -- some first bytes were taken
  pub taken : List ℕ
  pub more : List ℕ
  pub split : all ≡ taken ++ more
  pub source : left ≡ Some more
  -- and this was written
  pub text : List ℕ
  pub sink : held ≡ Some (base ++ text)
  pub told : WroteWhole most good bad all left ended text

-- the fault line of an input that wasn't read whole, and how the call ends then
abbrev pub input_fault_line : InputFault → List ℕ
input_fault_line input.TooLong = input_too_long
input_fault_line input.Failed = read_fault
input_fault_line input.Memory = no_memory

abbrev pub fault_end : InputFault → Ended
fault_end input.TooLong = TooLong
fault_end input.Failed = ReadFault
fault_end input.Memory = Memory
