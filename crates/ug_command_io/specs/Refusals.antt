-- Why a line isn't taken, and what is so of each line that is, in the words of the machine.
use Rattle.std.specs.Prelude.{ℕ, ◌≡◌, true, List, [], ◌∷◌, ◌++◌, Option, Some, None}
use Rattle.ug_command_io.specs.Fold.{LineRefusal, BadLine, InputTooLong, LineOutcome, Stage, Going, Halted, advance, is_within, plays}
use Rattle.ug_command_io.specs.declared.machine.Ran.{Ran}
use Rattle.ug_command_io.specs.declared.machine.Ran.TheVariants as ran
use Rattle.ug_command_io.specs.declared.results.Ended.{Ended}
use Rattle.ug_command_io.specs.declared.results.Ended.TheVariants as ended

-- the fault for which a step refused its line, and that of a whole call
abbrev pub fault_in : Ran → Option LineRefusal
fault_in ran.Done = None
fault_in ran.Bad = Some BadLine
fault_in ran.TooLong = Some InputTooLong
fault_in ran.SinkFailed = None
fault_in ran.Memory = None

abbrev pub fault_told : Ended → Option LineRefusal
fault_told ended.Done = None
fault_told ended.Bad = Some BadLine
fault_told ended.TooLong = Some InputTooLong
fault_told ended.ReadFault = None
fault_told ended.WriteFault = None
fault_told ended.Memory = None

-- Of these lines the first that isn't taken is past a limit, or this speaks against it. Those
-- before it are taken, one after another, and lead to the machine that refuses it.
pub record RefusesLine {M : Type 0} (step : M → List ℕ → LineOutcome M)
    (because : M → List ℕ → LineRefusal → Type 0) (start : Stage M) (lines : List (List ℕ))
    (fault : LineRefusal) : Type 0 where
  pub earlier : List (List ℕ)
  pub line : List ℕ
  pub later : List (List ℕ)
  pub among : lines ≡ earlier ++ line ∷ later
  pub count : ℕ
  pub text : List ℕ
  pub machine : M
  pub played : plays step start earlier ≡ Going count text machine
  pub why : is_within count line ≡ true → because machine line fault

-- so it is, or each line is taken, and more are wanted
pub data RefusesLines {M : Type 0} (step : M → List ℕ → LineOutcome M)
    (closing : M → Option (List ℕ)) (because : M → List ℕ → LineRefusal → Type 0) (start : Stage M)
    (lines : List (List ℕ)) (fault : LineRefusal) : Type 0 where
  AtLine : RefusesLine step because start lines fault
      → RefusesLines step closing because start lines fault
  AtEnd : (count : ℕ) (text : List ℕ) (machine : M)
      → plays step start lines ≡ Going count text machine → closing machine ≡ None
      → RefusesLines step closing because start lines fault

-- so it is of the line, if lines are still taken
abbrev pub HoldsAt : {M : Type 0} → (M → List ℕ → Type 0) → Stage M → List ℕ → Type 0
HoldsAt holds (Going count text machine) line = holds machine line
HoldsAt holds (Halted fault count text machine) line = Unit {0}

-- and of each of these lines, one after another
abbrev pub HoldsOfEach : {M : Type 0} → (M → List ℕ → LineOutcome M) → (M → List ℕ → Type 0)
    → Stage M
    → List (List ℕ) → Type 0
HoldsOfEach step holds stage [] = Unit {0}
HoldsOfEach step holds stage (line ∷ lines) =
    HoldsAt holds stage line × HoldsOfEach step holds (advance step stage line) lines
