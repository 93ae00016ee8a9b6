-- What a machine writes for the lines that it takes.
use Rattle.std.specs.Prelude.{ℕ, ◌+◌, List, [], ◌∷◌, ◌++◌, Option, Some, None, Bool, ◌&&◌, nat_lt, nat_le, if◌then◌else◌, length, codes, decimal}
use Rattle.std.specs.List.{fold}

-- why a line is refused
pub data LineRefusal : Type 0 where
  BadLine : LineRefusal
  InputTooLong : LineRefusal

-- a line writes a text, or it is refused; either leaves a machine
pub data LineOutcome (M : Type 0) : Type 0 where
  Writes : List ℕ → M → LineOutcome M
  Refused : LineRefusal → M → LineOutcome M

-- how it stands after some lines: how many were taken, what they wrote, and the machine
pub data Stage (M : Type 0) : Type 0 where
  Going : ℕ → List ℕ → M → Stage M
  Halted : LineRefusal → ℕ → List ℕ → M → Stage M

-- behind n lines there may be one more, and the line isn't too long
abbrev pub is_within : ℕ → List ℕ → Bool
is_within n line = nat_lt n 1048576 && nat_le (length line) 1048576

abbrev pub stage_after : {M : Type 0} → ℕ → List ℕ → LineOutcome M → Stage M
stage_after n text (Writes more next) = Going (n + 1) (text ++ more) next
stage_after n text (Refused fault next) = Halted fault n text next

-- one more line; behind a refused line nothing is taken
abbrev pub advance : {M : Type 0} → (M → List ℕ → LineOutcome M) → Stage M → List ℕ → Stage M
advance step (Going n text m) line =
    if is_within n line then stage_after n text (step m line) else Halted BadLine n text m
advance step (Halted fault n text m) line = Halted fault n text m

-- the lines one after another
abbrev pub plays : {M : Type 0} → (M → List ℕ → LineOutcome M) → Stage M → List (List ℕ) → Stage M
plays step stage lines = fold (advance step) stage lines

-- the fault line of line n
unfoldable pub bad_line : ℕ → List ℕ
bad_line n = codes "bad script line " ++ decimal n ++ 10 ∷ []

unfoldable pub input_too_long : List ℕ
input_too_long = codes "input too long\n"

unfoldable pub read_fault : List ℕ
read_fault = codes "read fault\n"

unfoldable pub no_memory : List ℕ
no_memory = codes "no memory\n"

-- the fault line of the line behind n lines
abbrev pub fault_line : LineRefusal → ℕ → List ℕ
fault_line BadLine n = bad_line (n + 1)
fault_line InputTooLong n = input_too_long

abbrev pub machine_of : {M : Type 0} → Stage M → M
machine_of (Going n text m) = m
machine_of (Halted fault n text m) = m

-- what a function says of the machine, where the machine has a world
abbrev pub of_first : {A W B : Type 0} → (A → B) → A × W → B
of_first f p = f p.0

-- behind n lines comes the last text, or, where more lines are wanted, the fault line of the next
abbrev pub closed_text : ℕ → Option (List ℕ) → List ℕ
closed_text n (Some last) = last
closed_text n None = bad_line (n + 1)

abbrev pub closed_fault : Option (List ℕ) → Option LineRefusal
closed_fault (Some last) = None
closed_fault None = Some BadLine

-- all that is written for lines that were played to their end
abbrev pub whole_text : {M : Type 0} → (M → Option (List ℕ)) → Stage M → List ℕ
whole_text closing (Going n text m) = text ++ closed_text n (closing m)
whole_text closing (Halted fault n text m) = text ++ fault_line fault n

-- why they were refused, unless each line was good and so is the end
abbrev pub fault_of : {M : Type 0} → (M → Option (List ℕ)) → Stage M → Option LineRefusal
fault_of closing (Going n text m) = closed_fault (closing m)
fault_of closing (Halted fault n text m) = Some fault
