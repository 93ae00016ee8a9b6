-- What the status of a call says, where its source tells its bytes and its sink what it holds.
use Rattle.std.specs.Prelude.{ℕ, ◌≡◌, List, [], ◌++◌, Option, Some, None}
use Rattle.ug_lines.specs.Lines.{whole_lines, lines_of}
use Rattle.ug_command_io.specs.Fold.{LineRefusal, LineOutcome, Going, plays, machine_of, whole_text, fault_of, read_fault, no_memory}
use Rattle.ug_command_io.specs.declared.results.Ended.{Ended}
use Rattle.ug_command_io.specs.declared.results.Ended.TheVariants.{Done, Bad, TooLong, ReadFault, WriteFault, Memory}

abbrev pub status_of : Ended → ℕ
status_of Done = 0
status_of Bad = 2
status_of TooLong = 2
status_of ReadFault = 4
status_of WriteFault = 5
status_of Memory = 6

-- some first lines of a text are good, write this and lead to this machine
pub record FirstLines {M : Type 0} (step : M → List ℕ → LineOutcome M) (m0 : M) (all out : List ℕ)
    (m : M) : Type 0 where
  pub lines : List (List ℕ)
  pub others : List (List ℕ)
  pub count : ℕ
  pub front : lines_of all ≡ lines ++ others
  pub played : plays step (Going 0 [] m0) lines ≡ Going count out m

-- what was written is a front of an output, of which the rest was not written; and the machine that
-- stands then
pub data IsCut {M : Type 0} (step : M → List ℕ → LineOutcome M) (closing : M → Option (List ℕ))
    (m0 : M)
    (all taken text rest : List ℕ) (m : M) : Type 0 where
  -- of all that belongs to the text, be it good or not
  OfWhole : whole_text closing (plays step (Going 0 [] m0) (lines_of all)) ≡ text ++ rest
      → machine_of (plays step (Going 0 [] m0) (lines_of all)) ≡ m
      → IsCut step closing m0 all taken text rest m
  -- of the output of the lines that were ended among the bytes taken, and the fault line
  OfReadFault : (n : ℕ) (out : List ℕ)
      → plays step (Going 0 [] m0) (whole_lines taken) ≡ Going n out m
      → text ++ rest ≡ out ++ read_fault → IsCut step closing m0 all taken text rest m
  -- of the output of some first lines
  OfLines : FirstLines step m0 all (text ++ rest) m → IsCut step closing m0 all taken text rest m
  -- of the fault line for want of memory, behind all of the output of some first lines; nothing is
  -- said of the machine
  OfNoMemory : (out front : List ℕ) (next : M) → FirstLines step m0 all out next
      → text ≡ out ++ front → no_memory ≡ front ++ rest
      → IsCut step closing m0 all taken text rest m

-- all are the bytes of the source and base those of the sink before the call
pub record AnswersLines {M : Type 0} (step : M → List ℕ → LineOutcome M)
    (closing : M → Option (List ℕ))
    (m0 : M) (all base : List ℕ) (left held : Option (List ℕ)) (m : M) (status : ℕ) : Type 0 where
  -- the source is at its end, each line was good, and all was written
  pub done : status ≡ 0 → (left ≡ Some [])
      × (fault_of closing (plays step (Going 0 [] m0) (lines_of all)) ≡ None)
      × (held ≡ Some (base ++ whole_text closing (plays step (Going 0 [] m0) (lines_of all))))
      × (machine_of (plays step (Going 0 [] m0) (lines_of all)) ≡ m)
  -- a line is refused, or more lines are wanted; the output of the lines before and the fault line
  -- were written
  pub bad : status ≡ 2 → (fault : LineRefusal)
      × (fault_of closing (plays step (Going 0 [] m0) (lines_of all)) ≡ Some fault)
      × (held ≡ Some (base ++ whole_text closing (plays step (Going 0 [] m0) (lines_of all))))
      × (machine_of (plays step (Going 0 [] m0) (lines_of all)) ≡ m)
  -- the output of the lines that were ended among the bytes taken, each of them good, and the fault
  -- line
  pub read : status ≡ 4
      → (taken : List ℕ) × (more : List ℕ) × (n : ℕ) × (text : List ℕ) × (all ≡ taken ++ more)
      × (left ≡ Some more)
      × (plays step (Going 0 [] m0) (whole_lines taken) ≡ Going n text m)
      × (held ≡ Some (base ++ (text ++ read_fault)))
  -- a front of an output, with the machine that stands at the output's end
  pub written : status ≡ 5
      → (taken : List ℕ) × (more : List ℕ) × (text : List ℕ) × (rest : List ℕ)
      × (all ≡ taken ++ more) × (left ≡ Some more)
      × (held ≡ Some (base ++ text)) × IsCut step closing m0 all taken text rest m
  -- the output of some first lines, each of them good, and the fault line
  pub memory : status ≡ 6
      → (text : List ℕ) × (next : M) × FirstLines step m0 all text next
      × (held ≡ Some (base ++ (text ++ no_memory)))
