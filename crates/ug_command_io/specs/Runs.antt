-- What the calls that take lines leave.
use Rattle.std.specs.Prelude.{ℕ, ◌≡◌, ◌<◌, ◌≤◌, ◌+◌, length, List, [], ◌++◌, Option, Some, None, ◌⊎◌}
use Rattle.std.specs.Io.KnownBytes.{Appends, Consumes, Keeps, IsAtEnd}
use Rattle.ug_types.specs.Ends.{Puts}
use Rattle.ug_types.specs.declared.sink.Put.TheVariants.{Failed}
use Rattle.ug_lines.specs.Lines.{whole_from, rest_from, last_line, lines_from, whole_lines, lines_of}
use Rattle.ug_command_io.specs.Fold.{LineRefusal, BadLine, InputTooLong, LineOutcome, Writes, Refused, Going, Halted, plays, machine_of, whole_text, fault_of, bad_line, input_too_long, read_fault, no_memory}
use Rattle.ug_command_io.specs.declared.results.Ended.{Ended}
use Rattle.ug_command_io.specs.declared.results.Ended.TheVariants as ended
use Rattle.ug_command_io.specs.declared.machine.Ran.{Ran}
use Rattle.ug_command_io.specs.declared.machine.Ran.TheVariants.{Done, Bad, TooLong, SinkFailed, Memory}

-- One line's step. All of its text is written, or a front of it where the sink failed, or nothing
-- of it. The machine is the one that the line leaves, but for want of memory.
abbrev pub Steps : {M : Type 0} → LineOutcome M → M → Option (List ℕ) → Option (List ℕ) → Ran
    → Type 0
Steps (Writes text next) new before after Done = (new ≡ next) × Appends before after text
Steps (Writes text next) new before after Bad = ⊥
Steps (Writes text next) new before after TooLong = ⊥
Steps (Writes text next) new before after SinkFailed = (new ≡ next) × Puts before after text Failed
Steps (Writes text next) new before after Memory = Keeps before after
Steps (Refused fault next) new before after Done = ⊥
Steps (Refused fault next) new before after Bad =
    (fault ≡ BadLine) × (new ≡ next) × Keeps before after
Steps (Refused fault next) new before after TooLong =
    (fault ≡ InputTooLong) × (new ≡ next) × Keeps before after
Steps (Refused fault next) new before after SinkFailed = ⊥
Steps (Refused fault next) new before after Memory = Keeps before after

-- the last text, where there is one
abbrev pub Closes : Option (List ℕ) → Option (List ℕ) → Option (List ℕ) → Ran → Type 0
Closes (Some text) before after Done = Appends before after text
Closes (Some text) before after Bad = ⊥
Closes (Some text) before after TooLong = ⊥
Closes (Some text) before after SinkFailed = Puts before after text Failed
Closes (Some text) before after Memory = Keeps before after
Closes None before after Done = ⊥
Closes None before after Bad = Keeps before after
Closes None before after TooLong = ⊥
Closes None before after SinkFailed = ⊥
Closes None before after Memory = Keeps before after

-- some first lines of these are good, add this text and lead to this machine
pub record Shows {M : Type 0} (step : M → List ℕ → LineOutcome M) (n : ℕ) (m : M)
    (whole : List (List ℕ)) (added : List ℕ) (next : M) : Type 0 where
  pub lines : List (List ℕ)
  pub others : List (List ℕ)
  pub count : ℕ
  pub front : whole ≡ lines ++ others
  pub played : (text : List ℕ)
      → plays step (Going n text m) lines ≡ Going count (text ++ added) next

-- however the text goes on, it is refused here
abbrev pub Stops : {M : Type 0} → (M → List ℕ → LineOutcome M) → List ℕ → ℕ → M → List ℕ
    → LineRefusal → ℕ → M
    → List ℕ → Type 0
Stops step line0 n0 m0 bytes fault n m added =
    (more : List ℕ) (text : List ℕ)
    → plays step (Going n0 text m0) (lines_from line0 (bytes ++ more))
    ≡ Halted fault n (text ++ added) m

-- what was added for these bytes, behind n lines and a line that has begun
abbrev pub Fed : {M : Type 0} → (M → List ℕ → LineOutcome M) → List ℕ → ℕ → M → List ℕ → List ℕ → ℕ
    → M
    → List ℕ → Ran → Type 0
Fed step line0 n0 m0 bytes line n m added Done =
    ((text : List ℕ)
    → plays step (Going n0 text m0) (whole_from line0 bytes) ≡ Going n (text ++ added) m)
    × (line ≡ rest_from line0 bytes)
Fed step line0 n0 m0 bytes line n m added Bad = Stops step line0 n0 m0 bytes BadLine n m added
Fed step line0 n0 m0 bytes line n m added TooLong =
    Stops step line0 n0 m0 bytes InputTooLong n m added
-- the line was carried out, and its text was cut
Fed step line0 n0 m0 bytes line n m added SinkFailed =
    (rest : List ℕ) × Shows step n0 m0 (whole_from line0 bytes) (added ++ rest) m
Fed step line0 n0 m0 bytes line n m added Memory =
    (next : _) × Shows step n0 m0 (whole_from line0 bytes) added next

-- bytes without a newline go onto a line that has begun behind n lines
abbrev pub Extends : List ℕ → ℕ → List ℕ → Ran → List ℕ → Type 0
Extends line n run Done new = new ≡ line ++ run
Extends line n run Bad new =
    (0 < length run) × ((1048576 ≤ n) ⊎ (1048576 < length line + length run))
Extends line n run TooLong new = ⊥
Extends line n run SinkFailed new = ⊥
Extends line n run Memory new = Unit {0}

-- the same, with what the sink holds
pub record Feeds {M : Type 0} (step : M → List ℕ → LineOutcome M) (line0 : List ℕ) (n0 : ℕ) (m0 : M)
    (held0 : Option (List ℕ)) (bytes : List ℕ) (ran : Ran) (line : List ℕ) (n : ℕ) (m : M)
    (held : Option (List ℕ)) : Type 0 where
  pub added : List ℕ
  pub sink : Appends held0 held added
  pub told : Fed step line0 n0 m0 bytes line n m added ran

-- what was added for a last line that lacks its newline
abbrev pub Last : {M : Type 0} → (M → List ℕ → LineOutcome M) → List ℕ → ℕ → M → ℕ → M → List ℕ
    → Ran
    → Type 0
Last step line n0 m0 n m added Done =
    (text : List ℕ) → plays step (Going n0 text m0) (last_line line) ≡ Going n (text ++ added) m
Last step line n0 m0 n m added Bad =
    (text : List ℕ)
    → plays step (Going n0 text m0) (last_line line) ≡ Halted BadLine n (text ++ added) m
Last step line n0 m0 n m added TooLong =
    (text : List ℕ)
    → plays step (Going n0 text m0) (last_line line) ≡ Halted InputTooLong n (text ++ added) m
Last step line n0 m0 n m added SinkFailed =
    (rest : List ℕ) × Shows step n0 m0 (last_line line) (added ++ rest) m
Last step line n0 m0 n m added Memory = (next : _) × Shows step n0 m0 (last_line line) added next

-- the same, with what the sink holds
pub record Lasts {M : Type 0} (step : M → List ℕ → LineOutcome M) (line : List ℕ) (n0 : ℕ) (m0 : M)
    (held0 : Option (List ℕ)) (ran : Ran) (n : ℕ) (m : M) (held : Option (List ℕ)) : Type 0 where
  pub added : List ℕ
  pub sink : Appends held0 held added
  pub told : Last step line n0 m0 n m added ran

-- some first lines of a text, whose bytes taken begin, are good, write this and lead to this
-- machine
pub record Front {M : Type 0} (step : M → List ℕ → LineOutcome M) (m0 : M) (taken : List ℕ)
    (left : Option (List ℕ)) (out : List ℕ) (m : M) : Type 0 where
  pub lines : List (List ℕ)
  pub count : ℕ
  pub front : (more : List ℕ) → left ≡ Some more
      → (others : List (List ℕ)) × (lines_of (taken ++ more) ≡ lines ++ others)
  pub played : plays step (Going 0 [] m0) lines ≡ Going count out m

-- the whole text, with what is left, is refused so, and the output is all that belongs to it
abbrev pub Rejected : {M : Type 0} → (M → List ℕ → LineOutcome M) → (M → Option (List ℕ)) → M
    → List ℕ
    → Option (List ℕ) → List ℕ → M → LineRefusal → Type 0
Rejected step closing m0 taken left text m fault = (more : List ℕ) → left ≡ Some more →
    (fault_of closing (plays step (Going 0 [] m0) (lines_of (taken ++ more))) ≡ Some fault)
    × (whole_text closing (plays step (Going 0 [] m0) (lines_of (taken ++ more))) ≡ text)
    × (machine_of (plays step (Going 0 [] m0) (lines_of (taken ++ more))) ≡ m)

-- What a call wrote that ended so, where taken are the bytes that it took and left what is left of
-- the source.
abbrev pub Wrote : {M : Type 0} → (M → List ℕ → LineOutcome M) → (M → Option (List ℕ)) → M → List ℕ
    → Option (List ℕ) → List ℕ → M → Ended → Type 0
-- all was read and was good, and the output is all of it
Wrote step closing m0 taken left text m ended.Done =
    IsAtEnd left
    × (fault_of closing (plays step (Going 0 [] m0) (lines_of taken)) ≡ None)
    × (whole_text closing (plays step (Going 0 [] m0) (lines_of taken)) ≡ text)
    × (machine_of (plays step (Going 0 [] m0) (lines_of taken)) ≡ m)
Wrote step closing m0 taken left text m ended.Bad =
    Rejected step closing m0 taken left text m BadLine
Wrote step closing m0 taken left text m ended.TooLong =
    Rejected step closing m0 taken left text m InputTooLong
-- each line that was ended among the bytes taken was good, and the output is theirs
Wrote step closing m0 taken left text m ended.ReadFault =
    (n : ℕ) × (out : List ℕ) × (plays step (Going 0 [] m0) (whole_lines taken) ≡ Going n out m)
    × (text ≡ out ++ read_fault)
-- the output is that of some first lines
Wrote step closing m0 taken left text m ended.WriteFault = Front step m0 taken left text m
-- the same with the fault line, and nothing is said of the machine
Wrote step closing m0 taken left text m ended.Memory =
    (out : List ℕ) × (next : _) × Front step m0 taken left out next × (text ≡ out ++ no_memory)

-- What was written is a front of such an output, of which the rest was not written. Of the machine
-- nothing is said only where the fault line for want of memory was cut, behind all of the output of
-- some first lines.
abbrev pub Cut : {M : Type 0} → (M → List ℕ → LineOutcome M) → (M → Option (List ℕ)) → M → List ℕ
    → Option (List ℕ) → List ℕ → List ℕ → M → Ended → Type 0
Cut step closing m0 taken left text rest m ended.Done =
    Wrote step closing m0 taken left (text ++ rest) m ended.Done
Cut step closing m0 taken left text rest m ended.Bad =
    Wrote step closing m0 taken left (text ++ rest) m ended.Bad
Cut step closing m0 taken left text rest m ended.TooLong =
    Wrote step closing m0 taken left (text ++ rest) m ended.TooLong
Cut step closing m0 taken left text rest m ended.ReadFault =
    Wrote step closing m0 taken left (text ++ rest) m ended.ReadFault
Cut step closing m0 taken left text rest m ended.WriteFault =
    Wrote step closing m0 taken left (text ++ rest) m ended.WriteFault
Cut step closing m0 taken left text rest m ended.Memory =
    (out : List ℕ) × (front : List ℕ) × (next : _) × Front step m0 taken left out next
    × (text ≡ out ++ front) × (no_memory ≡ front ++ rest)

-- what a call wrote, and where the sink failed a front of such an output
abbrev pub TellsRun : {M : Type 0} → (M → List ℕ → LineOutcome M) → (M → Option (List ℕ)) → M
    → List ℕ
    → Option (List ℕ) → List ℕ → M → Ended → Type 0
TellsRun step closing m0 taken left text m ended.Done =
    Wrote step closing m0 taken left text m ended.Done
TellsRun step closing m0 taken left text m ended.Bad =
    Wrote step closing m0 taken left text m ended.Bad
TellsRun step closing m0 taken left text m ended.TooLong =
    Wrote step closing m0 taken left text m ended.TooLong
TellsRun step closing m0 taken left text m ended.ReadFault =
    Wrote step closing m0 taken left text m ended.ReadFault
TellsRun step closing m0 taken left text m ended.WriteFault =
    (e : Ended) × (rest : List ℕ) × Cut step closing m0 taken left text rest m e
TellsRun step closing m0 taken left text m ended.Memory =
    Wrote step closing m0 taken left text m ended.Memory

-- the fault line of a step behind n lines that ended so, and how the call ends then
abbrev pub ran_words : Ran → ℕ → List ℕ
ran_words Done n = []
ran_words Bad n = bad_line (n + 1)
ran_words TooLong n = input_too_long
ran_words SinkFailed n = []
ran_words Memory n = no_memory

abbrev pub ended_of : Ran → Ended
ended_of Done = ended.Done
ended_of Bad = ended.Bad
ended_of TooLong = ended.TooLong
ended_of SinkFailed = ended.WriteFault
ended_of Memory = ended.Memory

-- a fault line was written, or a front of it where the sink failed
pub record SaysFault (held0 held : Option (List ℕ)) (words : List ℕ)
    (wanted result : Ended) : Type 0 where
  pub added : List ℕ
  pub sink : Appends held0 held added
  pub told : ((result ≡ wanted) × (added ≡ words))
      ⊎ ((result ≡ ended.WriteFault) × ((rest : List ℕ) × (words ≡ added ++ rest)))

-- each line that was ended among the bytes taken was good, and this is where they lead
pub record StandsBehind {M : Type 0} (step : M → List ℕ → LineOutcome M) (m0 : M)
    (taken text line : List ℕ)
    (n : ℕ) (m : M) : Type 0 where
  pub played : plays step (Going 0 [] m0) (whole_lines taken) ≡ Going n text m
  pub begun : line ≡ rest_from [] taken

-- how the bytes and the text stand, while a text is read
pub record ReadsOn {M : Type 0} (step : M → List ℕ → LineOutcome M) (m0 : M)
    (left0 left held0 held : Option (List ℕ)) (line : List ℕ) (n : ℕ) (m : M) : Type 0 where
  pub taken : List ℕ
  pub text : List ℕ
  pub source : Consumes left0 left taken
  pub sink : Appends held0 held text
  pub stands : StandsBehind step m0 taken text line n m

-- the end of a text, behind any bytes that led to this line and machine
pub record Finishes {M : Type 0} (step : M → List ℕ → LineOutcome M) (closing : M → Option (List ℕ))
    (line : List ℕ) (n0 : ℕ) (m1 : M) (held0 held : Option (List ℕ)) (m : M)
    (result : Ended) : Type 0 where
  pub added : List ℕ
  pub sink : Appends held0 held added
  pub told : (m0 : M) (taken text : List ℕ) (left : Option (List ℕ))
      → StandsBehind step m0 taken text line n0 m1 → IsAtEnd left
      → TellsRun step closing m0 taken left (text ++ added) m result

-- the whole call
pub record Replays {M : Type 0} (step : M → List ℕ → LineOutcome M) (closing : M → Option (List ℕ))
    (m0 : M) (left0 left held0 held : Option (List ℕ)) (m : M) (result : Ended) : Type 0 where
  pub taken : List ℕ
  pub text : List ℕ
  pub source : Consumes left0 left taken
  pub sink : Appends held0 held text
  pub told : TellsRun step closing m0 taken left text m result
