-- Texts that are read line by line, up to the first bad line.
use Rattle.std.specs.Prelude.{◌≡◌, ℕ, ◌+◌, List, [], ◌∷◌, ◌++◌, length, Result, Ok, Err}
use Rattle.ug_types.specs.TextFaults.{fault_in_line}
use Rattle.ug_types.specs.declared.text_fault.Fault.{Fault}
use Rattle.ug_types.specs.declared.text_fault.FileFault.{FileFault}
use Rattle.ug_types.specs.declared.text_fault.FileFault.TheVariants.{Bad, Memory}
use Rattle.ug_types.specs.declared.text_fault.TextFault.{TextFault}
use Rattle.ug_lines.specs.Lines.{lines_of}

-- what a good reading goes on with
abbrev pub then_on : {X Y E : Type 0} → Result X E → (X → Result Y E) → Result Y E
then_on (Ok x) next = next x
then_on (Err fault) next = Err fault

-- what a line says, where its fault has the line's number
abbrev pub on_line : {K X : Type 0} → (K → ℕ) → ℕ → Result X (Fault K) → Result X TextFault
on_line number_of number (Ok x) = Ok x
on_line number_of number (Err fault) = Err (fault_in_line number_of number fault)

-- what lines that are numbered from a number on lead to, up to the first bad one
unfoldable pub lines_read : {S : Type 0} → (ℕ → S → List ℕ → Result S TextFault) → ℕ → S
    → List (List ℕ) → Result S TextFault
lines_read read number state [] = Ok state
lines_read read number state (line ∷ lines) =
    then_on (read number state line) (λ next. lines_read read (number + 1) next lines)

-- what a text leads to, whose lines count from 1
abbrev pub text_read : {S : Type 0} → (ℕ → S → List ℕ → Result S TextFault) → S → List ℕ
    → Result S TextFault
text_read read state text = lines_read read 1 state (lines_of text)

-- a call's answer is what was read, and what it leaves is where that leads; memory may be refused
abbrev pub LeadsTo : {S : Type 0} → Result S TextFault → Result (Unit {0}) FileFault → S → Type 0
LeadsTo read (Ok done) after = read ≡ Ok after
LeadsTo read (Err (Bad fault)) after = read ≡ Err fault
LeadsTo read (Err Memory) after = Unit {0}

-- each of these lines is good behind those before, and they lead from one state to another
pub data AllGood {S : Type 0} (read : ℕ → S → List ℕ → Result S TextFault) : ℕ → S → List (List ℕ)
    → S → Type 0 where
  NoLines : (number : ℕ) (state : S) → AllGood read number state [] state
  OneMore : (number : ℕ) (state next last : S) (line : List ℕ) (lines : List (List ℕ))
      → read number state line ≡ Ok next → AllGood read (number + 1) next lines last
      → AllGood read number state (line ∷ lines) last

-- the lines before are good, and this one is not
pub record IsFirstBadLine {S : Type 0} (read : ℕ → S → List ℕ → Result S TextFault) (number : ℕ)
    (start : S) (lines : List (List ℕ)) (fault : TextFault) : Type 0 where
  pub before : List (List ℕ)
  pub line : List ℕ
  pub behind : List (List ℕ)
  pub state : S
  pub split : lines ≡ before ++ line ∷ behind
  pub good : AllGood read number start before state
  pub bad : read (number + length before) state line ≡ Err fault
