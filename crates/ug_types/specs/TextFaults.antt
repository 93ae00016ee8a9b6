-- Faults of texts that are read line by line.
use Rattle.std.specs.Prelude.{◌≡◌, ℕ, Result, Ok, Err}
use Rattle.ug_types.specs.declared.text_fault.Fault.{Fault}
use Rattle.ug_types.specs.declared.text_fault.LineFault.{LineFault}
use Rattle.ug_types.specs.declared.text_fault.LineFault.TheVariants as line
use Rattle.ug_types.specs.declared.text_fault.FileFault.{FileFault}
use Rattle.ug_types.specs.declared.text_fault.FileFault.TheVariants as file
use Rattle.ug_types.specs.declared.text_fault.TextFault.{TextFault}

abbrev pub fault_of_kind : {K : Type 0} → K → ℕ → Fault K
fault_of_kind kind place = record { kind = kind; place = place }

-- the fault of the line of that number
abbrev pub fault_in_line : {K : Type 0} → (K → ℕ) → ℕ → Fault K → TextFault
fault_in_line number_of number fault =
    record { line = number; kind = number_of fault.kind; place = fault.place }

abbrev pub file_fault_of : {K : Type 0} → (K → ℕ) → ℕ → LineFault K → FileFault
file_fault_of number_of number (line.Bad fault) = file.Bad (fault_in_line number_of number fault)
file_fault_of number_of number line.Memory = file.Memory

-- a line's answer is what was read, unless memory was refused
abbrev pub IsLineRead : {K X : Type 0} → Result X (LineFault K) → Result X (Fault K) → Type 0
IsLineRead (Ok x) read = read ≡ Ok x
IsLineRead (Err (line.Bad fault)) read = read ≡ Err fault
IsLineRead (Err line.Memory) read = Unit {0}

-- a text's fault is what was read, unless memory was refused
abbrev pub IsTextFault : {X : Type 0} → FileFault → Result X TextFault → Type 0
IsTextFault (file.Bad fault) read = read ≡ Err fault
IsTextFault file.Memory read = Unit {0}
