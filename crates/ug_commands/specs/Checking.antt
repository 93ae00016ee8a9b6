-- What is written for an input that should hold rules.
use Rattle.std.specs.Prelude.{ℕ, ◌≡◌, List, length, Option, Ok, Err}
use Rattle.ug_types.specs.Limits.{text_limit}
use Rattle.ug_command_io.specs.declared.results.Ended.{Ended}
use Rattle.ug_command_io.specs.declared.results.Ended.TheVariants.{Done, Bad, TooLong, ReadFault, WriteFault, Memory}
use Rattle.ug_types.specs.declared.rule.Rule.{Rule}
use Rattle.ug_types.specs.declared.text_fault.TextFault.{TextFault}
use Rattle.ug_rule.specs.Files.{file_read}
use Rattle.ug_command_io.specs.WholeInputs as whole
use Rattle.ug_commands.specs.CheckingLines.{rules_line, bad_rules_line}

abbrev pub check_status : Ended → ℕ
check_status Done = 0
check_status Bad = 3
check_status TooLong = 2
check_status ReadFault = 4
check_status WriteFault = 5
check_status Memory = 6

-- each line of the text is a rule, blank or a comment, and the rules are counted
abbrev pub TellsCount : List ℕ → List ℕ → Type 0
TellsCount bytes text =
    (rules : List Rule) × (file_read bytes ≡ Ok rules) × (text ≡ rules_line (length rules))

-- a line of the text is bad, and the first such line is told
abbrev pub TellsBadRules : List ℕ → List ℕ → Type 0
TellsBadRules bytes text =
    (fault : TextFault) × (file_read bytes ≡ Err fault) × (text ≡ bad_rules_line fault)

abbrev pub TellsCheck : List ℕ → Option (List ℕ) → Option (List ℕ) → Option (List ℕ) → Ended
    → Type 0
TellsCheck bytes left held0 held result =
    whole.TellsWhole text_limit TellsCount TellsBadRules bytes left held0 held result

-- the whole call
abbrev pub CompletesCheck : Option (List ℕ) → Option (List ℕ) → Option (List ℕ) → Option (List ℕ)
    → Ended
    → Type 0
CompletesCheck left0 left held0 held result =
    whole.CompletesWhole text_limit TellsCount TellsBadRules left0 left held0 held result

-- what a status says: all are the bytes of the source and base those of the sink before the call
abbrev pub AnswersCheck : List ℕ → List ℕ → Option (List ℕ) → Option (List ℕ) → ℕ → Type 0
AnswersCheck all base left held status =
    whole.AnswersWhole check_status text_limit TellsCount TellsBadRules all base left held status
