-- One line of a text of rules.
use Rattle.std.specs.Prelude.{ℕ, List, Option, Result, Ok, Err}
use Rattle.ug_types.specs.declared.rule.Rule.{Rule}
use Rattle.ug_types.specs.declared.text_fault.TextFault.{TextFault}
use Rattle.ug_rule.specs.declared.fault.Fault.{Fault}
use Rattle.ug_rule.specs.Files.{fault_on, line_read}

-- the fault of the line of a number has that number
abbrev pub fault_numbered : ℕ → Result (Option Rule) Fault → Result (Option Rule) TextFault
fault_numbered number (Ok found) = Ok found
fault_numbered number (Err fault) = Err (fault_on number fault)

-- the rule of the line of that number, and none where it is blank or a comment
abbrev pub rule_on_line : ℕ → List ℕ → Result (Option Rule) TextFault
rule_on_line number line = fault_numbered number (line_read line)
