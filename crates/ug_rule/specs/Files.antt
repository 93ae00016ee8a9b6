-- The rules of a text: those of its lines that are neither blank nor comments.
use Rattle.std.specs.Prelude.{◌≡◌, ℕ, Bool, true, false, ◌+◌, length, List, [], ◌∷◌, ◌++◌, Option, Some, None, Result, Ok, Err}
use Rattle.ug_words.specs.declared.token.Token.{Token}
use Rattle.ug_types.specs.declared.rule.Rule.{Rule}
use Rattle.ug_lines.specs.LineReading.{text_read}
use Rattle.ug_types.specs.declared.text_fault.TextFault.{TextFault}
use Rattle.ug_rule.specs.declared.fault.Fault.{Fault}
use Rattle.ug_rule.specs.declared.fault.Stop.{Stop}
use Rattle.ug_rule.specs.declared.fault.Stop.TheVariants.{Bad, Memory}
use Rattle.ug_rule.specs.Faults.{kind_number, on_ok}
use Rattle.ug_rule.specs.Rules.{rule_of}
use Rattle.ug_rule.specs.Tokens.{tokens_read}

-- the rule of a line. A line without tokens is blank or a comment, and has none
abbrev pub rule_in : List ℕ → List Token → Result (Option Rule) Fault
rule_in line [] = Ok None
rule_in line (token ∷ rest) = on_ok (rule_of line (token ∷ rest)) (λ rule. Ok (Some rule))

abbrev pub line_read : List ℕ → Result (Option Rule) Fault
line_read line = on_ok (tokens_read line) (rule_in line)

-- an answer tells whether there is a rule, unless memory was refused
abbrev pub TellsRule : Result Bool Stop → Result (Option Rule) Fault → Type 0
TellsRule (Ok true) read = (rule : Rule) × (read ≡ Ok (Some rule))
TellsRule (Ok false) read = read ≡ Ok None
TellsRule (Err (Bad fault)) read = read ≡ Err fault
TellsRule (Err Memory) read = Unit {0}

abbrev pub with_rule : List Rule → Option Rule → List Rule
with_rule rules None = rules
with_rule rules (Some rule) = rules ++ rule ∷ []

-- a fault on the line of that number
abbrev pub fault_on : ℕ → Fault → TextFault
fault_on number fault = record { line = number; kind = kind_number fault.kind; place = fault.place }

abbrev pub added : ℕ → List Rule → Result (Option Rule) Fault → Result (List Rule) TextFault
added number rules (Ok found) = Ok (with_rule rules found)
added number rules (Err fault) = Err (fault_on number fault)

-- the rules before with that of the line of a number, if it has one
abbrev pub adding_line : ℕ → List Rule → List ℕ → Result (List Rule) TextFault
adding_line number rules line = added number rules (line_read line)

-- the rules of a text, or its first bad line
abbrev pub file_read : List ℕ → Result (List Rule) TextFault
file_read text = text_read adding_line [] text

-- the number of rules with that of a line
abbrev pub rules_counted : ℕ → ℕ → Result (Option Rule) Fault → Result ℕ TextFault
rules_counted number count (Ok None) = Ok count
rules_counted number count (Ok (Some rule)) = Ok (count + 1)
rules_counted number count (Err fault) = Err (fault_on number fault)

abbrev pub counting_line : ℕ → ℕ → List ℕ → Result ℕ TextFault
counting_line number count line = rules_counted number count (line_read line)

-- so many rules were read
abbrev pub IsCount : ℕ → Result (List Rule) TextFault → Type 0
IsCount count read = (rules : List Rule) × (read ≡ Ok rules) × (count ≡ length rules)
