-- What is written for an input that should hold rules, where those that can never decide are looked
-- for.
use Rattle.std.specs.Prelude.{ℕ, ◌≡◌, ◌≤◌, ◌<◌, ◌⊎◌, Bool, true, false, List, length, Option, Ok, Err}
use Rattle.rand_core.specs.Stream.{Stream}
use Rattle.ug_types.specs.Elements.{Has}
use Rattle.ug_types.specs.Limits.{text_limit}
use Rattle.ug_types.specs.declared.record.DeviceRecord.{DeviceRecord}
use Rattle.ug_types.specs.declared.rule.Rule.{Rule}
use Rattle.ug_types.specs.declared.text_fault.TextFault.{TextFault}
use Rattle.ug_cond.specs.declared.context.Context.{Context}
use Rattle.ug_policy.specs.declared.entry.RuleEntry.{RuleEntry}
use Rattle.ug_rule.specs.Files.{file_read}
use Rattle.ug_print.specs.RuleTexts.{rules_text_of}
use Rattle.ug_lint.specs.declared.finding.Finding.{Finding}
use Rattle.ug_lint.specs.Findings.{findings, found_place}
use Rattle.ug_lint.specs.NeverDecides.{HasWords, NeverDecides, PrunedAlike}
use Rattle.ug_policy.specs.Rules.{rules_in}
use Rattle.ug_lint.specs.Remaining.{remaining, remaining_entries}
use Rattle.ug_command_io.specs.WholeInputs as whole
use Rattle.ug_command_io.specs.Fold.{no_memory}
use Rattle.ug_command_io.specs.declared.results.Ended.{Ended}
use Rattle.ug_command_io.specs.declared.results.Ended.TheVariants as ended
use Rattle.ug_commands.specs.Checking.{check_status}
use Rattle.ug_commands.specs.CheckingLines.{bad_rules_line}
use Rattle.ug_commands.specs.LintingLines.{findings_text, too_many_rules}
use Rattle.ug_commands.specs.declared.few_rules.LintFault.{LintFault}
use Rattle.ug_commands.specs.declared.few_rules.LintFault.TheVariants.{Bad, TooMany, Memory}

-- the greatest number of rules
abbrev pub rules_most : ℕ
rules_most = 4096

-- the text holds rules, and not too many
abbrev pub AreFew : List ℕ → List Rule → Type 0
AreFew bytes rules = (file_read bytes ≡ Ok rules) × (length rules ≤ rules_most)

-- all that is found of the rules of a text is told, and a rule that is found never decides
pub record IsLinted (bytes text : List ℕ) : Type 0 where
  pub rules : List Rule
  pub few : AreFew bytes rules
  pub is : text ≡ findings_text (findings rules)
  pub never_decides : (finding : Finding) → Has (findings rules) finding
      → NeverDecides rules (found_place finding)

-- the canonical text of the rules that no earlier one covers; it reads as these, and they judge
-- each device as all do
pub record IsPruned (bytes text : List ℕ) : Type 0 where
  pub rules : List Rule
  pub few : AreFew bytes rules
  pub is : text ≡ rules_text_of (remaining rules)
  pub reads : file_read text ≡ Ok (remaining rules)
  pub judges : (dev : DeviceRecord) (ctx : Context) (records : List DeviceRecord)
      (entries : List RuleEntry) (stream : Stream)
      → rules_in entries ≡ rules → HasWords stream
      → (rules_in (remaining_entries entries) ≡ remaining rules)
      × PrunedAlike dev ctx records entries stream

-- a line of the text is bad, and the first such line is told
abbrev pub TellsFirstBadRule : List ℕ → List ℕ → Type 0
TellsFirstBadRule bytes text =
    (fault : TextFault) × (file_read bytes ≡ Err fault) × (text ≡ bad_rules_line fault)

-- each line is good, and there are too many rules
abbrev pub AreTooMany : List ℕ → List ℕ → Type 0
AreTooMany bytes text =
    (rules : List Rule) × (file_read bytes ≡ Ok rules) × (rules_most < length rules)
    × (text ≡ too_many_rules)

abbrev pub TellsLintFault : List ℕ → List ℕ → Type 0
TellsLintFault bytes text = TellsFirstBadRule bytes text ⊎ AreTooMany bytes text

-- the whole output of a text whose rules are good: the findings, or the rules that remain
abbrev pub IsOutput : Bool → List ℕ → List ℕ → Type 0
IsOutput false bytes text = IsLinted bytes text
IsOutput true bytes text = IsPruned bytes text

abbrev pub TellsLint : Bool → List ℕ → Option (List ℕ) → Option (List ℕ) → Option (List ℕ) → Ended
    → Type 0
TellsLint prune bytes left held0 held result =
    whole.TellsWhole text_limit (IsOutput prune) TellsLintFault bytes left held0 held result

-- the whole call
abbrev pub CompletesLint : Bool → Option (List ℕ) → Option (List ℕ) → Option (List ℕ)
    → Option (List ℕ)
    → Ended → Type 0
CompletesLint prune left0 left held0 held result =
    whole.CompletesWhole text_limit (IsOutput prune) TellsLintFault left0 left held0 held result

-- what a status says: all are the bytes of the source and base those of the sink before the call
abbrev pub AnswersLint : Bool → List ℕ → List ℕ → Option (List ℕ) → Option (List ℕ) → ℕ → Type 0
AnswersLint prune all base left held status =
    whole.AnswersWhole check_status text_limit
    (IsOutput prune) TellsLintFault all base left held status

-- ---- why there is no output

-- what a fault says of the text
abbrev pub IsLintFault : LintFault → List ℕ → Type 0
IsLintFault (Bad fault) bytes = file_read bytes ≡ Err fault
IsLintFault TooMany bytes =
    (rules : List Rule) × (file_read bytes ≡ Ok rules) × (rules_most < length rules)
IsLintFault Memory bytes = Unit {0}

-- the line that is written for the output, or for a fault, and how the call ends then
abbrev pub lint_fault_line : LintFault → List ℕ
lint_fault_line (Bad fault) = bad_rules_line fault
lint_fault_line TooMany = too_many_rules
lint_fault_line Memory = no_memory

abbrev pub lint_end : LintFault → Ended
lint_end (Bad fault) = ended.Bad
lint_end TooMany = ended.Bad
lint_end Memory = ended.Memory
