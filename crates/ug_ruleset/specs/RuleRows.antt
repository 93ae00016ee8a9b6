-- The list of rules: usbguard(1), list-rules.
use Rattle.std.specs.Prelude.{ℕ, List, [], ◌++◌, map, codes}
use Rattle.ug_policy.specs.declared.entry.Mark.{Mark}
use Rattle.ug_policy.specs.declared.entry.Mark.TheVariants as mark
use Rattle.ug_policy.specs.declared.entry.RuleEntry.{RuleEntry}
use Rattle.ug_print.specs.Words.{rule_text}
use Rattle.ug_ruleset.specs.Rows.{numbered_row}

-- what is behind a rule of the folder and a temporary one
abbrev pub mark_text : Mark → List ℕ
mark_text mark.Folder = codes " # folder"
mark_text mark.File = []
mark_text mark.Temporary = codes " # temporary"

-- its id and its canonical text
unfoldable pub rule_row : RuleEntry → List ℕ
rule_row entry = numbered_row entry.id (rule_text entry.rule) ++ mark_text entry.mark

-- in the order of the list
abbrev pub rule_rows : List RuleEntry → List (List ℕ)
rule_rows entries = map rule_row entries
