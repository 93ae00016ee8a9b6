-- The rules that are saved, and the text of the rule file with them.
use Rattle.std.specs.Prelude.{◌≡◌, ◌≤◌, ℕ, if◌then◌else◌, List, [], ◌∷◌, length, map, flat_map, Ok}
use Rattle.ug_types.specs.Limits.{text_limit}
use Rattle.ug_types.specs.declared.rule.Rule.{Rule}
use Rattle.ug_rule.specs.Files.{file_read}
use Rattle.ug_rule.specs.Rules.{rule_read}
use Rattle.ug_print.specs.RuleTexts.{rules_text_of}
use Rattle.ug_print.specs.Words.{rule_text}
use Rattle.ug_policy.specs.Edits.{new_entry}
use Rattle.ug_policy.specs.Marks.{is_permanent}
use Rattle.ug_policy.specs.Rules.{most_rules}
use Rattle.ug_policy.specs.declared.entry.Mark.{Mark}
use Rattle.ug_policy.specs.declared.entry.RuleEntry.{RuleEntry}

-- the rules as they were given, without their histories
abbrev pub as_given : List RuleEntry → List RuleEntry
as_given entries = map (λ e. new_entry e.id e.rule e.mark) entries

-- a rule is saved if it is permanent
abbrev pub saved_rule : Mark → Rule → List Rule
saved_rule mark rule = if is_permanent mark then rule ∷ [] else []

abbrev pub saved_of : RuleEntry → List Rule
saved_of e = saved_rule e.mark e.rule

-- the permanent rules
abbrev pub permanent_rules : List RuleEntry → List Rule
permanent_rules entries = flat_map saved_of entries

-- the text of a rule file with them
abbrev pub permanent_text : List RuleEntry → List ℕ
permanent_text entries = rules_text_of (permanent_rules entries)

-- which a rule file has room for
abbrev pub FitsFile : List RuleEntry → Type 0
FitsFile entries = length (permanent_text entries) ≤ text_limit

-- the rules read again from their canonical text, for which a rule file has
-- room; and a list has room for them
pub record CanSave (rules : List Rule) : Type 0 where
  pub reads : file_read (rules_text_of rules) ≡ Ok rules
  pub fits : length (rules_text_of rules) ≤ text_limit
  pub few : length rules ≤ most_rules

-- so do the permanent ones
abbrev pub IsSaveable : List RuleEntry → Type 0
IsSaveable entries = CanSave (permanent_rules entries)

-- the text is in the grammar of rule files and within their limit; it has these rules,
-- and a daemon starts with them
pub record IsRuleFile (rules : List Rule) (text : List ℕ) : Type 0 where
  pub reads : file_read text ≡ Ok rules
  pub within : length text ≤ text_limit
  pub fits : length (rules_text_of rules) ≤ text_limit
  pub few : length rules ≤ most_rules

-- the rule reads again from its canonical text
abbrev pub ReadsBack : Rule → Type 0
ReadsBack rule = rule_read (rule_text rule) ≡ Ok rule
