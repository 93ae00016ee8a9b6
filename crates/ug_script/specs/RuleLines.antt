-- The rules of `rule` lines, by the text that is kept of them.
use Rattle.std.specs.Prelude.{◌≡◌, ℕ, ◌≤◌, List, [], length, All, Result, Ok, Err}
use Rattle.ug_types.specs.declared.rule.Rule.{Rule}
use Rattle.ug_types.specs.declared.text_fault.TextFault.{TextFault}
use Rattle.ug_rule.specs.Files.{file_read}
use Rattle.ug_rule.specs.Grammar.{WellFormed}
use Rattle.ug_print.specs.Bytes.{RuleOfBytes}
use Rattle.ug_print.specs.RuleTexts.{rules_text_of}

abbrev pub rules_or_none : Result (List Rule) TextFault → List Rule
rules_or_none (Ok rules) = rules
rules_or_none (Err bad) = []

-- the rules that a text reads as
abbrev pub rules_kept : List ℕ → List Rule
rules_kept text = rules_or_none (file_read text)

-- the text is the canonical one of its rules, which are so many and no more than a daemon takes,
-- and each of which is the rule of some line
pub record IsRuleText (text : List ℕ) (count : ℕ) : Type 0 where
  pub is : text ≡ rules_text_of (rules_kept text)
  pub well_formed : All WellFormed (rules_kept text)
  pub bytes : All RuleOfBytes (rules_kept text)
  pub few : length (rules_kept text) ≤ 65536
  pub number : count ≡ length (rules_kept text)
