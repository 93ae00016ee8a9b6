use Rattle.std.proofs.Common.{◌≡◌}
use Rattle.std.specs.Prelude.{All, option_copied}
use Rattle.ug_print.specs.Bytes.{RuleOfBytes}
use Rattle.ug_print.specs.RuleTexts.{rules_text_of}
use Rattle.ug_ruleset.proofs.FileTexts.{rules_up_to}
use Rattle.ug_ruleset.proofs.file_text.file_text.Given as goal

abbrev pub invariant-loop-place : goal.invariant-loop-place
invariant-loop-place l = record {
  text : l.text ≡ rules_text_of (rules_up_to (option_copied l.edit) l.list.entries l.place);
  bytes : All RuleOfBytes (rules_up_to (option_copied l.edit) l.list.entries l.place);
}
