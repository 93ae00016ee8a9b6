use Rattle.std.proofs.Common.{◌≡◌, take}
use Rattle.std.specs.Prelude.{All}
use Rattle.ug_print.specs.Bytes.{RuleOfBytes}
use Rattle.ug_print.specs.RuleTexts.{rules_text_of}
use Rattle.ug_commands.proofs.rule_lines.text_of_rules.Given as goal

abbrev pub invariant-loop-rule : goal.invariant-loop-rule
invariant-loop-rule l = record {
  text : l.text.items ≡ rules_text_of (take l.rule-index l.rules);
  bytes : All RuleOfBytes (take l.rule-index l.rules);
}
