use Rattle.std.proofs.Common.{◌≡◌, take}
use Rattle.std.specs.Prelude.{flat_map}
use Rattle.ug_print.specs.RuleTexts.{rule_line}
use Rattle.ug_generate.proofs.text.lines_of.Given as goal

abbrev pub invariant-loop-rule : goal.invariant-loop-rule
invariant-loop-rule l = l.text.items ≡ flat_map rule_line (take l.rule-index l.rules)
