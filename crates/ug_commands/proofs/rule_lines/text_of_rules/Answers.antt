use Rattle.std.proofs.Common.{ℕ, ◌∙◌, ◌++◌, List, ap, subst}
use Rattle.std.proofs.lemmas.List.{take_all}
use Rattle.std.specs.Prelude.{All}
use Rattle.std.proofs.lemmas.List.Elements.{All-more}
use Rattle.ug_types.specs.declared.rule.Rule.{Rule}
use Rattle.ug_print.specs.Bytes.{RuleOfBytes}
use Rattle.ug_print.specs.RuleTexts.{rule_line, rules_text_of}
use Rattle.ug_print.proofs.RuleTexts.{line_more}
use Rattle.ug_commands.proofs.rule_lines.text_of_rules.Goals as goal

pub loop-rule-preserved : goal.loop-rule-preserved
loop-rule-preserved c =
    let rule : Rule = c.rule-item.result in
    record {
      text = c.in_ok-push_rule.ensures.line ∙ ap (λ (text : List ℕ). text ++ rule_line rule) c.loop-rule.invariant.text ∙ line_more c.args.rules.now c.loop-rule.rule-index rule c.loop-rule-test.true c.rule-item.is;
      bytes = All-more RuleOfBytes c.args.rules.now c.loop-rule.rule-index rule c.loop-rule-test.true c.loop-rule.invariant.bytes (subst RuleOfBytes c.rule-item.is c.in_ok-push_rule.ensures.bytes);
    }

pub returns-clause-text : goal.returns-clause-text
returns-clause-text c = c.from_vec.ensures ∙ c.loop-rule.invariant.text ∙ ap rules_text_of (take_all c.loop-rule.rule-index c.args.rules.now c.loop-rule-test.false)

pub returns-clause-bytes : goal.returns-clause-bytes
returns-clause-bytes c = subst (All RuleOfBytes) (take_all c.loop-rule.rule-index c.args.rules.now c.loop-rule-test.false) c.loop-rule.invariant.bytes
