use Rattle.std.proofs.Common.{◌≡◌, ℕ, ◌∙◌, ◌++◌, List, Err, ap, subst}
use Rattle.std.proofs.lemmas.List.Elements.{All-more}
use Rattle.ug_types.specs.Limits.{text_limit}
use Rattle.ug_types.specs.declared.rule.Rule.{Rule}
use Rattle.ug_print.specs.Bytes.{RuleOfBytes}
use Rattle.ug_print.specs.RuleTexts.{rule_line}
use Rattle.ug_print.specs.declared.rule_texts.RulesTextFault.{RulesTextFault}
use Rattle.ug_print.specs.declared.rule_texts.RulesTextFault.TheVariants.{TooLong}
use Rattle.ug_print.proofs.RuleTexts.{all_read, line_long, line_more}
use Rattle.ug_print.proofs.rule_texts.rules_text.Goals as goal

pub returns-in-Err-clause-too_long : goal.returns-in-Err-clause-too_long
returns-in-Err-clause-too_long c = λ e.
    let same : c.in-Err.fault ≡ TooLong = cc in
    line_long c.args.rules.now c.loop-rule.rule-index text_limit c.rule-item.result c.loop-rule.text c.loop-rule-test.true c.rule-item.is c.loop-rule.invariant.text
    (c.in-Err.ensures.too_long (ap (λ (f : RulesTextFault). Err f) same))

pub loop-rule-preserved : goal.loop-rule-preserved
loop-rule-preserved c =
    let rule : Rule = c.rule-item.result in
    record {
      text = c.in-Ok.ensures.line ∙ ap (λ (text : List ℕ). text ++ rule_line rule) c.loop-rule.invariant.text ∙ line_more c.args.rules.now c.loop-rule.rule-index rule c.loop-rule-test.true c.rule-item.is;
      bytes = All-more RuleOfBytes c.args.rules.now c.loop-rule.rule-index rule c.loop-rule-test.true c.loop-rule.invariant.bytes (subst RuleOfBytes c.rule-item.is c.in-Ok.ensures.bytes);
    }

pub returns-clause-reads : goal.returns-clause-reads
returns-clause-reads c = λ well.
    all_read c.args.rules.now c.loop-rule.rule-index c.into_text.result c.loop-rule-test.false (c.into_text.ensures.text ∙ c.loop-rule.invariant.text) c.loop-rule.invariant.bytes well
