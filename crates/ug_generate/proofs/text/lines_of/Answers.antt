use Rattle.std.proofs.Common.{ℕ, List, ◌++◌, ◌∙◌, ap}
use Rattle.std.specs.Prelude.{flat_map}
use Rattle.std.proofs.lemmas.List.{take_all}
use Rattle.ug_print.specs.RuleTexts.{rule_line}
use Rattle.ug_print.proofs.RuleTexts.{line_more}
use Rattle.ug_generate.proofs.text.lines_of.Goals as goal

pub loop-rule-preserved : goal.loop-rule-preserved
loop-rule-preserved c =
    c.in_ok-push_line.ensures
    ∙ ap (λ (text : List ℕ). text ++ rule_line c.rule-item.result) c.loop-rule.invariant
    ∙ line_more c.args.rules.now c.loop-rule.rule-index c.rule-item.result c.loop-rule-test.true c.rule-item.is

pub returns : goal.returns
returns c =
    c.from_vec.ensures ∙ c.loop-rule.invariant
    ∙ ap (flat_map rule_line) (take_all c.loop-rule.rule-index c.args.rules.now c.loop-rule-test.false)
