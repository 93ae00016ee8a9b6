use Rattle.std.proofs.Common.{◌≡◌, true, Ok, ap, subst}
use Rattle.std.specs.Prelude.{IfOk}
use Rattle.ug_types.specs.declared.rule.Rule.{Rule}
use Rattle.ug_rule.specs.Rules.{rule_read}
use Rattle.ug_print.specs.Generated.{generated_of}
use Rattle.ug_print.specs.Words.{rule_text}
use Rattle.ug_print.proofs.OneLine.{answer_is, answer_on_line}
use Rattle.ug_print.proofs.Printed.{on_line}
use Rattle.ug_print.proofs.device_lines.device_line.Goals as goal

pub returns-clause-text : goal.returns-clause-text
returns-clause-text c =
    let rule = c.in_ok-rule.rule in
    answer_is (rule_text rule) (rule_text (generated_of c.args.device.now c.args.verdict true)) c.print_rule-line.result c.print_rule-line.ensures.text (ap rule_text c.in_ok-rule.ensures.rule)

pub returns-clause-reads : goal.returns-clause-reads
returns-clause-reads c =
    subst (λ (rule : Rule). IfOk c.print_rule-line.result (λ text. rule_read text ≡ Ok rule)) c.in_ok-rule.ensures.rule (c.print_rule-line.ensures.reads c.in_ok-rule.ensures.well_formed)

pub returns-clause-one_line : goal.returns-clause-one_line
returns-clause-one_line c =
    let rule = c.in_ok-rule.rule in
    answer_on_line (rule_text rule) c.print_rule-line.result c.print_rule-line.ensures.text (on_line rule c.in_ok-rule.ensures.well_formed c.in_ok-rule.ensures.bytes)
