use Rattle.std.proofs.Common.{sym, subst}
use Rattle.ug_rule.proofs.RuleCuts.{says_line}
use Rattle.ug_print.specs.Words.{rule_text}
use Rattle.ug_print.proofs.Printed.{printed}
use Rattle.ug_types.specs.declared.rule.Rule.{Rule}
use Rattle.ug_ruleset.specs.RuleEdits.{IsButForTarget}
use Rattle.ug_core.proofs.policy.Policy.verdict_edit.Goals as goal

pub returns-in-Some-clause-reads : goal.returns-in-Some-clause-reads
returns-in-Some-clause-reads g c =
    let rule : Rule = c.in_ok-rule.rule in (
      says_line (rule_text rule) rule (printed rule c.in_ok-rule.ensures.well_formed c.in_ok-rule.ensures.bytes),
      subst (λ (r : Rule). IsButForTarget c.in-Some.id r c.args.self.now.rules.entries) (sym c.in_ok-rule.ensures.rule) (c.in-Some.ensures.alone c.args.verdict),
    )

pub returns-in-None-clause-reads : goal.returns-in-None-clause-reads
returns-in-None-clause-reads g c =
    let rule : Rule = c.in_ok-rule.rule in
    says_line (rule_text rule) rule (printed rule c.in_ok-rule.ensures.well_formed c.in_ok-rule.ensures.bytes)
