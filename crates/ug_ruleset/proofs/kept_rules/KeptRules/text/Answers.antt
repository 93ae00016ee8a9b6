use Rattle.std.proofs.Common.{sym, subst}
use Rattle.std.specs.Prelude.{None, Ok}
use Rattle.ug_policy.specs.Rules.{Rules}
use Rattle.ug_print.specs.declared.rule_texts.RulesTextFault.TheVariants as fault
use Rattle.ug_ruleset.specs.RuleEdits.{rules_after}
use Rattle.ug_ruleset.proofs.Edited.{unedited_rules}
use Rattle.ug_ruleset.proofs.Readable.{TextOf, text_of_list}
use Rattle.ug_ruleset.proofs.kept_rules.KeptRules.text.Goals as goal

pub returns-in-Ok-clause-reads : goal.returns-in-Ok-clause-reads
returns-in-Ok-clause-reads c =
    let list : Rules = c.self.inside.list in
    let told = text_of_list fault.TooLong list.entries (rules_after None list.entries) (Ok c.in-Ok.text) (sym (unedited_rules list.entries)) c.self.invariant.0 c.in-Ok.ensures.text c.in-Ok.ensures.bytes c.in-Ok.ensures.fits c.in-Ok.ensures.too_long in
    let is = subst (λ (v : Rules). TextOf fault.TooLong v.entries (Ok c.in-Ok.text)) c.self.view_is told in
    is.reads
