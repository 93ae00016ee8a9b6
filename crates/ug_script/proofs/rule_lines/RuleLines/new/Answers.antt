use Rattle.std.proofs.Common.{ℕ, List, sym, ap, subst, ◌∙◌}
use Rattle.ug_script.specs.RuleLines.{IsRuleText, rules_kept}
use Rattle.ug_script.proofs.KeptRules.{no_text, none_kept}
use Rattle.ug_script.proofs.rule_lines.RuleLines.new.Goals as goal

pub invariant_of-result : goal.invariant_of-result
invariant_of-result c = subst (λ (text : List ℕ). IsRuleText text 0) (sym c.new.ensures.items) no_text

pub returns : goal.returns
returns c = ap rules_kept c.new.ensures.items ∙ none_kept
