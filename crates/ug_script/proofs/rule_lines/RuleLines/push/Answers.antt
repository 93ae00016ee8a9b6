use Rattle.std.proofs.Common.{ℕ, ◌+◌, ◌<◌, List, [], ◌∷◌, ◌++◌, length, sym, ap, subst, ◌∙◌, arith}
use Rattle.ug_types.specs.declared.rule.Rule.{Rule}
use Rattle.ug_script.specs.RuleLines.{IsRuleText, rules_kept}
use Rattle.ug_script.proofs.KeptRules.{kept_more, text_more}
use Rattle.ug_script.proofs.rule_lines.RuleLines.push.Goals as goal

pub invariant_of-self-2 : goal.invariant_of-self-2
invariant_of-self-2 c =
    let text : List ℕ = c.self.inside.text.items in
    let room : length (rules_kept text) < 65536 = omega (arith, c.requires.room, ap length c.self.view_is) in
    subst (λ (t : List ℕ). IsRuleText t (c.self.inside.count + 1)) (sym (c.in_ok-add_line.ensures.ok ∙ ap (λ (t : List ℕ). text ++ t) c.in_ok-line.ensures.line))
    (text_more text c.self.inside.count c.args.rule.now c.self.invariant c.requires.well_formed c.in_ok-line.ensures.bytes room)

pub returns-clause-ok : goal.returns-clause-ok
returns-clause-ok c =
    let text : List ℕ = c.self.inside.text.items in
    ap rules_kept (c.in_ok-add_line.ensures.ok ∙ ap (λ (t : List ℕ). text ++ t) c.in_ok-line.ensures.line)
    ∙ kept_more text c.self.inside.count c.args.rule.now c.self.invariant c.requires.well_formed c.in_ok-line.ensures.bytes
    ∙ ap (λ (rules : List Rule). rules ++ c.args.rule.now ∷ []) c.self.view_is
