use Rattle.std.proofs.Common.{◌≡◌, ◌++◌, [], List, All, reverse, arith, sym, ap, subst, rules, ◌∙◌}
use Rattle.ug_types.specs.declared.rule.Rule.{Rule}
use Rattle.ug_lint.specs.Remaining.{is_covered, remaining, kept_unless}
use Rattle.ug_rule.specs.Grammar.{WellFormed}
use Rattle.ug_policy.specs.Rules.{rules_in}
use Rattle.ug_lint.proofs.Alike.{pruned_alike, same_rules}
use Rattle.ug_lint.proofs.FilledRules.{are_filled}
use Rattle.ug_lint.proofs.OneMore.{left_more}
use Rattle.ug_lint.proofs.pruning.prune.Goals as goal

pub loop-rule-preserved : goal.loop-rule-preserved
loop-rule-preserved c =
    let before = c.pop.new.self.items in
    let rule = c.in-Some.rule in
    let kept = c.loop-rule.kept.items in
    let now : c.keep.new.kept.items ≡ kept ++ kept_unless (is_covered before rule) rule =
    c.in-Ok.ensures ∙ ap (λ (v : List Rule). kept ++ kept_unless (is_covered v rule) rule) c.as_slice.ensures.value in
    record {
      few = omega (arith, c.loop-rule.invariant.few, c.in-Some.ensures.cases);
      left =
          ap (λ (v : List Rule). remaining before ++ reverse v) now
          ∙ sym (left_more c.loop-rule.rules.items before kept rule c.in-Some.ensures.items)
          ∙ c.loop-rule.invariant.left;
    }

pub returns-clause-judges : goal.returns-clause-judges
returns-clause-judges c = λ dev ctx records entries stream same words.
    let whole : remaining c.args.rules.items ≡ c.reverse.new.self.items = search rules in
    let well : All WellFormed (rules_in entries) = subst (λ (v : List Rule). All WellFormed v) (sym same) c.requires.well_formed in
    (same_rules [] entries ∙ ap remaining same ∙ whole, pruned_alike dev ctx records entries stream words (are_filled (rules_in entries) well))
