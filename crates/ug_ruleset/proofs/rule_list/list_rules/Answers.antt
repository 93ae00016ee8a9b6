use Rattle.std.proofs.Common.{◌≡◌, ℕ, List, Some, slice_get, sym, ap, subst, ◌∙◌}
use Rattle.std.specs.Prelude.{option_copied}
use Rattle.ug_policy.specs.declared.entry.RuleEntry.{RuleEntry}
use Rattle.ug_lines.specs.Splitting.{AreLines}
use Rattle.ug_ruleset.proofs.RowLines.{lines_more}
use Rattle.ug_ruleset.proofs.RuleRowWalk.{rules_more, well_at}
use Rattle.ug_ruleset.proofs.rule_list.list_rules.Goals as goal

pub loop-place-preserved : goal.loop-place-preserved
loop-place-preserved c =
    let es : List RuleEntry = c.args.rules.now.entries in
    let e : RuleEntry = c.in-Some.entry.now in
    let there : slice_get es c.loop-place.place ≡ Some e = sym c.entry.ensures.value ∙ ap option_copied c.in-Some.is in
    let row : List ℕ = c.in_ok-print_rule_row.field-0 in
    record {
      rows = c.in_ok-push.ensures.ok ∙ rules_more es c.loop-place.place e c.loop-place.rows row there c.in_ok-print_rule_row.ensures.row c.loop-place.invariant.rows;
      one_line = λ well. subst AreLines (sym c.in_ok-push.ensures.ok) (lines_more c.loop-place.rows row (c.loop-place.invariant.one_line well) (c.in_ok-print_rule_row.ensures.one_line (well_at es c.loop-place.place e there well)));
    }
