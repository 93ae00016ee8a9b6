use Rattle.std.proofs.Common.{◌≡◌, ℕ, List, ◌++◌, sym, ap, subst, ◌∙◌}
use Rattle.ug_types.specs.declared.rule.Rule.{Rule}
use Rattle.ug_lines.specs.Splitting.{IsLine}
use Rattle.ug_print.specs.Words.{rule_text}
use Rattle.ug_print.proofs.Printed.{on_line}
use Rattle.ug_ruleset.specs.Rows.{numbered_row}
use Rattle.ug_ruleset.specs.RuleRows.{mark_text}
use Rattle.ug_ruleset.proofs.RowLines.{marked_line}
use Rattle.ug_ruleset.proofs.rule_list.print_rule_row.Goals as goal

pub returns-clause-one_line : goal.returns-clause-one_line
returns-clause-one_line c = λ well.
    let rule : Rule = c.args.entry.now.rule in
    let mark = c.args.entry.now.mark in
    let text : c.bytes.result.now ≡ rule_text rule = c.bytes.ensures ∙ c.in_ok-rule.ensures.text in
    let line : IsLine c.bytes.result.now = subst IsLine (sym text) (on_line rule well c.in_ok-rule.ensures.bytes) in
    marked_line c.from_vec.result (numbered_row c.args.entry.now.id c.bytes.result.now) mark
    (c.from_vec.ensures ∙ c.in_ok-put_mark.ensures ∙ ap (λ (v : List ℕ). v ++ mark_text mark) c.in_ok-row.ensures.row) (c.in_ok-row.ensures.one_line line)
