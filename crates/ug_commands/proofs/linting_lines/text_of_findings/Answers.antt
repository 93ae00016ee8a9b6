use Rattle.std.proofs.Common.{ℕ, List, [], ◌++◌, get_or, take, sym, ap, ◌∙◌}
use Rattle.std.specs.List.{flat_map}
use Rattle.std.proofs.lemmas.List.{flat_map_more, take_all, take_more}
use Rattle.ug_lint.specs.declared.finding.Finding.{Finding}
use Rattle.ug_lint.specs.declared.finding.Finding.TheVariants.{Covered}
use Rattle.ug_commands.specs.LintingLines.{finding_line}
use Rattle.ug_commands.proofs.linting_lines.text_of_findings.Goals as goal

pub loop-finding-preserved : goal.loop-finding-preserved
loop-finding-preserved c =
    let text : List ℕ = c.loop-finding.text.items in
    let found : List Finding = c.args.found.now in
    let i : ℕ = c.loop-finding.finding-index in
    let here : Finding = get_or found i (Covered 0 0) in
    c.in_ok-push_line.ensures ∙ ap (λ (line : List ℕ). text ++ line) c.line_of_finding.ensures
    ∙ ap (λ (t : List ℕ). t ++ finding_line here) c.loop-finding.invariant
    ∙ flat_map_more finding_line [] (take i found) here
    ∙ ap (flat_map finding_line) (sym (take_more found i (Covered 0 0) c.loop-finding-test.true))

pub returns : goal.returns
returns c =
    c.from_vec.ensures ∙ c.in_ok-push_line-2.ensures
    ∙ ap (λ (text : List ℕ). text ++ c.line_of_findings.result) (c.loop-finding.invariant ∙ ap (flat_map finding_line) (take_all c.loop-finding.finding-index c.args.found.now c.loop-finding-test.false))
    ∙ ap (λ (line : List ℕ). flat_map finding_line c.args.found.now ++ line) c.line_of_findings.ensures
