use Rattle.std.proofs.Common.{◌≡◌, ◌++◌, List, take, sym, subst, ◌∙◌}
use Rattle.std.proofs.lemmas.List.{append-nil, at_drop_all}
use Rattle.ug_types.specs.Elements.{Has}
use Rattle.ug_types.specs.declared.rule.Rule.{Rule}
use Rattle.ug_lint.specs.declared.finding.Finding.{Finding}
use Rattle.ug_lint.specs.Findings.{findings, findings_behind}
use Rattle.ug_lint.proofs.Deciders.{never_decides}
use Rattle.ug_lint.proofs.FilledRules.{are_filled}
use Rattle.ug_lint.proofs.linting.lint.Goals as goal

pub returns-clause-never_decides : goal.returns-clause-never_decides
returns-clause-never_decides c = λ finding h.
    let rules = c.args.rules.now in
    let found = c.loop-place.found.items in
    let front = take c.loop-place.place rules in
    let whole : found ≡ findings rules =
    sym (append-nil found)
    ∙ sym (at_drop_all (λ (v : List Rule). found ++ findings_behind front v) rules c.loop-place.place c.loop-place-test.false)
    ∙ c.loop-place.invariant in
    never_decides rules finding (are_filled rules c.requires.well_formed) (subst (λ (v : List Finding). Has v finding) whole h)
