use Rattle.std.proofs.Common.{ℕ, List, [], ◌∷◌, ◌++◌, ap, append_assoc, ◌∙◌}
use Rattle.ug_print.specs.Words.{rule_text}
use Rattle.ug_commands.proofs.rule_lines.push_rule.Goals as goal

pub returns-clause-line : goal.returns-clause-line
returns-clause-line c =
    let before : List ℕ = c.args.text.now.items in
    c.in_ok-push.ensures.items
    ∙ ap (λ (text : List ℕ). text ++ 10 ∷ []) (c.in_ok-extend_from_slice.ensures.items ∙ ap (λ (line : List ℕ). before ++ line) (c.bytes.ensures ∙ c.in_ok-line.ensures.text))
    ∙ append_assoc before (rule_text c.args.rule.now) (10 ∷ [])

pub returns-clause-bytes : goal.returns-clause-bytes
returns-clause-bytes c = c.in_ok-line.ensures.bytes
