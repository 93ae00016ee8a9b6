use Rattle.std.proofs.Common.{ℕ, List, [], ◌∷◌, ◌++◌, ◌∙◌, ap, append_assoc}
use Rattle.ug_print.specs.Words.{rule_text}
use Rattle.ug_generate.proofs.text.push_line.Goals as goal

pub returns : goal.returns
returns c =
    c.in_ok-push.ensures.items
    ∙ ap (λ (text : List ℕ). text ++ 10 ∷ [])
    (c.in_ok-extend_from_slice.ensures.items ∙ ap (λ (line : List ℕ). c.args.text.now.items ++ line) (c.bytes.ensures ∙ c.in_ok-line.ensures.text))
    ∙ append_assoc c.args.text.now.items (rule_text c.args.rule.now) (10 ∷ [])
