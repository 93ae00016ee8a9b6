use Rattle.std.proofs.Common.{◌≡◌, ℕ, zero, suc, ◌<◌, List, [], ◌∷◌, get_or, length, inl, inr, sym, ap, subst, ◌∙◌, arith}
use Rattle.ug_types.specs.Elements.{Has}
use Rattle.ug_policy.specs.Rules.{ids}
use Rattle.ug_policy.specs.declared.entry.RuleEntry.{RuleEntry}
use Rattle.ug_cases.proofs.session.has_rule.Goals as goal

has_at : (rules : List RuleEntry) (i : ℕ) (e : RuleEntry) → i < length rules → e ≡ get_or rules i e → Has (ids rules) e.id
has_at [] i e within is = absurd (omega arith)
has_at (x ∷ rules) zero e within is = inl (sym (ap (λ (y : RuleEntry). y.id) is))
has_at (x ∷ rules) (suc i) e within is = inr (has_at rules i e (omega arith) is)

pub returns-then-entry-id : goal.returns-then-entry-id
returns-then-entry-id c =
    let here : Has (ids c.args.rules.now) c.entry-item.result.id = has_at c.args.rules.now c.loop-entry.entry-index c.entry-item.result (omega arith) c.entry-item.is in
    subst (λ (id : ℕ). Has (ids c.args.rules.now) id) (omega arith) here
