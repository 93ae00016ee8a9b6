-- The ids of rules.
use Rattle.std.proofs.Common.{◌≡◌, ℕ, ◌∷◌, ◌++◌, [], List, sym, ap, ◌∙◌, subst, inl, inr}
use Rattle.ug_types.specs.Elements.{Has, AllDistinct}
use Rattle.ug_policy.specs.declared.entry.RuleEntry.{RuleEntry}
use Rattle.ug_policy.specs.Rules.{ids}
use Rattle.ug_types.proofs.Elements.{has_right}

pub has_ids : (es : List RuleEntry) (e : RuleEntry) → Has es e → Has (ids es) e.id
has_ids [] e h = absurd h
has_ids (f ∷ es) e (inl same) = inl (ap (λ (v : RuleEntry). v.id) same)
has_ids (f ∷ es) e (inr h) = inr (has_ids es e h)

pub ids_right : (es fs : List RuleEntry) (id : ℕ) → Has (ids fs) id → Has (ids (es ++ fs)) id
ids_right [] fs id h = h
ids_right (e ∷ es) fs id h = inr (ids_right es fs id h)

-- rules of two parts of a list have different ids
pub ids_apart : (es fs : List RuleEntry) (e f : RuleEntry) → AllDistinct (ids (es ++ fs)) → Has es e → Has fs f → e.id ≡ f.id → ⊥
ids_apart [] fs e f d a b same = a
ids_apart (g ∷ es) fs e f d (inl here) b same = d.0 (subst (λ v. Has (ids (es ++ fs)) v) (sym (ap (λ (v : RuleEntry). v.id) here ∙ same)) (has_ids (es ++ fs) f (has_right es fs f b)))
ids_apart (g ∷ es) fs e f d (inr a) b same = ids_apart es fs e f d.1 a b same

-- one id is that of one rule
pub same_entry : (es : List RuleEntry) (e f : RuleEntry) → AllDistinct (ids es) → Has es e → Has es f → e.id ≡ f.id → e ≡ f
same_entry [] e f d a b same = absurd a
same_entry (g ∷ es) e f d (inl a) (inl b) same = sym a ∙ b
same_entry (g ∷ es) e f d (inl a) (inr b) same = absurd (d.0 (subst (λ v. Has (ids es) v) (sym (ap (λ (v : RuleEntry). v.id) a ∙ same)) (has_ids es f b)))
same_entry (g ∷ es) e f d (inr a) (inl b) same = absurd (d.0 (subst (λ v. Has (ids es) v) (same ∙ sym (ap (λ (v : RuleEntry). v.id) b)) (has_ids es e a)))
same_entry (g ∷ es) e f d (inr a) (inr b) same = same_entry es e f d.1 a b same
