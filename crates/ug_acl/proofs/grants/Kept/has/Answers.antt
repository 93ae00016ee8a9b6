use Rattle.std.proofs.Common.{◌≡◌, Bool, true, false, sym, ap, ◌∙◌}
use Rattle.std.specs.Prelude.{◌&&◌}
use Rattle.ug_acl.specs.Kept.{kept_in}
use Rattle.ug_acl.specs.Pairs.{Pair, all_pairs, holds_privilege}
use Rattle.ug_acl.specs.Words.{has_privilege}
use Rattle.ug_acl.proofs.Members.{kept_held}
use Rattle.ug_acl.proofs.grants.Kept.has.Goals as goal

pub returns-then-has : goal.returns-then-has
returns-then-has c =
    let kept : Pair → Bool = λ pair. has_privilege (kept_in c.args.self.now pair.0) pair.1 in
    let here : kept (c.args.section, c.args.privilege) ≡ true = ap (λ p. has_privilege p c.args.privilege) (sym c.in_section.ensures) ∙ sym c.has.ensures ∙ c.if-has.true in
    c.is_privilege.ensures
    ∙ ap (λ (v : Bool). v && holds_privilege all_pairs c.args.section c.args.privilege) (sym here)
    ∙ sym (kept_held kept c.args.section c.args.privilege)

pub returns-else-has : goal.returns-else-has
returns-else-has c =
    let kept : Pair → Bool = λ pair. has_privilege (kept_in c.args.self.now pair.0) pair.1 in
    let here : kept (c.args.section, c.args.privilege) ≡ false = ap (λ p. has_privilege p c.args.privilege) (sym c.in_section.ensures) ∙ sym c.has.ensures ∙ c.if-has.false in
    c.if-has.false
    ∙ ap (λ (v : Bool). v && holds_privilege all_pairs c.args.section c.args.privilege) (sym here)
    ∙ sym (kept_held kept c.args.section c.args.privilege)
