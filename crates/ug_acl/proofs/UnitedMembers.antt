-- Which pairs are among those that pass a test.
use Rattle.std.proofs.Common.{◌≡◌, Bool, true, false, refl, sym, ap, ◌∙◌}
use Rattle.std.specs.Prelude.{IsTrue, ◌&&◌, ◌↔◌}
use Rattle.std.specs.List.{filter}
use Rattle.std.proofs.lemmas.Bool.{false≢true}
use Rattle.ug_types.specs.Elements.{Has}
use Rattle.ug_types.specs.declared.access.Section.{Section}
use Rattle.ug_types.specs.declared.access.Privilege.{Privilege}
use Rattle.ug_acl.specs.Pairs.{Pair, all_pairs, holds_privilege}
use Rattle.ug_acl.proofs.Members.{granted, kept_held}

pub both : (a b : Bool) → a && b ≡ true → (a ≡ true) × (b ≡ true)
both true b h = (refl, h)
both false b h = absurd (false≢true h)

module _ (kept : Pair → Bool) (section : Section) (p : Privilege) where
  -- a pair that passes is there where there is such a pair
  pub there : (here : Bool) → here ≡ holds_privilege all_pairs section p → kept (section, p) ≡ true → here ≡ holds_privilege (filter kept all_pairs) section p
  there here e k = e ∙ ap (λ (v : Bool). v && holds_privilege all_pairs section p) (sym k) ∙ sym (kept_held kept section p)

  pub not_there : (here : Bool) → here ≡ false → kept (section, p) ≡ here → here ≡ holds_privilege (filter kept all_pairs) section p
  not_there here e k = e ∙ ap (λ (v : Bool). v && holds_privilege all_pairs section p) (sym (k ∙ e)) ∙ sym (kept_held kept section p)

  has_passed : Has (filter kept all_pairs) (section, p) → IsTrue (kept (section, p)) × Has all_pairs (section, p)
  has_passed h =
      let k = both (kept (section, p)) (holds_privilege all_pairs section p) (sym (kept_held kept section p) ∙ (granted (filter kept all_pairs) section p).1 h) in
      (k.0, (granted all_pairs section p).0 k.1)

  passed_has : IsTrue (kept (section, p)) × Has all_pairs (section, p) → Has (filter kept all_pairs) (section, p)
  passed_has h = (granted (filter kept all_pairs) section p).0
      (kept_held kept section p ∙ ap (λ (v : Bool). v && holds_privilege all_pairs section p) h.0 ∙ (granted all_pairs section p).1 h.1)

  pub passed : Has (filter kept all_pairs) (section, p) ↔ (IsTrue (kept (section, p)) × Has all_pairs (section, p))
  passed = (has_passed, passed_has)
