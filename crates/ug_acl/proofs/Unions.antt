-- What a united text reads as.
use Rattle.std.proofs.Common.{◌≡◌, ℕ, ◌⊎◌, inl, inr, Bool, true, false, List, Ok, refl, ap, subst, ◌∙◌}
use Rattle.std.specs.Prelude.{IsTrue, ◌||◌, ◌↔◌}
use Rattle.ug_types.specs.Elements.{Has}
use Rattle.ug_types.specs.declared.access.Section.{Section}
use Rattle.ug_types.specs.declared.access.Privilege.{Privilege}
use Rattle.ug_acl.specs.Pairs.{Pair, all_pairs, holds_privilege}
use Rattle.ug_acl.specs.Texts.{access_read, grants_privilege}
use Rattle.ug_acl.proofs.Members.{granted}
use Rattle.ug_acl.proofs.Printing.{reads_back}
use Rattle.ug_acl.proofs.Saying.{says}
use Rattle.ug_acl.specs.declared.asked.Asked.{Asked}
use Rattle.ug_acl.specs.Adding.{IsUnited}
use Rattle.ug_acl.specs.Asking.{listed_in, pairs_asked, united}
use Rattle.ug_acl.specs.Lists.{lists_privilege}
use Rattle.ug_acl.proofs.UnitedMembers.{passed}

pub reads : (asked : Asked) (bytes text : List ℕ) → IsUnited asked bytes text → (before : List Pair) × (access_read bytes ≡ Ok before) × (access_read text ≡ Ok (united before (pairs_asked asked)))
reads asked bytes text h = (h.0, h.1, ap access_read h.2 ∙ reads_back (λ pair. holds_privilege h.0 pair.0 pair.1 || holds_privilege (pairs_asked asked) pair.0 pair.1))

either : (a b : Bool) → a || b ≡ true → (a ≡ true) ⊎ (b ≡ true)
either true b h = inl refl
either false b h = inr h

first_of : (a b : Bool) → a ≡ true → a || b ≡ true
first_of a b h = ap (λ (v : Bool). v || b) h

second_of : (a b : Bool) → b ≡ true → a || b ≡ true
second_of true b h = refl
second_of false b h = h

module _ (section : Section) (p : Privilege) where
  -- the privileges of a text and those that are asked for are privileges that there are
  text_own : (bytes : List ℕ) (before : List Pair) → access_read bytes ≡ Ok before → Has before (section, p) → Has all_pairs (section, p)
  text_own bytes before e h =
      let s = (says bytes before).0 e in
      ((passed (λ pair. grants_privilege s.given pair.0 pair.1) section p).0 (subst (λ (pairs : List Pair). Has pairs (section, p)) s.is h)).1

  pub asked_for : (asked : Asked) → Has (pairs_asked asked) (section, p) ↔ (IsTrue (lists_privilege (listed_in asked section) p) × Has all_pairs (section, p))
  asked_for asked = passed (λ pair. lists_privilege (listed_in asked pair.0) pair.1) section p

  module _ (before : List Pair) (asked : Asked) where
    abbrev more : List Pair
    more = pairs_asked asked

    in_either : Has (united before more) (section, p) → Has before (section, p) ⊎ Has more (section, p)
    in_either h = elim (either (holds_privilege before section p) (holds_privilege more section p) ((passed (λ pair. holds_privilege before pair.0 pair.1 || holds_privilege more pair.0 pair.1) section p).0 h).0) [
      | inl e ↦ inl ((granted before section p).0 e)
      | inr e ↦ inr ((granted more section p).0 e)
    ]

    in_union : holds_privilege before section p || holds_privilege more section p ≡ true → Has all_pairs (section, p) → Has (united before more) (section, p)
    in_union e h = (passed (λ pair. holds_privilege before pair.0 pair.1 || holds_privilege more pair.0 pair.1) section p).1 (e, h)

    pub just : (bytes : List ℕ) → access_read bytes ≡ Ok before → Has (united before more) (section, p) ↔ (Has before (section, p) ⊎ Has more (section, p))
    just bytes e = (
      in_either,
      λ h. elim h [
        | inl k ↦ in_union (first_of (holds_privilege before section p) (holds_privilege more section p) ((granted before section p).1 k)) (text_own bytes before e k)
        | inr k ↦ in_union (second_of (holds_privilege before section p) (holds_privilege more section p) ((granted more section p).1 k)) ((asked_for asked).0 k).1
      ],
    )
