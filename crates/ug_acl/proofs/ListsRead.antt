-- A text is a list exactly where it is read as one.
use Rattle.std.proofs.Common.{◌≡◌, ℕ, Bool, true, false, cond, List, [], ◌∷◌, map, Option, Some, None, refl, sym, ap, ◌∙◌}
use Rattle.std.specs.Prelude.{IsTrue, ◌&&◌, ◌||◌, ◌↔◌}
use Rattle.std.specs.List.{list_all, list_any}
use Rattle.std.proofs.lemmas.Bool.{false≢true}
use Rattle.std.proofs.lemmas.Option.{none-some, same_Some}
use Rattle.ug_types.specs.Elements.{Has}
use Rattle.ug_types.specs.declared.access.Section.{Section}
use Rattle.ug_types.specs.declared.access.Privilege.{Privilege}
use Rattle.ug_types.specs.declared.access.Privilege.TheVariants.{Modify, Listen}
use Rattle.ug_types.specs.declared.access.Privilege.TheVariants as privilege
use Rattle.ug_lines.proofs.Trimming as trimming
use Rattle.ug_acl.specs.Grammar.{ArePrivileges}
use Rattle.ug_acl.specs.Lines.{comma_parts, trimmed}
use Rattle.ug_acl.specs.Pairs.{all_pairs, holds_privilege}
use Rattle.ug_acl.specs.Words.{gives, given_by_word, is_any, IsPrivilegeOf}
use Rattle.ug_acl.proofs.Members.{any_map, granted}
use Rattle.ug_acl.proofs.Parts.{parts_found, are_parts}
use Rattle.ug_acl.proofs.PartsRead.{gives_any}
use Rattle.ug_acl.specs.declared.lists.Listed.{Listed}
use Rattle.ug_acl.specs.Lists.{IsList, words_give, given_by_parts, lists_privilege, list_read, part_gives_some}
use Rattle.ug_acl.proofs.UnitedMembers.{both}

module _ (section : Section) where
  some_given : (part : List ℕ) → part_gives_some section part ≡ true → IsPrivilegeOf section (trimmed part)
  some_given part h = by (gives section Modify (trimmed part)) (gives section privilege.List (trimmed part)) (gives section Listen (trimmed part)) refl refl refl h
    where
      by : (a b c : Bool) → gives section Modify (trimmed part) ≡ a → gives section privilege.List (trimmed part) ≡ b → gives section Listen (trimmed part) ≡ c → a || b || c ≡ true → IsPrivilegeOf section (trimmed part)
      by true b c e f g h = (Modify, e)
      by false true c e f g h = (privilege.List, f)
      by false false true e f g h = (Listen, g)
      by false false false e f g h = absurd (false≢true h)

  are_given : (parts : List (List ℕ)) → list_all (part_gives_some section) parts ≡ true → ArePrivileges section parts (map trimmed parts)
  are_given [] h = refl
  are_given (part ∷ parts) h =
      let k = both (part_gives_some section part) (list_all (part_gives_some section) parts) h in
      (trimmed part, map trimmed parts, refl, trimming.text_of part, some_given part k.0, are_given parts k.1)

  -- the words are the parts without their blanks, and each gives something
  words_are : (parts words : List (List ℕ)) → ArePrivileges section parts words → (words ≡ map trimmed parts) × (list_all (part_gives_some section) parts ≡ true)
  words_are [] words h = (h, refl)
  words_are (part ∷ parts) words h =
      let t : trimmed part ≡ h.0 = trimming.text_read part h.0 h.3 in
      let r = words_are parts h.1 h.5 in
      let one : part_gives_some section part ≡ true = ap (λ (w : List ℕ). is_any (given_by_word section w)) t ∙ gives_any section h.0 h.4 in (
        h.2 ∙ ap (λ (w : List ℕ). w ∷ h.1) (sym t) ∙ ap (λ (ws : List (List ℕ)). trimmed part ∷ ws) r.0,
        ap (λ (v : Bool). v && list_all (part_gives_some section) parts) one ∙ r.1,
      )

  given_same : (parts : List (List ℕ)) → words_give section (map trimmed parts) ≡ given_by_parts section parts
  given_same parts =
      let one : (p : Privilege) → list_any (gives section p) (map trimmed parts) ≡ list_any (λ part. gives section p (trimmed part)) parts = λ p. any_map trimmed (gives section p) parts in
      λ i. record { modify = one Modify i; list = one privilege.List i; listen = one Listen i }

  abbrev decided : List (List ℕ) → Bool → Option Listed
  decided parts v = cond v (Some (given_by_parts section parts)) None

  list_is_read : (text : List ℕ) (listed : Listed) → IsList section text listed → list_read section text ≡ Some listed
  list_is_read text listed h =
      let w = words_are h.parts h.words h.are_privileges in
      ap (λ (parts : List (List ℕ)). decided parts (list_all (part_gives_some section) parts)) (parts_found text h.parts h.are_parts)
      ∙ ap (decided h.parts) w.1
      ∙ ap (λ (l : Listed). Some l) (sym (given_same h.parts) ∙ ap (words_give section) (sym w.0) ∙ sym h.gives)

  read_is_list : (text : List ℕ) (listed : Listed) → list_read section text ≡ Some listed → IsList section text listed
  read_is_list text listed h = by (list_all (part_gives_some section) (comma_parts text)) refl h
    where
      by : (v : Bool) → list_all (part_gives_some section) (comma_parts text) ≡ v → decided (comma_parts text) v ≡ Some listed → IsList section text listed
      by true e k = record {
        parts = comma_parts text;
        words = map trimmed (comma_parts text);
        are_parts = are_parts text;
        are_privileges = are_given (comma_parts text) e;
        gives = sym (same_Some (given_by_parts section (comma_parts text)) listed k) ∙ sym (given_same (comma_parts text));
      }
      by false e k = absurd (none-some listed k)

  pub list_law : (text : List ℕ) (listed : Listed) → (list_read section text ≡ Some listed) ↔ IsList section text listed
  list_law text listed = (read_is_list text listed, list_is_read text listed)

  own_word : (p : Privilege) (words : List (List ℕ)) → list_any (gives section p) words ≡ true → holds_privilege all_pairs section p ≡ true
  own_word p [] h = absurd (false≢true h)
  own_word p (word ∷ words) h = by (holds_privilege all_pairs section p) refl
    where
      none : (ws : List (List ℕ)) → holds_privilege all_pairs section p ≡ false → list_any (gives section p) ws ≡ false
      none [] e = refl
      none (w ∷ ws) e = rw e (none ws e)

      by : (v : Bool) → holds_privilege all_pairs section p ≡ v → holds_privilege all_pairs section p ≡ true
      by true e = e
      by false e = absurd (false≢true (sym (none (word ∷ words) e) ∙ h))

  pub own : (text : List ℕ) (listed : Listed) (p : Privilege) → IsList section text listed → IsTrue (lists_privilege listed p) → Has all_pairs (section, p)
  own text listed p h e = (granted all_pairs section p).0 (by p (ap (λ (l : Listed). lists_privilege l p) (sym h.gives) ∙ e))
    where
      by : (q : Privilege) → lists_privilege (words_give section h.words) q ≡ true → holds_privilege all_pairs section q ≡ true
      by Modify k = own_word Modify h.words k
      by privilege.List k = own_word privilege.List h.words k
      by Listen k = own_word Listen h.words k
