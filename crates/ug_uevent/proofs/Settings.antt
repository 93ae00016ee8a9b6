-- Keys and the words that they are.
use Rattle.std.proofs.Common.{◌≡◌, ◌⊎◌, inl, inr, ℕ, Bool, true, false, cond, nat_eq, List, Some, None, refl, sym, ap, subst, ◌∙◌}
use Rattle.std.specs.Prelude.{codes}
use Rattle.std.specs.Cmp.Lexicographic.{pointwise, same_text}
use Rattle.ug_lines.proofs.Numerals.{text_itself}
use Rattle.ug_uevent.specs.Grammar.{key_word, action_word, usb, IsAction}
use Rattle.ug_uevent.specs.Reading.{field_of, action_of, is_usb}
use Rattle.ug_uevent.specs.declared.fields.Field.{Field}
use Rattle.ug_uevent.specs.declared.fields.Field.TheVariants as field
use Rattle.ug_uevent.specs.declared.hint.Action.{Action}
use Rattle.ug_uevent.specs.declared.hint.Action.TheVariants as action

pub is_same : (a b : List ℕ) → pointwise nat_eq a b ≡ true → a ≡ b
is_same a b e = same_text a b (sym e)

pub same_so : (a b : List ℕ) → a ≡ b → pointwise nat_eq a b ≡ true
same_so a b e = subst (λ (t : List ℕ). pointwise nat_eq a t ≡ true) e (text_itself a)

pub differs_so : (a b : List ℕ) → (a ≡ b → ⊥) → pointwise nat_eq a b ≡ false
differs_so a b h = by (pointwise nat_eq a b) refl
  where
    by : (v : Bool) → pointwise nat_eq a b ≡ v → pointwise nat_eq a b ≡ false
    by true e = absurd (h (is_same a b e))
    by false e = e

pub is_other : (a b : List ℕ) → pointwise nat_eq a b ≡ false → a ≡ b → ⊥
is_other a b e h = let s : pointwise nat_eq a b ≡ true = same_so a b h in let none : ⊥ = cc in none

-- the field of each key's word
pub word_read : (f : Field) → field_of (key_word f) ≡ Some f
unfolding field_of key_word
word_read field.Action = refl
word_read field.Path = refl
word_read field.Subsystem = refl
word_read field.Number = refl

pub key_read : (key : List ℕ) (f : Field) → key ≡ key_word f → field_of key ≡ Some f
key_read key f e = ap field_of e ∙ word_read f

-- a key is one of the words, or none
pub known_or_other : (key : List ℕ) → ((f : Field) × (key ≡ key_word f)) ⊎ ((field_of key ≡ None) × ((f : Field) → key ≡ key_word f → ⊥))
unfolding field_of key_word
known_or_other key = by (pointwise nat_eq key (codes "ACTION")) (pointwise nat_eq key (codes "DEVPATH")) (pointwise nat_eq key (codes "SUBSYSTEM")) (pointwise nat_eq key (codes "SEQNUM")) refl refl refl refl
  where
    Goal : Type 0
    Goal = ((f : Field) × (key ≡ key_word f)) ⊎ ((field_of key ≡ None) × ((f : Field) → key ≡ key_word f → ⊥))

    by : (a d s n : Bool) → pointwise nat_eq key (codes "ACTION") ≡ a → pointwise nat_eq key (codes "DEVPATH") ≡ d → pointwise nat_eq key (codes "SUBSYSTEM") ≡ s → pointwise nat_eq key (codes "SEQNUM") ≡ n → Goal
    by true d s n ea ed es en = inl (field.Action, is_same key (codes "ACTION") ea)
    by false true s n ea ed es en = inl (field.Path, is_same key (codes "DEVPATH") ed)
    by false false true n ea ed es en = inl (field.Subsystem, is_same key (codes "SUBSYSTEM") es)
    by false false false true ea ed es en = inl (field.Number, is_same key (codes "SEQNUM") en)
    by false false false false ea ed es en = inr (
      rw (ea, ed, es, en) refl,
      λ f. elim f as (λ g. key ≡ key_word g → ⊥) [
        | field.Action ↦ is_other key (codes "ACTION") ea
        | field.Path ↦ is_other key (codes "DEVPATH") ed
        | field.Subsystem ↦ is_other key (codes "SUBSYSTEM") es
        | field.Number ↦ is_other key (codes "SEQNUM") en
      ],
    )

pub usb_read : (value : List ℕ) → is_usb value ≡ true → value ≡ usb
unfolding is_usb usb
usb_read value e = is_same value (codes "usb") e

pub usb_so : (value : List ℕ) → value ≡ usb → is_usb value ≡ true
unfolding is_usb usb
usb_so value e = same_so value (codes "usb") e

-- an action is its word's
pub action_read : (word : List ℕ) → IsAction word (action_of word)
unfolding action_of action_word
action_read word = by (pointwise nat_eq word (codes "add")) (pointwise nat_eq word (codes "remove")) (pointwise nat_eq word (codes "change")) refl refl refl
  where
    by : (a r c : Bool) → pointwise nat_eq word (codes "add") ≡ a → pointwise nat_eq word (codes "remove") ≡ r → pointwise nat_eq word (codes "change") ≡ c
        → IsAction word (cond a action.Add (cond r action.Remove (cond c action.Change action.Other)))
    by true r c ea er ec = is_same word (codes "add") ea
    by false true c ea er ec = is_same word (codes "remove") er
    by false false true ea er ec = is_same word (codes "change") ec
    by false false false ea er ec = (is_other word (codes "add") ea, is_other word (codes "remove") er, is_other word (codes "change") ec)

pub action_only : (word : List ℕ) (a : Action) → IsAction word a → action_of word ≡ a
unfolding action_of action_word
action_only word action.Add h = ap action_of h
action_only word action.Remove h = ap action_of h
action_only word action.Change h = ap action_of h
action_only word action.Other h =
    let a : pointwise nat_eq word (codes "add") ≡ false = differs_so word (codes "add") h.0 in
    let r : pointwise nat_eq word (codes "remove") ≡ false = differs_so word (codes "remove") h.1 in
    let c : pointwise nat_eq word (codes "change") ≡ false = differs_so word (codes "change") h.2 in
    rw (a, r, c) refl
