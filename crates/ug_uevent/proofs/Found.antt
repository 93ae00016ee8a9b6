-- What was found is what the strings so far set.
use Rattle.std.proofs.Common.{◌≡◌, ◌⊎◌, inl, inr, ℕ, ◌<◌, ◌^◌, Bool, true, false, List, [], ◌∷◌, ◌++◌, Some, refl, sym, ap, subst, ◌∙◌, ◌↔◌}
use Rattle.std.specs.Prelude.{decimal}
use Rattle.std.proofs.lemmas.Option.{none-some, same_Some}
use Rattle.ug_types.proofs.Elements.{has_left, has_right, has_cases}
use Rattle.ug_lines.specs.Numbers.{number_in}
use Rattle.ug_lines.proofs.Numerals.{is_number, number_found}
use Rattle.ug_uevent.specs.Grammar.{IsPair, IsKeyValue, key_word, SetsField, IsFieldSet, usb}
use Rattle.ug_uevent.specs.Reading.{field_of, is_usb, nothing, is_field_set}
use Rattle.ug_uevent.specs.declared.fields.Field.{Field}
use Rattle.ug_uevent.specs.declared.fields.Field.TheVariants as field
use Rattle.ug_uevent.specs.declared.fields.Found.{Found}
use Rattle.ug_uevent.proofs.Cuts.{one_cut}
use Rattle.ug_uevent.proofs.Settings.{word_read, usb_read, usb_so}

pub one_pair : (sign : ℕ) (text front back front' back' : List ℕ) → IsPair sign text front back → IsPair sign text front' back' → (front ≡ front') × (back ≡ back')
one_pair sign text front back front' back' p q = one_cut sign text front back front' back' p.cut q.cut

-- no two fields have one word
pub one_word : (f g : Field) → key_word f ≡ key_word g → f ≡ g
one_word f g e = same_Some f g (sym (word_read f) ∙ ap field_of e ∙ word_read g)

-- what is set by some strings and one more
sets_front : (before : List (List ℕ)) (text : List ℕ) (f : Field) (v : List ℕ) → SetsField before f v → SetsField (before ++ text ∷ []) f v
sets_front before text f v s = (s.0, has_left before (text ∷ []) s.0 s.1, s.2)

sets_last : (before : List (List ℕ)) (text : List ℕ) (f : Field) (v : List ℕ) → IsKeyValue text (key_word f) v → SetsField (before ++ text ∷ []) f v
sets_last before text f v s = (text, has_right before (text ∷ []) text (inl refl), s)

sets_cases : (before : List (List ℕ)) (text : List ℕ) (f : Field) (v : List ℕ) → SetsField (before ++ text ∷ []) f v → SetsField before f v ⊎ IsKeyValue text (key_word f) v
sets_cases before text f v s = elim (has_cases before (text ∷ []) s.0 s.1) [
  | inl h ↦ inl (s.0, h, s.2)
  | inr h ↦ elim h [ inl e ↦ inr (subst (λ (t : List ℕ). IsKeyValue t (key_word f) v) (sym e) s.2) | inr none ↦ absurd none ]
]

-- whether the strings so far set a field
abbrev pub SetSo : List (List ℕ) → Field → Bool → Type 0
SetSo before f v = ((v ≡ true) × IsFieldSet before f) ⊎ ((v ≡ false) × (IsFieldSet before f → ⊥))

pub record Stands (before : List (List ℕ)) (found : Found) : Type 0 where
  pub set : (f : Field) → SetSo before f (is_field_set found f)
  pub usb_is : (found.usb ≡ true) ↔ SetsField before field.Subsystem usb
  pub seq_is : (n : ℕ) → (found.seq ≡ Some n) ↔ (SetsField before field.Number (decimal n) × (n < 2 ^ 64))

pub nothing_stands : Stands [] nothing
nothing_stands = record {
  set = λ f. elim f as (λ g. SetSo [] g (is_field_set nothing g)) [
    | field.Action ↦ inr (refl, λ s. s.1.1)
    | field.Path ↦ inr (refl, λ s. s.1.1)
    | field.Subsystem ↦ inr (refl, λ s. s.1.1)
    | field.Number ↦ inr (refl, λ s. s.1.1)
  ];
  usb_is = (λ e. let none : ⊥ = cc in absurd none, λ s. absurd s.1);
  seq_is = λ n. (λ e. absurd (none-some n e), λ s. absurd s.0.1);
}

-- a field that another string doesn't set
module _ (before : List (List ℕ)) (text key value : List ℕ) (s : IsKeyValue text key value) where
  abbrev more : List (List ℕ)
  more = before ++ text ∷ []

  sets_kept : (g : Field) (v : List ℕ) → (key ≡ key_word g → ⊥) → SetsField more g v → SetsField before g v
  sets_kept g v h k = elim (sets_cases before text g v k) [
    | inl a ↦ a
    | inr b ↦ absurd (h (one_pair 61 text key value (key_word g) v s b).0)
  ]

  set_kept : (g : Field) (v : Bool) → (key ≡ key_word g → ⊥) → SetSo before g v → SetSo more g v
  set_kept g v h (inl a) = inl (a.0, (a.1.0, sets_front before text g a.1.0 a.1.1))
  set_kept g v h (inr b) = inr (b.0, λ k. b.1 (k.0, sets_kept g k.0 h k.1))

  usb_kept : (found : Found) → (key ≡ key_word field.Subsystem → ⊥) → Stands before found → (found.usb ≡ true) ↔ SetsField more field.Subsystem usb
  usb_kept found h st = (λ e. sets_front before text field.Subsystem usb (st.usb_is.0 e), λ k. st.usb_is.1 (sets_kept field.Subsystem usb h k))

  seq_kept : (found : Found) → (key ≡ key_word field.Number → ⊥) → Stands before found → (n : ℕ) → (found.seq ≡ Some n) ↔ (SetsField more field.Number (decimal n) × (n < 2 ^ 64))
  seq_kept found h st n = (
    λ e. let k = (st.seq_is n).0 e in (sets_front before text field.Number (decimal n) k.0, k.1),
    λ k. (st.seq_is n).1 (sets_kept field.Number (decimal n) h k.0, k.1),
  )

-- a string with another key sets nothing
pub stands_other : (before : List (List ℕ)) (found : Found) (text key value : List ℕ) → IsKeyValue text key value → ((f : Field) → key ≡ key_word f → ⊥) → Stands before found → Stands (before ++ text ∷ []) found
stands_other before found text key value s h st = record {
  set = λ f. set_kept before text key value s f (is_field_set found f) (h f) (st.set f);
  usb_is = usb_kept before text key value s found (h field.Subsystem) st;
  seq_is = seq_kept before text key value s found (h field.Number) st;
}

-- a string that sets a field
module _ (before : List (List ℕ)) (found : Found) (text value : List ℕ) (st : Stands before found) where
  abbrev later : List (List ℕ)
  later = before ++ text ∷ []

  kept : (f g : Field) → IsKeyValue text (key_word f) value → (f ≡ g → ⊥) → SetSo later g (is_field_set found g)
  kept f g s h = set_kept before text (key_word f) value s g (is_field_set found g) (λ e. h (one_word f g e)) (st.set g)

  now : (f : Field) → IsKeyValue text (key_word f) value → SetSo later f true
  now f s = inl (refl, (value, sets_last before text f value s))

  pub stands_action : IsKeyValue text (key_word field.Action) value → Stands later (record found { action = true })
  stands_action s = record {
    set = λ g. elim g as (λ g. SetSo later g (is_field_set (record found { action = true }) g)) [
      | field.Action ↦ now field.Action s
      | field.Path ↦ kept field.Action field.Path s (λ e. let none : ⊥ = cc in none)
      | field.Subsystem ↦ kept field.Action field.Subsystem s (λ e. let none : ⊥ = cc in none)
      | field.Number ↦ kept field.Action field.Number s (λ e. let none : ⊥ = cc in none)
    ];
    usb_is = usb_kept before text (key_word field.Action) value s found (λ e. let k = one_word field.Action field.Subsystem e in let none : ⊥ = cc in none) st;
    seq_is = seq_kept before text (key_word field.Action) value s found (λ e. let k = one_word field.Action field.Number e in let none : ⊥ = cc in none) st;
  }

  pub stands_path : IsKeyValue text (key_word field.Path) value → Stands later (record found { path = true })
  stands_path s = record {
    set = λ g. elim g as (λ g. SetSo later g (is_field_set (record found { path = true }) g)) [
      | field.Action ↦ kept field.Path field.Action s (λ e. let none : ⊥ = cc in none)
      | field.Path ↦ now field.Path s
      | field.Subsystem ↦ kept field.Path field.Subsystem s (λ e. let none : ⊥ = cc in none)
      | field.Number ↦ kept field.Path field.Number s (λ e. let none : ⊥ = cc in none)
    ];
    usb_is = usb_kept before text (key_word field.Path) value s found (λ e. let k = one_word field.Path field.Subsystem e in let none : ⊥ = cc in none) st;
    seq_is = seq_kept before text (key_word field.Path) value s found (λ e. let k = one_word field.Path field.Number e in let none : ⊥ = cc in none) st;
  }

  pub stands_subsystem : IsKeyValue text (key_word field.Subsystem) value → (IsFieldSet before field.Subsystem → ⊥) → Stands later (record found { subsystem = true; usb = is_usb value })
  stands_subsystem s first = record {
    set = λ g. elim g as (λ g. SetSo later g (is_field_set (record found { subsystem = true; usb = is_usb value }) g)) [
      | field.Action ↦ kept field.Subsystem field.Action s (λ e. let none : ⊥ = cc in none)
      | field.Path ↦ kept field.Subsystem field.Path s (λ e. let none : ⊥ = cc in none)
      | field.Subsystem ↦ now field.Subsystem s
      | field.Number ↦ kept field.Subsystem field.Number s (λ e. let none : ⊥ = cc in none)
    ];
    usb_is = (
      λ e. sets_last before text field.Subsystem usb (subst (IsKeyValue text (key_word field.Subsystem)) (usb_read value e) s),
      λ k. elim (sets_cases before text field.Subsystem usb k) [
        | inl a ↦ absurd (first (usb, a))
        | inr b ↦ usb_so value (one_pair 61 text (key_word field.Subsystem) value (key_word field.Subsystem) usb s b).1
      ],
    );
    seq_is = seq_kept before text (key_word field.Subsystem) value s found (λ e. let k = one_word field.Subsystem field.Number e in let none : ⊥ = cc in none) st;
  }

  pub stands_number : (m : ℕ) → IsKeyValue text (key_word field.Number) value → (IsFieldSet before field.Number → ⊥) → number_in value ≡ Some m → Stands later (record found { seq = Some m })
  stands_number m s first r = record {
    set = λ g. elim g as (λ g. SetSo later g (is_field_set (record found { seq = Some m }) g)) [
      | field.Action ↦ kept field.Number field.Action s (λ e. let none : ⊥ = cc in none)
      | field.Path ↦ kept field.Number field.Path s (λ e. let none : ⊥ = cc in none)
      | field.Subsystem ↦ kept field.Number field.Subsystem s (λ e. let none : ⊥ = cc in none)
      | field.Number ↦ now field.Number s
    ];
    usb_is = usb_kept before text (key_word field.Number) value s found (λ e. let k = one_word field.Number field.Subsystem e in let none : ⊥ = cc in none) st;
    seq_is = λ n. (
      λ e.
          let k = number_found value n (r ∙ e) in
          (sets_last before text field.Number (decimal n) (subst (IsKeyValue text (key_word field.Number)) k.0 s), k.1),
      λ k. elim (sets_cases before text field.Number (decimal n) k.0) [
        | inl a ↦ absurd (first (decimal n, a))
        | inr b ↦
            let same : value ≡ decimal n = (one_pair 61 text (key_word field.Number) value (key_word field.Number) (decimal n) s b).1 in
            sym r ∙ is_number value n k.1 same
      ],
    );
  }
