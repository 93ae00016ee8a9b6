-- The strings of a message are the only ones that it splits into.
use Rattle.std.proofs.Common.{◌≡◌, inl, inr, ℕ, suc, ◌+◌, ◌<◌, Bool, true, false, cond, nat_eq, List, [], ◌∷◌, ◌++◌, length, take, drop, refl, sym, ap, subst, ◌∙◌, arith}
use Rattle.ug_types.specs.Elements.{Has}
use Rattle.ug_uevent.specs.Cuts.{length_before}
use Rattle.ug_uevent.specs.Grammar.{AreStrings, Nothing, Open, Closed}
use Rattle.ug_uevent.specs.Reading.{string_in_front, strings_of}
use Rattle.ug_uevent.proofs.Cuts.{same_byte, other_byte, tested, at_head, behind_head}

pub of_nothing : strings_of [] ≡ []
unfolding strings_of
of_nothing = refl

of_zero : (b : ℕ) (bytes : List ℕ) → nat_eq b 0 ≡ true → strings_of (b ∷ bytes) ≡ [] ∷ strings_of bytes
unfolding strings_of
of_zero b bytes e = ap (λ (v : Bool). cond v ([] ∷ strings_of bytes) (string_in_front b (strings_of bytes))) e

of_byte : (b : ℕ) (bytes : List ℕ) → nat_eq b 0 ≡ false → strings_of (b ∷ bytes) ≡ string_in_front b (strings_of bytes)
unfolding strings_of
of_byte b bytes e = ap (λ (v : Bool). cond v ([] ∷ strings_of bytes) (string_in_front b (strings_of bytes))) e

-- the first string, and those behind it
abbrev pub first_of : List ℕ → List ℕ
first_of message = take (length_before 0 message) message

abbrev pub behind_first : List ℕ → List ℕ
behind_first message = drop (length_before 0 message + 1) message

abbrev Split : List ℕ → ℕ → Type 0
Split message n = strings_of message ≡ take n message ∷ strings_of (drop (n + 1) message)

longer : (b : ℕ) (bytes : List ℕ) (n : ℕ) → nat_eq b 0 ≡ false → Split bytes n → Split (b ∷ bytes) (suc n)
longer b bytes n e h =
    let k : suc n + 1 ≡ suc (n + 1) = omega arith in
    let d : drop (suc n + 1) (b ∷ bytes) ≡ drop (n + 1) bytes = ap (λ (m : ℕ). drop m (b ∷ bytes)) k in
    of_byte b bytes e ∙ ap (string_in_front b) h ∙ ap (λ (t : List ℕ). (b ∷ take n bytes) ∷ strings_of t) (sym d)

alone : (b : ℕ) → nat_eq b 0 ≡ false → Split (b ∷ []) 1
alone b e = of_byte b [] e ∙ ap (string_in_front b) of_nothing ∙ ap (λ (t : List (List ℕ)). (b ∷ []) ∷ t) (sym of_nothing)

pub split_first : (b : ℕ) (bytes : List ℕ) → Split (b ∷ bytes) (length_before 0 (b ∷ bytes))
split_first b [] = by (nat_eq b 0) refl
  where
    by : (v : Bool) → nat_eq b 0 ≡ v → Split (b ∷ []) (length_before 0 (b ∷ []))
    by true e = subst (Split (b ∷ [])) (sym (at_head 0 b [] e)) (of_zero b [] e)
    by false e = subst (Split (b ∷ [])) (sym (behind_head 0 b [] e)) (alone b e)
split_first b (c ∷ bytes) = by (nat_eq b 0) refl (split_first c bytes)
  where
    by : (v : Bool) → nat_eq b 0 ≡ v → Split (c ∷ bytes) (length_before 0 (c ∷ bytes)) → Split (b ∷ c ∷ bytes) (length_before 0 (b ∷ c ∷ bytes))
    by true e h = subst (Split (b ∷ c ∷ bytes)) (sym (at_head 0 b (c ∷ bytes) e)) (of_zero b (c ∷ bytes) e)
    by false e h = subst (Split (b ∷ c ∷ bytes)) (sym (behind_head 0 b (c ∷ bytes) e)) (longer b (c ∷ bytes) (length_before 0 (c ∷ bytes)) e h)

pub split_some : (message : List ℕ) → 0 < length message → strings_of message ≡ first_of message ∷ strings_of (behind_first message)
split_some [] h = absurd (omega (arith, h))
split_some (b ∷ bytes) h = split_first b bytes

-- each message is its strings
front_byte : (b : ℕ) (bytes : List ℕ) (strings : List (List ℕ)) → (b ≡ 0 → ⊥) → AreStrings bytes strings → AreStrings (b ∷ bytes) (string_in_front b strings)
front_byte b bytes strings h Nothing = Open b [] (λ k. elim k [ inl e ↦ h e | inr m ↦ m ])
front_byte b bytes strings h (Open c text o) = Open b (c ∷ text) (λ k. elim k [ inl e ↦ h e | inr m ↦ o m ])
front_byte b bytes strings h (Closed text message others o s) = Closed (b ∷ text) message others (λ k. elim k [ inl e ↦ h e | inr m ↦ o m ]) s

pub are_strings : (message : List ℕ) → AreStrings message (strings_of message)
are_strings [] = subst (AreStrings []) (sym of_nothing) Nothing
are_strings (b ∷ bytes) = by (nat_eq b 0) refl (are_strings bytes)
  where
    by : (v : Bool) → nat_eq b 0 ≡ v → AreStrings bytes (strings_of bytes) → AreStrings (b ∷ bytes) (strings_of (b ∷ bytes))
    by true e s =
        subst (AreStrings (b ∷ bytes)) (sym (of_zero b bytes e))
        (subst (λ (c : ℕ). AreStrings (c ∷ bytes) ([] ∷ strings_of bytes)) (sym (same_byte b 0 e)) (Closed [] bytes (strings_of bytes) (λ h. h) s))
    by false e s = subst (AreStrings (b ∷ bytes)) (sym (of_byte b bytes e)) (front_byte b bytes (strings_of bytes) (other_byte b 0 e) s)

-- and is no others
pub text_alone : (b : ℕ) (text : List ℕ) → ¬ Has (b ∷ text) 0 → strings_of (b ∷ text) ≡ (b ∷ text) ∷ []
text_alone b [] h = of_byte b [] (tested b 0 (λ e. h (inl e))) ∙ ap (string_in_front b) of_nothing
text_alone b (c ∷ text) h = of_byte b (c ∷ text) (tested b 0 (λ e. h (inl e))) ∙ ap (string_in_front b) (text_alone c text (λ k. h (inr k)))

text_closed : (text message : List ℕ) → ¬ Has text 0 → strings_of (text ++ 0 ∷ message) ≡ text ∷ strings_of message
text_closed [] message h = of_zero 0 message refl
text_closed (b ∷ text) message h = of_byte b (text ++ 0 ∷ message) (tested b 0 (λ e. h (inl e))) ∙ ap (string_in_front b) (text_closed text message (λ k. h (inr k)))

pub strings_only : (message : List ℕ) (strings : List (List ℕ)) → AreStrings message strings → strings_of message ≡ strings
strings_only message strings Nothing = of_nothing
strings_only message strings (Open b text h) = text_alone b text h
strings_only message strings (Closed text more others h s) = text_closed text more h ∙ ap (λ (t : List (List ℕ)). text ∷ t) (strings_only more others s)
