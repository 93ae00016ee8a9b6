-- The first and the last byte of one kind in a text.
use Rattle.std.proofs.Common.{◌≡◌, ◌⊎◌, inl, inr, ℕ, suc, ◌+◌, ◌<◌, Bool, true, false, nat_eq, List, [], ◌∷◌, ◌++◌, length, take, drop, refl, sym, ap, subst, ◌∙◌, arith, append_assoc, length-append, eq-eqb}
use Rattle.std.proofs.lemmas.Bool.Decides.{nat_tests}
use Rattle.std.proofs.lemmas.List.{drop_at}
use Rattle.std.proofs.Math.Seq.{take-append_seam}
use Rattle.ug_types.specs.Elements.{Has}
use Rattle.ug_uevent.specs.Cuts.{length_before, IsCutAtFirst}

pub same_byte : (b sign : ℕ) → nat_eq b sign ≡ true → b ≡ sign
same_byte b sign e = grind (arith, nat_tests)

pub other_byte : (b sign : ℕ) → nat_eq b sign ≡ false → b ≡ sign → ⊥
other_byte b sign e = λ k. grind (arith, nat_tests)

pub tested : (b sign : ℕ) → (b ≡ sign → ⊥) → nat_eq b sign ≡ false
tested b sign h = grind (arith, nat_tests)

pub at_head : (sign b : ℕ) (bytes : List ℕ) → nat_eq b sign ≡ true → length_before sign (b ∷ bytes) ≡ 0
at_head sign b bytes e = rw e refl

pub behind_head : (sign b : ℕ) (bytes : List ℕ) → nat_eq b sign ≡ false → length_before sign (b ∷ bytes) ≡ suc (length_before sign bytes)
behind_head sign b bytes e = rw e refl

pub cut_length : (sign : ℕ) (front back : List ℕ) → ¬ Has front sign → length_before sign (front ++ sign ∷ back) ≡ length front
cut_length sign [] back h = at_head sign sign back (eq-eqb sign sign refl)
cut_length sign (b ∷ front) back h =
    behind_head sign b (front ++ sign ∷ back) (tested b sign (λ e. h (inl e)))
    ∙ ap (λ (n : ℕ). suc n) (cut_length sign front back (λ k. h (inr k)))

pub whole_length : (sign : ℕ) (text : List ℕ) → ¬ Has text sign → length_before sign text ≡ length text
whole_length sign [] h = refl
whole_length sign (b ∷ text) h =
    behind_head sign b text (tested b sign (λ e. h (inl e))) ∙ ap (λ (n : ℕ). suc n) (whole_length sign text (λ k. h (inr k)))

-- the parts of a cut
pub cut_at : (sign : ℕ) (text front back : List ℕ) → IsCutAtFirst sign text front back → length_before sign text ≡ length front
cut_at sign text front back c = ap (length_before sign) c.is ∙ cut_length sign front back c.first

pub cut_front : (sign : ℕ) (text front back : List ℕ) → IsCutAtFirst sign text front back → take (length_before sign text) text ≡ front
cut_front sign text front back c =
    ap (λ (n : ℕ). take n text) (cut_at sign text front back c) ∙ ap (take (length front)) c.is ∙ take-append_seam front (sign ∷ back)

pub cut_back : (sign : ℕ) (text front back : List ℕ) → IsCutAtFirst sign text front back → drop (length_before sign text + 1) text ≡ back
cut_back sign text front back c =
    ap (λ (n : ℕ). drop (n + 1) text) (cut_at sign text front back c)
    ∙ ap (drop (length front + 1)) (c.is ∙ sym (append_assoc front (sign ∷ []) back))
    ∙ drop_at (front ++ sign ∷ []) back (length front + 1) (length-append front (sign ∷ []))

pub cut_within : (sign : ℕ) (text front back : List ℕ) → IsCutAtFirst sign text front back → length_before sign text < length text
cut_within sign text front back c = omega (arith, cut_at sign text front back c, ap length c.is, length-append front (sign ∷ back))

-- each text has such a byte, or none
abbrev pub CutAt : ℕ → List ℕ → ℕ → Type 0
CutAt sign text n = IsCutAtFirst sign text (take n text) (drop (n + 1) text)

further : (sign b : ℕ) (bytes : List ℕ) (n : ℕ) → (b ≡ sign → ⊥) → CutAt sign bytes n → CutAt sign (b ∷ bytes) (suc n)
further sign b bytes n h c =
    let e : suc n + 1 ≡ suc (n + 1) = omega arith in
    let d : drop (suc n + 1) (b ∷ bytes) ≡ drop (n + 1) bytes = ap (λ (k : ℕ). drop k (b ∷ bytes)) e in
    record {
      is = ap (λ (l : List ℕ). b ∷ l) c.is ∙ ap (λ (t : List ℕ). b ∷ (take n bytes ++ sign ∷ t)) (sym d);
      first = λ k. elim k [ inl e ↦ h e | inr m ↦ c.first m ];
    }

pub cut_or_none : (sign : ℕ) (text : List ℕ) → CutAt sign text (length_before sign text) ⊎ (¬ Has text sign)
cut_or_none sign [] = inr (λ h. h)
cut_or_none sign (b ∷ bytes) = by (nat_eq b sign) refl (cut_or_none sign bytes)
  where
    by : (v : Bool) → nat_eq b sign ≡ v → CutAt sign bytes (length_before sign bytes) ⊎ (¬ Has bytes sign) → CutAt sign (b ∷ bytes) (length_before sign (b ∷ bytes)) ⊎ (¬ Has (b ∷ bytes) sign)
    by true e s = inl (subst (CutAt sign (b ∷ bytes)) (sym (at_head sign b bytes e)) (record { is = ap (λ (c : ℕ). c ∷ bytes) (same_byte b sign e); first = λ h. h }))
    by false e (inl c) = inl (subst (CutAt sign (b ∷ bytes)) (sym (behind_head sign b bytes e)) (further sign b bytes (length_before sign bytes) (other_byte b sign e) c))
    by false e (inr n) = inr (λ h. elim h [ inl k ↦ other_byte b sign e k | inr m ↦ n m ])

-- one cut
pub one_cut : (sign : ℕ) (text front back front' back' : List ℕ) → IsCutAtFirst sign text front back → IsCutAtFirst sign text front' back' → (front ≡ front') × (back ≡ back')
one_cut sign text front back front' back' c d = (
  sym (cut_front sign text front back c) ∙ cut_front sign text front' back' d,
  sym (cut_back sign text front back c) ∙ cut_back sign text front' back' d,
)
