-- Parts are what stands between commas.
use Rattle.std.proofs.Common.{◌≡◌, ◌≢◌, ℕ, ◌+◌, inl, inr, Bool, true, false, nat_eq, List, [], ◌∷◌, ◌++◌, length, refl, sym, ap, ◌∙◌, arith}
use Rattle.std.proofs.lemmas.Bool.Decides.{nat_tests}
use Rattle.std.proofs.lemmas.List.Splits.{join_with_byte-slice_split}
use Rattle.std.specs.List.{join_with_byte, onto_first}
use Rattle.ug_types.specs.Elements.{Has}
use Rattle.ug_acl.specs.Grammar.{NoCommas, AreCommaParts, width_of}
use Rattle.ug_acl.specs.Lines.{comma_parts}

tested : (b : ℕ) → ¬ (b ≡ 44) → nat_eq b 44 ≡ false
tested b h = grind (arith, nat_tests)

-- a part and what stands behind its comma
split_part : (part rest : List ℕ) → ¬ Has part 44 → comma_parts (part ++ 44 ∷ rest) ≡ part ∷ comma_parts rest
split_part [] rest h = refl
split_part (b ∷ part) rest h = rw (tested b (λ e. h (inl e))) (ap (onto_first b) (split_part part rest (λ k. h (inr k))))

split_last : (part : List ℕ) → ¬ Has part 44 → comma_parts part ≡ part ∷ []
split_last [] h = refl
split_last (b ∷ part) h = rw (tested b (λ e. h (inl e))) (ap (onto_first b) (split_last part (λ k. h (inr k))))

split_joined : (parts : List (List ℕ)) → parts ≢ [] → NoCommas parts → comma_parts (join_with_byte 44 parts) ≡ parts
split_joined [] n h = absurd (n refl)
split_joined (part ∷ []) n h = split_last part h.0
split_joined (part ∷ next ∷ parts) n h =
    split_part part (join_with_byte 44 (next ∷ parts)) h.0 ∙ ap (λ (l : List (List ℕ)). part ∷ l) (split_joined (next ∷ parts) (λ e. (let none : ⊥ = cc in none)) h.1)

pub parts_found : (text : List ℕ) (parts : List (List ℕ)) → AreCommaParts text parts → comma_parts text ≡ parts
parts_found text parts h = ap comma_parts h.is ∙ split_joined parts h.some h.apart

onto_some : (b : ℕ) (parts : List (List ℕ)) → onto_first b parts ≢ []
onto_some b [] = λ e. (let none : ⊥ = cc in none)
onto_some b (part ∷ parts) = λ e. (let none : ⊥ = cc in none)

some_parts : (text : List ℕ) → comma_parts text ≢ []
some_parts [] = λ e. (let none : ⊥ = cc in none)
some_parts (b ∷ text) = by (nat_eq b 44) refl
  where
    by : (v : Bool) → nat_eq b 44 ≡ v → comma_parts (b ∷ text) ≢ []
    by true e = rw e (λ k. (let none : ⊥ = cc in none))
    by false e = rw e (onto_some b (comma_parts text))

onto_apart : (b : ℕ) (parts : List (List ℕ)) → ¬ (b ≡ 44) → NoCommas parts → NoCommas (onto_first b parts)
onto_apart b [] n h = (λ k. elim k [ inl e ↦ n e | inr none ↦ none ], tt)
onto_apart b (part ∷ parts) n h = (λ k. elim k [ inl e ↦ n e | inr m ↦ h.0 m ], h.1)

no_commas : (text : List ℕ) → NoCommas (comma_parts text)
no_commas [] = (λ k. k, tt)
no_commas (b ∷ text) = by (nat_eq b 44) refl (no_commas text)
  where
    by : (v : Bool) → nat_eq b 44 ≡ v → NoCommas (comma_parts text) → NoCommas (comma_parts (b ∷ text))
    by true e h = rw e (λ k. k, h)
    by false e h = rw e (onto_apart b (comma_parts text) (λ k. (let none : ⊥ = grind (arith, nat_tests) in none)) h)

pub are_parts : (text : List ℕ) → AreCommaParts text (comma_parts text)
are_parts text = record { is = sym (join_with_byte-slice_split 44 text); some = some_parts text; apart = no_commas text }

-- how wide parts are
pub onto_width : (b : ℕ) (parts : List (List ℕ)) → parts ≢ [] → width_of (onto_first b parts) ≡ width_of parts + 1
onto_width b [] n = absurd (n refl)
onto_width b (part ∷ parts) n = omega arith

pub parts_width : (text : List ℕ) → width_of (comma_parts text) ≡ length text + 1
parts_width [] = refl
parts_width (b ∷ text) = by (nat_eq b 44) refl (parts_width text)
  where
    by : (v : Bool) → nat_eq b 44 ≡ v → width_of (comma_parts text) ≡ length text + 1 → width_of (comma_parts (b ∷ text)) ≡ length (b ∷ text) + 1
    by true e h = rw e (omega (arith, h))
    by false e h = rw e (omega (arith, h, onto_width b (comma_parts text) (some_parts text)))
