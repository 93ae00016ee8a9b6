-- The first word of a text, and what stands behind.
use Rattle.std.proofs.Common.{◌≡◌, ℕ, inl, inr, Bool, true, false, nat_eq, List, [], ◌∷◌, ◌++◌, length, take, drop, refl, sym, ap, ◌∙◌, arith}
use Rattle.std.proofs.lemmas.Bool.Decides.{nat_tests}
use Rattle.ug_types.specs.Elements.{Has}
use Rattle.ug_proto.specs.Splitting.{word_in_front, behind_word, IsRest}

pub tested : (b : ℕ) → ¬ (b ≡ 32) → nat_eq b 32 ≡ false
tested b h = grind (arith, nat_tests)

is_space : (b : ℕ) → nat_eq b 32 ≡ true → b ≡ 32
is_space b e = grind (arith, nat_tests)

pub whole : (text : List ℕ) → text ≡ word_in_front text ++ behind_word text
whole [] = refl
whole (b ∷ text) = by (nat_eq b 32) refl (whole text)
  where
    by : (v : Bool) → nat_eq b 32 ≡ v → text ≡ word_in_front text ++ behind_word text → b ∷ text ≡ word_in_front (b ∷ text) ++ behind_word (b ∷ text)
    by true e h = rw e refl
    by false e h = rw e (ap (λ (l : List ℕ). b ∷ l) h)

pub no_space : (text : List ℕ) → ¬ Has (word_in_front text) 32
no_space [] h = h
no_space (b ∷ text) h = by (nat_eq b 32) refl (no_space text) h
  where
    by : (v : Bool) → nat_eq b 32 ≡ v → ¬ Has (word_in_front text) 32 → Has (word_in_front (b ∷ text)) 32 → ⊥
    by true e n = rw e (λ k. k)
    by false e n = rw e (λ k. elim k [ inl m ↦ (let none : ⊥ = grind (arith, nat_tests) in none) | inr m ↦ n m ])

pub is_rest : (text : List ℕ) → IsRest (behind_word text)
is_rest [] = inl refl
is_rest (b ∷ text) = by (nat_eq b 32) refl (is_rest text)
  where
    by : (v : Bool) → nat_eq b 32 ≡ v → IsRest (behind_word text) → IsRest (behind_word (b ∷ text))
    by true e h = rw e (inr (text, ap (λ (c : ℕ). c ∷ text) (is_space b e)))
    by false e h = rw e h

first_rest : (rest : List ℕ) → IsRest rest → word_in_front rest ≡ []
first_rest rest (inl e) = ap word_in_front e
first_rest rest (inr h) = ap word_in_front h.1

behind_rest : (rest : List ℕ) → IsRest rest → behind_word rest ≡ rest
behind_rest rest (inl e) = ap behind_word e ∙ sym e
behind_rest rest (inr h) = ap behind_word h.1 ∙ sym h.1

-- a word with no space among its bytes
pub first_plain : (word rest : List ℕ) → ¬ Has word 32 → IsRest rest → word_in_front (word ++ rest) ≡ word
first_plain [] rest n h = first_rest rest h
first_plain (b ∷ word) rest n h = rw (tested b (λ e. n (inl e))) (ap (λ (l : List ℕ). b ∷ l) (first_plain word rest (λ k. n (inr k)) h))

pub behind_plain : (word rest : List ℕ) → ¬ Has word 32 → IsRest rest → behind_word (word ++ rest) ≡ rest
behind_plain [] rest n h = behind_rest rest h
behind_plain (b ∷ word) rest n h = rw (tested b (λ e. n (inl e))) (behind_plain word rest (λ k. n (inr k)) h)

-- by the number of bytes before the space
pub taken_word : (text : List ℕ) → take (length (word_in_front text)) text ≡ word_in_front text
taken_word [] = refl
taken_word (b ∷ text) = by (nat_eq b 32) refl (taken_word text)
  where
    by : (v : Bool) → nat_eq b 32 ≡ v → take (length (word_in_front text)) text ≡ word_in_front text → take (length (word_in_front (b ∷ text))) (b ∷ text) ≡ word_in_front (b ∷ text)
    by true e h = rw e refl
    by false e h = rw e (ap (λ (l : List ℕ). b ∷ l) h)

pub dropped_word : (text : List ℕ) → drop (length (word_in_front text)) text ≡ behind_word text
dropped_word [] = refl
dropped_word (b ∷ text) = by (nat_eq b 32) refl (dropped_word text)
  where
    by : (v : Bool) → nat_eq b 32 ≡ v → drop (length (word_in_front text)) text ≡ behind_word text → drop (length (word_in_front (b ∷ text))) (b ∷ text) ≡ behind_word (b ∷ text)
    by true e h = rw e refl
    by false e h = rw e h
