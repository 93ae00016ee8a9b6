-- A newline at the end of a file, by its place.
use Rattle.std.proofs.Common.{◌≡◌, ◌≢◌, ℕ, zero, suc, ◌+◌, List, [], ◌∷◌, length, take, slice_index, refl, ap, arith}
use Rattle.ug_record.specs.Records.{without_newline}

pub text_cut : (file : List ℕ) (end : ℕ) → length file ≡ end + 1 → slice_index file end ≡ 10 → take end file ≡ without_newline file
text_cut [] end h e = absurd (omega (arith, h))
text_cut (b ∷ []) end h e = grind arith
text_cut (b ∷ c ∷ file) zero h e = absurd (omega (arith, h))
text_cut (b ∷ c ∷ file) (suc end) h e = ap (λ (l : List ℕ). b ∷ l) (text_cut (c ∷ file) end (omega (arith, h)) e)

pub text_kept : (file : List ℕ) (end : ℕ) → length file ≡ end + 1 → slice_index file end ≢ 10 → file ≡ without_newline file
text_kept [] end h e = absurd (omega (arith, h))
text_kept (b ∷ []) end h e = grind arith
text_kept (b ∷ c ∷ file) zero h e = absurd (omega (arith, h))
text_kept (b ∷ c ∷ file) (suc end) h e = ap (λ (l : List ℕ). b ∷ l) (text_kept (c ∷ file) end (omega (arith, h)) e)

pub text_empty : (file : List ℕ) → length file ≡ 0 → file ≡ without_newline file
text_empty [] e = refl
text_empty (b ∷ file) e = absurd (omega (arith, e))
