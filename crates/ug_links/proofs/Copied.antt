-- Items that were copied to the front of a row.
use Rattle.std.proofs.Common.{◌≡◌, ℕ, min, List, ◌++◌, length, take, drop, sym, ap, subst, ◌∙◌, arith, length-take, inl, inr}
use Rattle.std.proofs.lemmas.Bool.{cases_lt}
use Rattle.std.proofs.lemmas.List.{take_all}
use Rattle.std.proofs.Math.Seq.{take-append_seam}

-- as many as there is room for
pub copied_front : {X : Type 0} (xs into copied : List X) (n room : ℕ) → length into ≡ room → n ≡ min (length xs) (length into) → copied ≡ take n xs → take n (copied ++ drop n into) ≡ take room xs
copied_front xs into copied n room l is c =
    let size : length copied ≡ n = omega (arith, ap length c, length-take n xs, is) in
    let front : take n (copied ++ drop n into) ≡ copied = subst (λ (k : ℕ). take k (copied ++ drop k into) ≡ copied) size (take-append_seam copied (drop (length copied) into)) in
    front ∙ (c ∙ elim (cases_lt (length xs) room) [
      | inl lt ↦ let same : n ≡ length xs = omega (arith, is, l, lt) in ap (λ (k : ℕ). take k xs) same ∙ (take_all (length xs) xs (omega arith) ∙ sym (take_all room xs (omega (arith, lt))))
      | inr ge ↦ let same : n ≡ room = omega (arith, is, l, ge) in ap (λ (k : ℕ). take k xs) same
    ])
