-- The counting of marks.
use Rattle.std.proofs.Common.{◌≡◌, ℕ, ◌+◌, ◌<◌, ◌≤◌, Bool, true, false, cond, List, [], length, get_or, take, refl, sym, ap, ◌∙◌, arith}
use Rattle.std.proofs.lemmas.List.{take_all}
use Rattle.std.proofs.lemmas.List.Sums.{sum_by_more}
use Rattle.ug_types.specs.Names.{is_mark, depth_of}

abbrev pub IsCount : List ℕ → ℕ → ℕ → Type 0
IsCount xs i count = (count ≡ depth_of (take i xs)) × (count ≤ i)

counted : (xs : List ℕ) (i : ℕ) → i < length xs → depth_of (take (i + 1) xs) ≡ depth_of (take i xs) + cond (is_mark (get_or xs i 0)) 1 0
unfolding depth_of
counted xs i h = sum_by_more (λ b. cond (is_mark b) 1 0) xs i 0 h

pub mark_more : (xs : List ℕ) (i count next : ℕ) (test : Bool) → i < length xs → IsCount xs i count → test ≡ is_mark (get_or xs i 0) → test ≡ true → next ≡ count + 1 → IsCount xs (i + 1) next
mark_more xs i count next test h k e t n =
    let one : cond {A = ℕ} (is_mark (get_or xs i 0)) 1 0 ≡ 1 = ap (λ (b : Bool). cond {A = ℕ} b 1 0) (sym e ∙ t) in
    (omega (arith, counted xs i h), omega arith)

pub no_mark_more : (xs : List ℕ) (i count next : ℕ) (test : Bool) → i < length xs → IsCount xs i count → test ≡ is_mark (get_or xs i 0) → test ≡ false → next ≡ count → IsCount xs (i + 1) next
no_mark_more xs i count next test h k e t n =
    let none : cond {A = ℕ} (is_mark (get_or xs i 0)) 1 0 ≡ 0 = ap (λ (b : Bool). cond {A = ℕ} b 1 0) (sym e ∙ t) in
    (omega (arith, counted xs i h), omega arith)

pub counted_all : (xs : List ℕ) (i count : ℕ) → length xs ≤ i → IsCount xs i count → count ≡ depth_of xs
counted_all xs i count h k = k.0 ∙ ap depth_of (take_all i xs h)

pub counted_none : IsCount [] 0 0
unfolding depth_of
counted_none = (refl, omega arith)
