-- What an object tells of its calls.
use Rattle.std.specs.Prelude.{◌≡◌, ℕ, ◌+◌, ◌-◌, ◌^◌, nat_lt, cond, min, List, [], ◌++◌, zero, suc, Option, Some, None}

-- it was told before, and grew by these
abbrev pub GrowsBy : {A : Type 0} → Option (List A) → List A → List A → Type 0
GrowsBy {A} told new after = (before : List A) × (told ≡ Some before) × (after ≡ before ++ new)

-- one more, up to the greatest number of 64 bits
abbrev pub one_more : ℕ → ℕ
one_more n = min (n + 1) (2 ^ 64 - 1)

-- what the first n calls gave, each of them by its number
abbrev pub given_by : {A : Type 0} → (ℕ → List A) → ℕ → List A
given_by gives zero = []
given_by gives (suc n) = given_by gives n ++ gives n

-- an object that counts its calls tells what they gave, until its count stands at its highest
abbrev pub told_by_count : {A : Type 0} → (ℕ → List A) → ℕ → Option (List A)
told_by_count gives calls = cond (nat_lt calls (2 ^ 64 - 1)) (Some (given_by gives calls)) None
