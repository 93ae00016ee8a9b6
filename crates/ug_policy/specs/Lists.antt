-- The lists of places that an index keeps.
use Rattle.std.specs.Prelude.{◌≡◌, ℕ, ◌+◌, ◌-◌, ◌^◌, ◌<◌, ◌≤◌, List, Bool, All, length, get_or, vec_len, vec_capacity}
use Rattle.std.specs.Global.{Vec}
use Rattle.ug_policy.specs.declared.reach.Reach.{Reach}
use Rattle.ug_policy.specs.Places.{places_by, put_in, reaches_to, taken_out}

-- a list has the places of the rules whose reach passes a test, and room for more
pub record IsKeptList (test : Reach → Bool) (places : Vec ℕ) (reaches : List Reach)
    (spare : ℕ) : Type 0 where
  pub items : places.items ≡ places_by test reaches
  pub room : vec_len places + spare ≤ vec_capacity places

-- each list has those of the rules that can match ids of its remainder
abbrev pub AreKept : List (Vec ℕ) → List Reach → ℕ → Type 0
AreKept lists reaches spare =
    (r : ℕ) (d : Vec ℕ) → r < length lists
    → IsKeptList (reaches_to r) (get_or lists r d) reaches spare

-- an index: its lists, the reach of each of at most 65,536 rules, and room for more of both
pub record IsIndex (lists : List (Vec ℕ)) (reaches : Vec Reach) (spare : ℕ) : Type 0 where
  pub long : length lists ≡ 64
  pub kept : AreKept lists reaches.items spare
  pub room : vec_len reaches + spare ≤ vec_capacity reaches
  pub few : length reaches.items ≤ 65536

-- what a list has to be where a rule is put in
pub record HasRoomForPlace (places : Vec ℕ) : Type 0 where
  pub room : vec_len places < vec_capacity places
  pub low : All (λ p. p < 2 ^ 32 - 1) places.items

abbrev pub HaveRoom : List (Vec ℕ) → Type 0
HaveRoom lists = (r : ℕ) (d : Vec ℕ) → r < length lists → HasRoomForPlace (get_or lists r d)

-- one list, where a rule was put in
pub record IsPutIn (here : Bool) (at : ℕ) (old new : Vec ℕ) : Type 0 where
  pub items : new.items ≡ put_in here at old.items
  pub len : vec_len new ≤ vec_len old + 1
  pub capacity : vec_capacity new ≡ vec_capacity old

-- each list
abbrev pub ArePutIn : Reach → ℕ → List (Vec ℕ) → List (Vec ℕ) → Type 0
ArePutIn reach at old new =
    (r : ℕ) (d : Vec ℕ) → r < length old
    → IsPutIn (reaches_to r reach) at (get_or old r d) (get_or new r d)

-- one list, where a rule was taken out
pub record IsTakenOut (here : Bool) (at : ℕ) (old new : Vec ℕ) : Type 0 where
  pub items : new.items ≡ taken_out here at old.items
  pub len : vec_len new ≤ vec_len old
  pub capacity : vec_capacity new ≡ vec_capacity old

abbrev pub AreTakenOut : Reach → ℕ → List (Vec ℕ) → List (Vec ℕ) → Type 0
AreTakenOut reach at old new =
    (r : ℕ) (d : Vec ℕ) → r < length old
    → IsTakenOut (reaches_to r reach) at (get_or old r d) (get_or new r d)
