-- The live devices by their places.
use Rattle.std.specs.Prelude.{◌≡◌, ℕ, ◌+◌, Bool, true, false, cond, not, List, [], ◌∷◌, Option, Some, None}
use Rattle.std.specs.List.{slice_get}
use Rattle.ug_kernel.specs.declared.device.Device.{Device}

-- the places of the live devices, where the list begins at place n
abbrev pub live_places : ℕ → List Device → List ℕ
live_places n [] = []
live_places n (d ∷ ds) = cond d.gone (live_places (n + 1) ds) (n ∷ live_places (n + 1) ds)

abbrev pub is_live : Option Device → Bool
is_live None = false
is_live (Some d) = not d.gone

abbrev pub is_live_at : List Device → ℕ → Bool
is_live_at ds i = is_live (slice_get ds i)

abbrev pub live_name : Option Device → Option (List ℕ)
live_name None = None
live_name (Some d) = cond d.gone None (Some d.name)

-- the name of the device at a place, where it is live
abbrev pub name_at : List Device → ℕ → Option (List ℕ)
name_at ds i = live_name (slice_get ds i)

abbrev pub with_name : Option (List ℕ) → List (List ℕ) → List (List ℕ)
with_name None names = names
with_name (Some name) names = name ∷ names

-- the names of the live devices at these places
abbrev pub names_at_places : List ℕ → List Device → List (List ℕ)
names_at_places [] ds = []
names_at_places (i ∷ is) ds = with_name (name_at ds i) (names_at_places is ds)

-- the devices stay in their places, and none comes back
abbrev pub Wanes : List Device → List Device → Type 0
Wanes [] [] = Unit {0}
Wanes [] (e ∷ es) = ⊥
Wanes (d ∷ ds) [] = ⊥
Wanes (d ∷ ds) (e ∷ es) = (d.gone ≡ true → e.gone ≡ true) × Wanes ds es
