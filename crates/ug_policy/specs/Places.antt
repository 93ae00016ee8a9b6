-- Places of a list of rules.
use Rattle.std.specs.Prelude.{ℕ, suc, pred, ◌-◌, List, [], ◌∷◌, ◌++◌, Bool, true, nat_eq, nat_le, if◌then◌else◌, map, take, drop, insert, remove}
use Rattle.std.specs.List.{list_all}
use Rattle.ug_policy.specs.declared.reach.Reach.{Reach}
use Rattle.ug_policy.specs.declared.reach.Reach.TheVariants as reach

-- a rule of that reach can match ids of that remainder
abbrev pub reaches_to : ℕ → Reach → Bool
reaches_to r (reach.Narrow own) = nat_eq own r
reaches_to r reach.Wide = true

-- the places, counted from `at`, of the rules whose reach passes a test
abbrev pub places_from : (Reach → Bool) → ℕ → List Reach → List ℕ
places_from kept at [] = []
places_from kept at (x ∷ xs) =
    if kept x then at ∷ places_from kept (suc at) xs else places_from kept (suc at) xs

abbrev pub places_by : (Reach → Bool) → List Reach → List ℕ
places_by kept xs = places_from kept 0 xs

-- the places of the rules that can match ids of that remainder
abbrev pub places_of : ℕ → List Reach → List ℕ
places_of r xs = places_by (reaches_to r) xs

-- none of these places is before `at`
abbrev pub all_from : ℕ → List ℕ → Bool
all_from at ps = list_all (λ p. nat_le at p) ps

-- how many places stand before those at the end that are not before `at`
abbrev pub count_before : ℕ → List ℕ → ℕ
count_before at [] = 0
count_before at (p ∷ ps) = if all_from at (p ∷ ps) then 0 else suc (count_before at ps)

-- the places behind are one later, or one earlier
abbrev pub places_raised : ℕ → List ℕ → List ℕ
places_raised at ps = take (count_before at ps) ps ++ map suc (drop (count_before at ps) ps)

abbrev pub lowered : ℕ → List ℕ → List ℕ
lowered at ps = take (count_before at ps) ps ++ map pred (drop (count_before at ps) ps)

-- the places where a rule is put in at `at`, which gets a place here or doesn't
abbrev pub put_in : Bool → ℕ → List ℕ → List ℕ
put_in here at ps =
    if here then insert (places_raised at ps) (count_before at ps) at else places_raised at ps

-- and where the rule at `at` is taken out
abbrev pub taken_out : Bool → ℕ → List ℕ → List ℕ
taken_out here at ps =
    if here then remove (lowered (suc at) ps) (count_before (suc at) ps - 1) else
    lowered (suc at) ps
