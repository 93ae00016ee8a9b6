-- Slots of names. A slot that is empty holds the place of a standing that is to come.
use Rattle.std.specs.Prelude.{◌≡◌, ◌≤◌, ℕ, Bool, true, false, List, [], ◌∷◌, ◌++◌, not, nat_eq, Option, Some, None, length, ◌⊎◌}
use Rattle.std.specs.List.{filter, filter_map, cons_option}
use Rattle.std.specs.Ordering.{nat_cmp}
use Rattle.std.specs.BTreeMap.{BTreeMap, IsOrdered, is_at, get}
use Rattle.std.specs.Map.{lookup}
use Rattle.ug_types.specs.Elements.{Has, AllDistinct}
use Rattle.ug_types.specs.Names.{sweep_cmp}
use Rattle.ug_table.specs.declared.standing.Standing.{Standing}
use Rattle.ug_table.specs.declared.standing.Place.{Place}

abbrev pub Slot : Type 0
Slot = List ℕ × Option Standing

abbrev pub before : Option Standing → List Standing → List Standing
before o ss = cons_option o ss

-- the standings of the slots that are filled
abbrev pub filled : List Slot → List Standing
filled es = filter_map (λ (e : Slot). e.1) es

-- the slot of that name
abbrev pub slot_of : List ℕ → List Slot → Option (Option Standing)
slot_of name es = lookup (is_at (sweep_cmp name)) es

-- a slot's standing bears its name
abbrev pub IsNameOf : List ℕ → Option Standing → Type 0
IsNameOf name None = Unit {0}
IsNameOf name (Some s) = s.name ≡ name

abbrev pub AllNamed : List Slot → Type 0
AllNamed [] = Unit {0}
AllNamed (e ∷ es) = IsNameOf e.0 e.1 × AllNamed es

-- the names of the slots that are empty
abbrev pub empty_of : List Slot → List (List ℕ)
empty_of [] = []
empty_of ((name, None) ∷ es) = name ∷ empty_of es
empty_of ((name, Some s) ∷ es) = empty_of es

-- the place of that name and number
abbrev pub place_of : List ℕ → ℕ → Option Place
place_of name number = Some (record { name = name; number = number })

-- what the maps hold: the standings; and the place that is held for one to come
pub record Store : Type 0 where
  pub items : List Standing
  pub place : Option Place

abbrev pub store : List Slot → Option Place → Store
store slots place = record { items = filled slots; place = place }

-- its name
abbrev pub named_by : Option Place → List (List ℕ)
named_by None = []
named_by (Some p) = p.name ∷ []

-- a standing bears both the number and the name, or the place does
abbrev pub BearBoth : List Standing → Option Place → ℕ → List ℕ → Type 0
BearBoth ss place number name =
    ((s : Standing) × Has ss s × (s.number ≡ number) × (s.name ≡ name))
    ⊎ (place ≡ place_of name number)

-- a standing that isn't settled has its number on the list, and each number there is of one
pub record IsRetry (ss : List Standing) (retry : List ℕ) : Type 0 where
  pub each : (s : Standing) → Has ss s → s.settled ≡ false → Has retry s.number
  pub only : (n : ℕ) → Has retry n
      → (s : Standing) × Has ss s × (s.number ≡ n) × (s.settled ≡ false)
  pub distinct : AllDistinct retry

-- the list once the mark of a number went from was to now
abbrev pub noted : ℕ → Bool → Bool → List ℕ → List ℕ
noted number true false retry = retry ++ number ∷ []
noted number false true retry = filter (λ n. not (nat_eq n number)) retry
noted number true true retry = retry
noted number false false retry = retry

-- The maps agree. The one slot that is empty is the place's, and a number leads to a name just
-- where a standing or the place bears both.
pub record Agree (by_name : BTreeMap (List ℕ) (Option Standing)) (by_number : BTreeMap ℕ (List ℕ))
    (place : Option Place) (again : List ℕ) (most : ℕ) : Type 0 where
  pub ordered : IsOrdered sweep_cmp by_name
  pub bear : AllNamed by_name.entries
  pub empty : empty_of by_name.entries ≡ named_by place
  pub numbers : (s : Standing) → Has (filled by_name.entries) s
      → get nat_cmp by_number s.number ≡ Some s.name
  pub held : (p : Place) → place ≡ Some p → get nat_cmp by_number p.number ≡ Some p.name
  pub only : (number : ℕ) (name : List ℕ) → get nat_cmp by_number number ≡ Some name
      → BearBoth (filled by_name.entries) place number name
  pub retry : IsRetry (filled by_name.entries) again
  pub room : length by_name.entries ≤ most
