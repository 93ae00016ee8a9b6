-- The parents of names of device nodes, and their order in a sweep.
use Rattle.std.specs.Prelude.{ℕ, List, [], ◌∷◌, ◌++◌, Option, Some, None, nat_eq, if◌then◌else◌, codes, Bool, ◌||◌, count_by}
use Rattle.std.specs.declared.cmp.Ordering.{Ordering}
use Rattle.std.specs.Ordering.{nat_cmp, ordering_then}
use Rattle.std.specs.Cmp.Lexicographic.{slice_cmp}

-- the text before the last dot
abbrev pub or_nothing : ℕ → Option (List ℕ) → Option (List ℕ)
or_nothing b (Some front) = Some (b ∷ front)
or_nothing b None = if nat_eq b 46 then Some [] else None

abbrev pub before_last_dot : List ℕ → Option (List ℕ)
before_last_dot [] = None
before_last_dot (b ∷ bytes) = or_nothing b (before_last_dot bytes)

abbrev pub with_first : ℕ → Option (List ℕ) → Option (List ℕ)
with_first b (Some front) = Some (b ∷ front)
with_first b None = None

-- the text before the first dash
abbrev pub before_dash : List ℕ → Option (List ℕ)
before_dash [] = None
before_dash (b ∷ bytes) = if nat_eq b 45 then Some [] else with_first b (before_dash bytes)

abbrev pub root_of : Option (List ℕ) → Option (List ℕ)
root_of (Some bus) = Some (codes "usb" ++ bus)
root_of None = None

abbrev pub or_root : Option (List ℕ) → List ℕ → Option (List ℕ)
or_root (Some front) name = Some front
or_root None name = root_of (before_dash name)

-- the parent of 1-2.3 is 1-2, of 1-2 it is usb1, of usb1 there is none
unfoldable pub parent_of : List ℕ → Option (List ℕ)
parent_of name = or_root (before_last_dot name) name

-- a dash or a dot
abbrev pub is_mark : ℕ → Bool
is_mark b = nat_eq b 45 || nat_eq b 46

-- how many parents are above a name: one for its dash, and one for each dot
unfoldable pub depth_of : List ℕ → ℕ
depth_of name = count_by is_mark name

-- by depth, then by bytes
abbrev pub sweep_cmp : List ℕ → List ℕ → Ordering
sweep_cmp a b = ordering_then (nat_cmp (depth_of a) (depth_of b)) (slice_cmp nat_cmp a b)
