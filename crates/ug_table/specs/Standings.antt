-- The standings as a list, in sweep order of their names, each of which has one.
use Rattle.std.specs.Prelude.{ℕ, ◌+◌, Bool, true, not, ◌&&◌, ◌||◌, List, [], ◌∷◌, Option, Some, None, if◌then◌else◌, nat_eq, insert, map, false}
use Rattle.std.specs.List.{filter, find, list_any}
use Rattle.std.specs.Cmp.Lexicographic.{pointwise}
use Rattle.std.specs.Ordering.{is_gt}
use Rattle.ug_types.specs.Names.{sweep_cmp}
use Rattle.ug_audit.specs.declared.entry.Entry.{Entry}
use Rattle.ug_audit.specs.declared.entry.Entry.TheVariants as entry
use Rattle.ug_table.specs.declared.standing.Standing.{Standing}
use Rattle.ug_table.specs.declared.standing.Known.{Known}
use Rattle.ug_table.specs.Bring.{is_reject}

abbrev pub same_name : List ℕ → List ℕ → Bool
same_name a b = pointwise nat_eq a b

abbrev pub known_of : Standing → Known
known_of s =
    record {
      number = s.number;
      held = s.held;
      verdict = s.verdict;
      removed = s.removed;
      defaulted =
          s.defaulted;
    }

-- the standing of that name
abbrev pub standing_of : List ℕ → List Standing → Option Known
standing_of name [] = None
standing_of name (s ∷ ss) = if same_name s.name name then Some (known_of s) else standing_of name ss

-- the standing of that name, whole
abbrev pub named : List ℕ → List Standing → Option Standing
named name ss = find (λ s. same_name s.name name) ss

-- the standing of that number
abbrev pub numbered : ℕ → List Standing → Option Standing
numbered number ss = find (λ s. nat_eq s.number number) ss

-- the standings of the other names
abbrev pub without : List ℕ → List Standing → List Standing
without name standings = filter (λ s. not (same_name s.name name)) standings

abbrev pub mark_of : List ℕ → Bool → Standing → Bool
mark_of name settled s = if same_name s.name name then settled else s.settled

-- a rejected device that is settled was removed
abbrev pub removed_of : List ℕ → Bool → Standing → Bool
removed_of name settled s =
    if same_name s.name name then s.removed || (settled && is_reject s.verdict) else s.removed

abbrev pub marked : List ℕ → Bool → Standing → Standing
marked name settled s =
    record s { settled = mark_of name settled s; removed = removed_of name settled s }

-- the same of a standing by itself
abbrev pub settled_standing : Standing → Standing
settled_standing s = record s { settled = true; removed = s.removed || is_reject s.verdict }

-- where its default was written, the standing of the name is marked so
abbrev pub with_default : List ℕ → Standing → Standing
with_default name s = record s { defaulted = same_name s.name name || s.defaulted }

abbrev pub did_default : List ℕ → Bool → List Standing → List Standing
did_default name true ss = map (with_default name) ss
did_default name false ss = ss

-- how many standings have names that come before it
abbrev pub place_for : List ℕ → List Standing → ℕ
place_for name [] = 0
place_for name (x ∷ xs) = if is_gt (sweep_cmp name x.name) then place_for name xs + 1 else 0

-- behind each standing whose name comes before its own
abbrev pub with_standing : Standing → List Standing → List Standing
with_standing s ss = insert ss (place_for s.name ss) s

-- whether the names have that name
abbrev pub lists : List (List ℕ) → List ℕ → Bool
lists names name = list_any (λ n. same_name n name) names

-- an entry for each standing whose name isn't there
abbrev pub farewells : List (List ℕ) → List Standing → List Entry
farewells names [] = []
farewells names (s ∷ ss) =
    if lists names s.name then farewells names ss
    else entry.Gone s.number s.name ∷ farewells names ss
