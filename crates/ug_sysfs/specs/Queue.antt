-- The order in which scheduled moves are to come.
use Rattle.std.specs.Prelude.{◌≡◌, ℕ, ◌+◌, ◌-◌, ◌*◌, ◌≤◌, Bool, true, not, cond, ◌&&◌, ◌||◌, nat_eq, nat_lt, if◌then◌else◌, List, [], ◌∷◌, length, insert, Option, Some, None}
use Rattle.std.specs.List.{AllByRecursion, filter, position, slice_get}
use Rattle.std.specs.List.Sorted.{IsNonDecreasingBy}
use Rattle.ug_sysfs.specs.declared.script.Scheduled.{Scheduled}

-- when a move has its turn: before the effect of a call or after it
abbrev pub turn_of : Scheduled → ℕ
turn_of m = m.call * 2 + cond m.after 1 0

-- none stands before one that has its turn earlier
abbrev pub AreByTurn : List Scheduled → Type 0
AreByTurn ms = IsNonDecreasingBy turn_of ms

-- x comes later than m: at a greater call, or behind the effect of the same call that m comes
-- before
abbrev pub comes_later : Scheduled → Scheduled → Bool
comes_later x m = nat_lt m.call x.call || (nat_eq m.call x.call && (x.after && not m.after))

abbrev pub isnt_later : Scheduled → Option Scheduled → Bool
isnt_later m None = true
isnt_later m (Some x) = not (comes_later x m)

-- the last doesn't come later
abbrev pub goes_last : Scheduled → List Scheduled → Bool
goes_last m ms = isnt_later m (slice_get ms (length ms - 1))

abbrev pub or_end : Option ℕ → List Scheduled → ℕ
or_end None ms = length ms
or_end (Some place) ms = place

-- the place of the first that comes later, or the end
abbrev pub first_later : Scheduled → List Scheduled → ℕ
first_later m ms = or_end (position (λ x. comes_later x m) ms) ms

-- the end, unless the last comes later; then the place of the first that does
abbrev pub queue_place : Scheduled → List Scheduled → ℕ
queue_place m ms = if goes_last m ms then length ms else first_later m ms

-- behind each that comes no later, in a list that is in order
abbrev pub with_move : Scheduled → List Scheduled → List Scheduled
with_move m ms = insert ms (queue_place m ms) m

-- ---- the moves that lines write

-- the same, by recursion
abbrev pub AreInTurn : List Scheduled → Type 0
AreInTurn [] = Unit {0}
AreInTurn (m ∷ ms) = AllByRecursion (λ later. turn_of m ≤ turn_of later) ms × AreInTurn ms

abbrev pub of_turn : ℕ → List Scheduled → List Scheduled
of_turn n ms = filter (λ m. nat_eq (turn_of m) n) ms

-- the moves that lines wrote, in their turn, and those of one turn in the order of the lines
pub record IsSchedule (written ms : List Scheduled) : Type 0 where
  pub in_turn : AreInTurn ms
  pub each : (n : ℕ) → of_turn n ms ≡ of_turn n written
