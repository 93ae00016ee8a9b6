-- The sweep: all names are listed, standings whose names went are dropped, and each name is settled
-- in order.
use Rattle.std.specs.Prelude.{ℕ, Bool, true, false, Option, List, [], ◌∷◌, ◌++◌, map, cond}
use Rattle.std.specs.List.{filter}
use Rattle.ug_types.specs.Sweep.{in_sweep_order}
use Rattle.ug_kernel.specs.declared.control.Write.{Write}
use Rattle.ug_kernel.specs.declared.calls.FailedCall.{FailedCall}
use Rattle.ug_kernel.specs.declared.calls.Listing.{Listing}
use Rattle.ug_kernel.specs.declared.calls.Listing.TheVariants as listing
use Rattle.ug_kernel.specs.Calls.{Names, Close}
use Rattle.ug_kernel.specs.Tree.{Prog, Return, Ask, Room, then}
use Rattle.ug_kernel.specs.Along.{failure_of}
use Rattle.ug_audit.specs.declared.entry.Entry.TheVariants as entry
use Rattle.ug_audit.specs.declared.entry.Fault.{Fault}
use Rattle.ug_audit.specs.declared.entry.Fault.TheVariants as fault
use Rattle.ug_table.specs.State.{State, Kept, kept_of, with_kept, Answers, Laters, Terms, terms_for}
use Rattle.ug_table.specs.Standings.{lists, farewells}
use Rattle.ug_table.specs.Settle.{settling, resettling}
use Rattle.ug_table.specs.declared.standing.Standing.{Standing}

-- each listed name in order
abbrev pub settling_all : {J : Type 0} → Answers J → Laters J → List (List ℕ) → Terms → State J
    → Prog (State J)
settling_all answer later [] terms w = Return w
settling_all answer later (name ∷ names) terms w =
    then (settling answer later name terms w) (λ p. settling_all answer later names terms p.1)

-- each known name in order
abbrev pub resettling_all : Option Write → List (List ℕ) → Kept → Prog Kept
resettling_all hub [] k = Return k
resettling_all hub (name ∷ names) k =
    then (resettling hub name k) (λ p. resettling_all hub names p.1)

-- the standings whose names aren't listed are dropped
abbrev pub parted : {J : Type 0} → List (List ℕ) → State J → State J
parted names w =
    record w {
      standings = filter (λ s. lists names s.name) w.standings;
      entries = w.entries
          ++ farewells names w.standings;
    }

-- and their held files are closed
abbrev pub closing_unlisted : List (List ℕ) → List Standing → Prog (Unit {0})
closing_unlisted names [] = Return tt
closing_unlisted names (s ∷ ss) =
    cond (lists names s.name) (closing_unlisted names ss)
    (Ask (Close s.held.0) (λ closed. closing_unlisted names ss))

abbrev pub names_of : List Standing → List (List ℕ)
names_of ss = map (λ s. s.name) ss

abbrev pub resumed : {J : Type 0} → State J → Kept → Prog (State J)
resumed w k = Return (with_kept w k)

-- no listing: the known names are settled all the same
abbrev pub unlisted : {J : Type 0} → Fault → State J → Prog (State J)
unlisted why w =
    then
    (resettling_all w.hub (names_of w.standings)
    (kept_of w.standings (w.entries ++ entry.UnsettledAll why ∷ [])))
    (resumed w)

abbrev pub marked_listed : {J : Type 0} → State J → State J
marked_listed w = record w { listed = true }

abbrev pub if_room : {J : Type 0} → Answers J → Laters J → List (List ℕ) → State J → Bool
    → Prog (State J)
if_room answer later names w true =
    then (closing_unlisted names w.standings)
    (λ closed. settling_all answer later names (terms_for w) (marked_listed (parted names w)))
if_room answer later names w false = unlisted fault.Memory w

abbrev pub after_list : {J : Type 0} → Answers J → Laters J → State J → Listing → FailedCall
    → Prog (State J)
after_list answer later w (listing.Names names) failed =
    Room (if_room answer later (in_sweep_order names) w)
after_list answer later w listing.Failed failed = unlisted (fault.Call failed) w
after_list answer later w listing.Memory failed = unlisted fault.Memory w

-- the whole sweep
unfoldable pub sweeping : {J : Type 0} → Answers J → Laters J → State J → Prog (State J)
sweeping answer later w = Ask Names (λ t. after_list answer later w t.answer (failure_of t))
