-- The settling of given names beside a sweep from the same state, over a kernel that stands still:
-- what is to be shown of them.
use Rattle.std.specs.Prelude.{◌≡◌, ℕ, Bool, true, List, [], ◌∷◌, ◌++◌, flat_map, Some, None, ◌⊎◌, slice_get}
use Rattle.std.specs.List.Sorted.{IsPermutation}
use Rattle.ug_types.specs.Elements.{Has}
use Rattle.ug_types.specs.Names.{parent_of}
use Rattle.ug_types.specs.declared.record.Judged.{Judged}
use Rattle.ug_kernel.specs.declared.control.Control.TheVariants.{Authorized}
use Rattle.ug_kernel.specs.declared.control.Write.{Write}
use Rattle.ug_kernel.specs.declared.device.Device.{Device}
use Rattle.ug_kernel.specs.declared.calls.Listing.TheVariants as listing
use Rattle.ug_kernel.specs.declared.calls.Opened.TheVariants as opened
use Rattle.ug_kernel.specs.declared.calls.ReadOut.TheVariants as out
use Rattle.ug_kernel.specs.Calls.{Call, Names, Open, Read, Ask_alive, Put, Close, Answer}
use Rattle.ug_kernel.specs.Kernel.{Kernel, Live, IsKernel}
use Rattle.ug_kernel.specs.Called.{DoesCall, SaysAnswer}
use Rattle.ug_kernel.specs.Along.{failure}
use Rattle.ug_kernel.specs.Tree.{Prog, Return, Ask, Room}
use Rattle.ug_audit.specs.declared.entry.Entry.{Entry}
use Rattle.ug_audit.specs.declared.entry.Entry.TheVariants as entry
use Rattle.ug_table.specs.Bring.{wants, is_reject, default_write}
use Rattle.ug_table.specs.State.{State, Answers, Laters, terms_for}
use Rattle.ug_table.specs.Sweep.{settling_all, sweeping}
use Rattle.ug_table.specs.Laws.{Stand, AreInOrder, IsGone, HasStanding}
use Rattle.ug_table.specs.declared.standing.Standing.{Standing}

-- the memory of a call is granted
abbrev pub IsGranted : (call : Call) → Answer call → Type 0
IsGranted Names told = told.answer ≡ listing.Memory → ⊥
IsGranted (Open name control) told = told.answer ≡ opened.Memory → ⊥
IsGranted (Read name attr) told = told.answer ≡ out.Memory → ⊥
IsGranted (Ask_alive held) told = Unit {0}
IsGranted (Put held what) told = Unit {0}
IsGranted (Close held) told = Unit {0}

-- a call has its effect, and the kernel doesn't move; it doesn't fail, and gets its memory
pub record IsStill (k : Kernel) (call : Call) (told : Answer call) (l : Kernel) : Type 0 where
  pub does : DoesCall call told k l
  pub says : SaysAnswer call told k l
  pub calm : failure call told ≡ []
  pub granted : IsGranted call told

-- each call is so, and room is granted wherever it is asked for
abbrev pub RunsStill : {R : Type 0} → Kernel → Prog R → R → Kernel → Type 0
RunsStill k (Return value) r l = (r ≡ value) × (l ≡ k)
RunsStill k (Ask call next) r l =
    (told : Answer call) × (m : Kernel) × IsStill k call told m × RunsStill m (next told) r l
RunsStill k (Room next) r l = RunsStill k (next true) r l

-- the standing's held file is that device's
abbrev pub IsFileOfStanding : Kernel → Standing → ℕ → Type 0
IsFileOfStanding k s i =
    slice_get k.held s.held.0 ≡ Some (record { device = i; control = Authorized })

-- The device is there as its standing says, which is marked as settled: it has the value that its
-- verdict wants, was removed where that rejects it, and a root hub's default was written where one
-- is. So a sweep has nothing to write.
pub record HasNothingDue {J : Type 0} (k : Kernel) (w : State J) (i : ℕ) (d : Device) : Type 0
  where
    pub standing : HasStanding k w.standings i
    pub settled : standing.s.settled ≡ true
    pub value : d.on ≡ wants standing.s.verdict
    pub removed : is_reject standing.s.verdict ≡ true → standing.s.removed ≡ true
    pub defaulted : (what : Write) → parent_of d.name ≡ None → default_write w.hub ≡ Some what
        → standing.s.defaulted ≡ true

-- each live device of another name than these is so
abbrev pub AreSettledElsewhere : {J : Type 0} → List (List ℕ) → Kernel → State J → Type 0
AreSettledElsewhere names k w =
    (i : ℕ) (d : Device) → Live k.devices i d → (Has names d.name → ⊥) → HasNothingDue k w i d

-- the device of the standing is gone
abbrev pub IsOfGone : Kernel → Standing → Type 0
IsOfGone k s = (i : ℕ) × IsFileOfStanding k s i × IsGone k i

-- each standing whose device is gone has one of the names
abbrev pub AreGoneAmong : List (List ℕ) → Kernel → List Standing → Type 0
AreGoneAmong names k ss = (s : Standing) → Has ss s → IsOfGone k s → Has names s.name

-- what the judge may be behind some verdicts
pub data TurnsInto {J : Type 0} (later : Laters J) (judge : J) : J → Type 0 where
  Unchanged : TurnsInto later judge judge
  Behind_one : (other : J) (dev : Judged) (root present on : Bool) (ss : List Standing)
      → TurnsInto later judge other → TurnsInto later judge (later other dev root present on ss)

-- the judge looks at no standings, now and behind any verdicts
abbrev pub LooksAtNone : {J : Type 0} → Answers J → Laters J → J → Type 0
LooksAtNone {J} answer later judge =
    (other : J) → TurnsInto later judge other
    → (dev : Judged) (root present on : Bool) (ss rs : List Standing)
    → (answer other dev root present on ss ≡ answer other dev root present on rs)
    × (later other dev root present on ss ≡ later other dev root present on rs)

-- each standing of a device that is gone has the name of a live one
abbrev pub AreBorne : Kernel → List Standing → Type 0
AreBorne k ss =
    (s : Standing) → Has ss s → IsOfGone k s
    → (j : ℕ) × (d : Device) × Live k.devices j d × (d.name ≡ s.name)

-- the `gone` entries, and the others

abbrev pub departure_in : Entry → List Entry
departure_in (entry.Gone number name) = entry.Gone number name ∷ []
departure_in e = []

abbrev pub other_than_departure : Entry → List Entry
other_than_departure (entry.Gone number name) = []
other_than_departure e = e ∷ []

-- Both end alike: the standings, the next number, what the judge is, and the kernel, with its log.
-- The entries are the same, but for the places of `gone`.
pub record EndsAlike {J : Type 0} (w : State J) (l : Kernel) (v : State J) (m : Kernel)
    (u : State J) : Type 0 where
  pub standings : u.standings ≡ v.standings
  pub next : u.next ≡ v.next
  pub judge : u.judge ≡ v.judge
  pub listed : u.listed ≡ v.listed
  pub kernel : m ≡ l
  pub swept : List Entry
  pub told : List Entry
  pub after_sweep : v.entries ≡ w.entries ++ swept
  pub after_names : u.entries ≡ w.entries ++ told
  pub others : flat_map other_than_departure told ≡ flat_map other_than_departure swept
  pub gone : IsPermutation (flat_map departure_in told) (flat_map departure_in swept)

-- the facts from which the settling of these names ends as a sweep does; the last is the given one,
-- or else that gone devices left their names to live ones
pub record AreEnoughWith {J : Type 0} (Unseen : Type 0) (names : List (List ℕ)) (k : Kernel)
    (w : State J) : Type 0 where
  pub order : AreInOrder names
  pub sound : IsKernel k
  pub stand : Stand k w.standings w.next
  pub listed : w.listed ≡ true
  pub elsewhere : AreSettledElsewhere names k w
  pub gone : AreGoneAmong names k w.standings
  pub unseen : Unseen ⊎ AreBorne k w.standings

abbrev pub AreEnough : {J : Type 0} → Answers J → Laters J → List (List ℕ) → Kernel → State J
    → Type 0
AreEnough {J} answer later names k w = AreEnoughWith (LooksAtNone answer later w.judge) names k w

-- a sweep and the settling of the names end alike
abbrev pub BothEndAlike : {J : Type 0} → Answers J → Laters J → List (List ℕ) → Kernel → State J
    → Type 0
BothEndAlike {J} answer later names k w =
    (l : Kernel) (v : State J) (m : Kernel) (u : State J)
    → RunsStill k (sweeping answer later w) v l
    → RunsStill k (settling_all answer later names (terms_for w) w) u m → EndsAlike w l v m u

-- the law
abbrev pub ComparesWithSweep : {J : Type 0} → Answers J → Laters J → List (List ℕ) → Kernel
    → State J → Type 0
ComparesWithSweep {J} answer later names k w =
    AreEnough answer later names k w → BothEndAlike answer later names k w
