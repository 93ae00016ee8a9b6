-- What the settling of given names does: a sweep's parts of these names, without its listing.
use Rattle.std.specs.Prelude.{◌≡◌, ℕ, ◌+◌, ◌^◌, ◌<◌, ◌≤◌, true, ◌&&◌, length, List, ◌++◌, Option, Some, ◌⊎◌}
use Rattle.ug_types.specs.Elements.{Has, AllDistinct}
use Rattle.ug_kernel.specs.declared.device.Device.{Device}
use Rattle.ug_kernel.specs.Calls.{Call, Answer}
use Rattle.ug_kernel.specs.Kernel.{Kernel, IsKernel}
use Rattle.ug_kernel.specs.Called.{Lived}
use Rattle.ug_kernel.specs.Along.{Made, Along, failures, AreNumbered, Rises}
use Rattle.ug_audit.specs.declared.entry.Entry.{Entry}
use Rattle.ug_table.specs.State.{State, Answers, Laters, Terms}
use Rattle.ug_table.specs.Standings.{lists}
use Rattle.ug_table.specs.Laws.{Stand, AreDefaulted, Tries, swept_before, AreInOrder, IsFair, IsMarked, IsNamed, IsUnlisted, IsAsJudged, IsSpared}
use Rattle.ug_table.specs.Parts.{InParts, failures_told, numbers_given, unsettled_names}
use Rattle.ug_table.specs.declared.standing.Standing.{Standing}

-- the part of a name has come to its end where that of another begins: it is one of these, and
-- comes before the other
abbrev pub before_among : List (List ℕ) → Tries
before_among names a b = lists names a && swept_before a b

-- a standing of one of the names is marked as is told, and another is as it was
abbrev pub IsMarkedAmong : List (List ℕ) → List Standing → List Entry → Standing → Type 0
IsMarkedAmong names before entries s =
    (Has names s.name × IsMarked entries s) ⊎ ((Has names s.name → ⊥) × Has before s)

-- The calls are the names' parts, and so are the entries. Each call that failed is told with its
-- number and the count of faults after it, but for the probes of parents' held files, and no other
-- is; calls are numbered on, so that both numbers rise. The next number rises by those that are
-- given out, which are no more than the names. Each name is told as unsettled at most once, and no
-- other is; and no listing is told. The marks say the same.
pub record GoesInNames {S J : Type 0} (gives : S → (call : Call) → Answer call → S → Type 0)
    (calls faults : S → ℕ) (terms : Terms) (names : List (List ℕ)) (s : S) (w : State J) (t : S)
    (v : State J) : Type 0 where
  pub made : List Made
  pub ending : List Made
  pub along : Along gives s made t
  pub rest : List Entry
  pub entries : v.entries ≡ w.entries ++ rest
  pub parts : InParts terms.hub true names w.standings v.standings made ending rest
  pub exact : failures_told rest ≡ failures ending
  pub numbered : AreNumbered (calls s) made
  pub rises : calls s < 2 ^ 64 → Rises (calls s) (faults s) (failures_told rest)
  pub next : v.next ≡ w.next + length (numbers_given rest)
  pub given : length (numbers_given rest) ≤ length names
  pub listed : v.listed ≡ w.listed
  pub once : AllDistinct (unsettled_names rest)
  pub only : (name : List ℕ) → IsNamed rest name → Has names name
  pub unlisted : IsUnlisted rest → ⊥
  pub marks : (x : Standing) → Has v.standings x → IsMarkedAmong names w.standings rest x

-- where the names are in order, each once
abbrev pub GoesInOrder : {S J : Type 0} → (S → (call : Call) → Answer call → S → Type 0) → (S → ℕ)
    → (S → ℕ) → Terms → List (List ℕ) → S → State J → S → State J → Type 0
GoesInOrder gives calls faults terms names s w t v =
    AreInOrder names → GoesInNames gives calls faults terms names s w t v

-- The settling of the names is fair; each device of one of them that lived through is as judged, or
-- its name is told; no device that had a standing is named for want of memory, unless it was still
-- to be removed or its default was still to be written; and defaults that were written stay.
pub record SettledNames {J : Type 0} (answer : Answers J) (later : Laters J) (terms : Terms)
    (names : List (List ℕ)) (k : Kernel) (w : State J) (l : Kernel) (v : State J) : Type 0 where
  pub fair : IsFair answer later terms (before_among names) k w l v
  pub settled : (i : ℕ) (d : Device) → Lived k.devices l.devices i d → Has names d.name
      → IsAsJudged terms.hub l v.standings i ⊎ IsNamed fair.rest d.name
  pub spared : IsSpared terms.hub k l w.standings fair.rest
  pub defaults : AreDefaulted terms.hub k w.standings → AreDefaulted terms.hub l v.standings

-- where the names are in order, each once, and a kernel is told at the end, one was told at the
-- start; and where that is sound and the standings are of its devices, that is so
abbrev pub SettlesNames : {S J : Type 0} → (S → Option Kernel) → Answers J → Laters J → Terms
    → List (List ℕ) → S → State J → S → State J → Type 0
SettlesNames told answer later terms names s w t v =
    AreInOrder names → (l : Kernel) → told t ≡ Some l
    → (k : Kernel) × (told s ≡ Some k) × (IsKernel k → Stand k w.standings w.next
    → SettledNames answer later terms names k w l v)
