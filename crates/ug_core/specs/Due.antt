-- What the last stage of an event needs and does, where names may be due.
use Rattle.std.specs.Prelude.{◌≡◌, ◌≤◌, ◌<◌, ◌+◌, ◌*◌, ◌^◌, ℕ, List, length, Option, Some, None}
use Rattle.ug_kernel.specs.Calls.{Call, Answer}
use Rattle.ug_kernel.specs.Kernel.{Kernel, IsKernel}
use Rattle.ug_kernel.specs.Along.{AreNumbered, Rises, failures}
use Rattle.ug_table.specs.State.{State}
use Rattle.ug_table.specs.Laws.{AreInOrder, Stand}
use Rattle.ug_table.specs.Parts.{failures_told}
use Rattle.ug_core.specs.Policy.{Judging}
use Rattle.ug_types.specs.Events.{longest_piece}
use Rattle.ug_core.specs.Laws.{GoesAsDue, SettlesDue}

abbrev pub AreDueInOrder : Option (List (List ℕ)) → Type 0
AreDueInOrder None = Unit {0}
AreDueInOrder (Some names) = AreInOrder names

-- the most entries of it, before it makes room for those of a listing
abbrev pub entries_due : Option (List (List ℕ)) → ℕ → ℕ
entries_due None standings = 10 * standings + 2
entries_due (Some names) standings = 10 * length names + 2

-- how many standings there may be more, without a listing
abbrev pub standings_due : Option (List (List ℕ)) → ℕ
standings_due None = 0
standings_due (Some names) = length names

-- the names that are due are in order, each once, and there are few; and there is room for what is
-- noted of them, beside a place for each member that isn't dropped
pub record FitsDue (due : Option (List (List ℕ))) (standings live places most : ℕ) : Type 0 where
  pub order : AreDueInOrder due
  pub few : standings_due due ≤ longest_piece
  pub spare : entries_due due standings + live ≤ places
  pub room : 10 * (standings + standings_due due) + 128 ≤ most

-- where a kernel is told behind it, one was told before it; and where that is sound and the
-- standings are of its devices, the law of the stage holds
abbrev pub SettlesDueIn : {S : Type 0} → (S → Option Kernel) → Option (List (List ℕ)) → S
    → State Judging → S → State Judging → Type 0
SettlesDueIn told due s w t v =
    (l : Kernel) → told t ≡ Some l
    → (k : Kernel) × (told s ≡ Some k)
    × (IsKernel k → Stand k w.standings w.next → SettlesDue due k w l v)

-- its calls and entries, as an event tells them
pub record TellsDue {S : Type 0} (gives : S → (call : Call) → Answer call → S → Type 0)
    (calls faults : S → ℕ) (due : Option (List (List ℕ))) (s : S) (w : State Judging) (t : S)
    (v : State Judging) : Type 0 where
  pub goes : GoesAsDue gives calls faults due s w t v
  pub exact : failures_told goes.rest ≡ failures goes.telling
  pub numbered : AreNumbered (calls s) goes.made
  pub rises : calls s < 2 ^ 64 → Rises (calls s) (faults s) (failures_told goes.rest)
