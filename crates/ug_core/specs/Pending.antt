-- When a pending save is tried, what is told of saves, and whether one is pending behind an event.
use Rattle.std.specs.Prelude.{◌≡◌, Bool, true, false, List, [], ◌∷◌, ◌++◌, Option, Some, None, is_some}
use Rattle.ug_types.specs.declared.saved.Saved.{Saved}
use Rattle.ug_types.specs.declared.saved.Saved.TheVariants as saved
use Rattle.ug_audit.specs.declared.entry.Entry.{Entry}
use Rattle.ug_audit.specs.declared.entry.Entry.TheVariants as entry
use Rattle.ug_core.specs.Event.{DaemonState, first_entry}
use Rattle.ug_types.specs.declared.event.Event.{Event}
use Rattle.ug_core.specs.declared.storing.Stored.{Stored}
use Rattle.ug_core.specs.declared.storing.Stored.TheVariants as stored

-- what the entries of saves tell, in order
abbrev pub saves_in : List Entry → List Saved
saves_in [] = []
saves_in (entry.Save saved ∷ es) = saved ∷ saves_in es
saves_in (e ∷ es) = saves_in es

-- of the save of an order one is told that was done or failed
abbrev pub saves_stored : Stored → List Saved
saves_stored stored.Done = saved.Done ∷ []
saves_stored (stored.Failed count) = saved.Failed count ∷ []
saves_stored stored.NotNeeded = []
saves_stored stored.TooLong = []
saves_stored stored.Memory = []

-- of a pending save that was tried, whatever became of it
abbrev pub saves_tried : Option Saved → List Saved
saves_tried None = []
saves_tried (Some saved) = saved ∷ []

-- Whether a save is pending then: the last one that was done or failed decides, and that of an
-- order comes behind a pending one. Where neither was, it is as before.
abbrev pub IsPendingThen : Option Saved → Stored → Bool → Bool → Type 0
IsPendingThen tried stored.Done was now = now ≡ false
IsPendingThen tried (stored.Failed count) was now = now ≡ true
IsPendingThen (Some saved.Done) became was now = now ≡ false
IsPendingThen (Some (saved.Failed count)) became was now = now ≡ true
IsPendingThen (Some saved.Memory) became was now = now ≡ was
IsPendingThen None became was now = now ≡ was

-- A save is tried before all else exactly where one was pending. What became of it stands directly
-- behind the event's first entry, and of saves nothing else is told but that of the order.
pub record TriesSave (event : Event) (tried : Option Saved) (became : Stored)
    (d e : DaemonState) : Type 0 where
  pub when : is_some tried ≡ d.pending
  pub rest : List Entry
  pub told : e.sweep.entries ≡ first_entry d.event event ∷ rest
  pub at : (saved : Saved) → tried ≡ Some saved
      → (later : List Entry) × (rest ≡ entry.Save saved ∷ later)
  pub saves : saves_in rest ≡ saves_tried tried ++ saves_stored became
  pub pending : IsPendingThen tried became d.pending e.pending
