-- What the rule file holds after any list of savings and readings, and what a crash leaves of it
-- then.
use Rattle.std.specs.Prelude.{◌≡◌, ℕ, List, [], ◌∷◌, ◌++◌, Result, Ok, ◌⊎◌}
use Rattle.ug_types.specs.Elements.{Has}
use Rattle.ug_store.specs.DiskCalls.{DiskCall, DiskTold}
use Rattle.ug_store.specs.Disk.{Disk, Images, Texts, IsImage, inside, DiskCalled}
use Rattle.ug_store.specs.Store.{HasSaved, HasRecovered}
use Rattle.ug_types.specs.declared.saved.Saved.{Saved}
use Rattle.ug_types.specs.declared.saved.Saved.TheVariants as saved
use Rattle.ug_store.specs.declared.store.RecoverFault.{RecoverFault}

-- what was done with the rule file, and how it went
pub data StoreStep : Type 0 where
  Saves_text : (text : List ℕ) → (answer : Saved) → StoreStep
  Reads_text : (answer : Result (List ℕ) RecoverFault) → StoreStep

-- these steps lead from one disk to the other
abbrev pub StoreSteps : Disk → List StoreStep → Disk → Type 0
StoreSteps m [] n = n ≡ m
StoreSteps m (Saves_text text answer ∷ steps) n =
    (u : Disk) × HasSaved text m answer u × StoreSteps u steps n
StoreSteps m (Reads_text answer ∷ steps) n =
    (u : Disk) × HasRecovered m answer u × StoreSteps u steps n

abbrev pub IsDoneSaving : StoreStep → Type 0
IsDoneSaving (Saves_text text saved.Done) = Unit {0}
IsDoneSaving (Saves_text text (saved.Failed count)) = ⊥
IsDoneSaving (Saves_text text saved.Memory) = ⊥
IsDoneSaving (Reads_text answer) = ⊥

-- no save is done among them
abbrev pub NoneDone : List StoreStep → Type 0
NoneDone steps = (step : StoreStep) → Has steps step → IsDoneSaving step → ⊥

-- the save came as far as the disk: it didn't want memory
abbrev pub CameToDisk : Saved → Type 0
CameToDisk saved.Done = Unit {0}
CameToDisk (saved.Failed count) = Unit {0}
CameToDisk saved.Memory = ⊥

-- it is the text of the last save that was done, or of one since that failed
pub record IsOfSave (steps : List StoreStep) (text : List ℕ) : Type 0 where
  pub before : List StoreStep
  pub answer : Saved
  pub after : List StoreStep
  pub at : steps ≡ before ++ Saves_text text answer ∷ after
  pub came : CameToDisk answer
  pub none : NoneDone after

-- it is such a text, or the first one where no save was done
abbrev pub MayStand : List ℕ → List StoreStep → List ℕ → Type 0
MayStand first steps text = IsOfSave steps text ⊎ ((text ≡ first) × NoneDone steps)

-- at the start the rule file has this text, and a crash leaves no other
abbrev pub HoldsOnly : List ℕ → Disk → Type 0
HoldsOnly first m = (m.text ≡ first) × (m.left ≡ Texts (first ∷ []))

-- after the steps, the rule file and each text that a crash leaves may stand
abbrev pub StandsAfter : Type 0
StandsAfter =
    (first : List ℕ) (m : Disk) (steps : List StoreStep) (n : Disk) → HoldsOnly first m
    → StoreSteps m steps n
    → MayStand first steps n.text × ((c : List ℕ) → IsImage n.left c → MayStand first steps c)

-- within each save that follows them, each text that a crash leaves may stand, or is the one that
-- is being saved
abbrev pub StandsWithin : Type 0
StandsWithin =
    (first : List ℕ) (m : Disk) (steps : List StoreStep) (u : Disk) → HoldsOnly first m
    → StoreSteps m steps u
    → (text : List ℕ) (answer : Saved) (n : Disk) (save : HasSaved text u answer n)
    (images : Images) → Has save.since images
    → (c : List ℕ) → IsImage images c → MayStand first steps c ⊎ (c ≡ text)

-- a reading that follows them gives a text that may stand
abbrev pub ReadsStanding : Type 0
ReadsStanding =
    (first : List ℕ) (m : Disk) (steps : List StoreStep) (u : Disk) → HoldsOnly first m
    → StoreSteps m steps u
    → (text : List ℕ) (n : Disk) → HasRecovered u (Ok text) n → MayStand first steps text

-- what a crash leaves before a call or after it, it may leave within the call too
abbrev pub CoversEnds : Type 0
CoversEnds = (call : DiskCall) (told : DiskTold call) (m n : Disk) → DiskCalled call told m n
    → (c : List ℕ) → IsImage m.left c ⊎ IsImage n.left c → IsImage (inside call m) c

-- a crash may leave the rule file as it is
abbrev pub StaysPossible : Type 0
StaysPossible = (call : DiskCall) (told : DiskTold call) (m n : Disk) → DiskCalled call told m n
    → IsImage m.left m.text → IsImage n.left n.text

-- the rule file that a call leaves, whether it was done or failed, is one that a stop within the
-- call may leave
abbrev pub LeavesInside : Type 0
LeavesInside = (call : DiskCall) (told : DiskTold call) (m n : Disk) → DiskCalled call told m n
    → IsImage m.left m.text → IsImage (inside call m) n.text
