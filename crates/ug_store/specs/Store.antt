-- The saving of a text and its reading at a start, and what a crash may leave at any moment of
-- them.
use Rattle.std.specs.Prelude.{◌≡◌, ℕ, ◌<◌, ◌≤◌, Bool, true, false, List, [], ◌∷◌, ◌++◌, length, Option, Some, Result, Ok, Err, ◌⊎◌}
use Rattle.ug_types.specs.Elements.{Has}
use Rattle.ug_types.specs.Ends.{Rose}
use Rattle.ug_types.specs.Limits.{text_limit}
use Rattle.ug_store.specs.DiskCalls.{DiskCall, Load, Write_new, Sync_new, Swap, DiskTold}
use Rattle.ug_store.specs.Disk.{Disk, Images, Texts, IsImage, IsAsItWas}
use Rattle.ug_store.specs.declared.disk.DiskAnswer.{DiskAnswer}
use Rattle.ug_store.specs.declared.disk.DiskAnswer.TheVariants as answer
use Rattle.ug_store.specs.declared.disk.Loaded.{Loaded}
use Rattle.ug_store.specs.declared.disk.Loaded.TheVariants as loaded
use Rattle.ug_types.specs.declared.saved.Saved.{Saved}
use Rattle.ug_types.specs.declared.saved.Saved.TheVariants as saved
use Rattle.ug_store.specs.declared.store.RecoverFault.{RecoverFault}
use Rattle.ug_store.specs.declared.store.RecoverFault.TheVariants as fault

-- what is done with the rule file, by the answers of its disk, and by whether memory was there
pub data DiskProg (R : Type 0) : Type 0 where
  Ended : (value : R) → DiskProg R
  AskDisk : (call : DiskCall) → (next : DiskTold call → DiskProg R) → DiskProg R
  DiskRoom : (next : Bool → DiskProg R) → DiskProg R

-- a run of the tree from one state to another, where keeps says what a call may be answered and
-- what it leaves
abbrev pub RunsDisk : {S R : Type 0} → (S → (call : DiskCall) → DiskTold call → S → Type 0) → S
    → DiskProg R → R → S → Type 0
RunsDisk keeps s (Ended value) r t = (r ≡ value) × (t ≡ s)
RunsDisk {S} keeps s (AskDisk call next) r t =
    (a : DiskTold call) × (u : S) × keeps s call a u × RunsDisk keeps u (next a) r t
RunsDisk keeps s (DiskRoom next) r t = (b : Bool) × RunsDisk keeps s (next b) r t

-- one tree, and then another that its result picks
abbrev pub then_disk : {R Q : Type 0} → DiskProg R → (R → DiskProg Q) → DiskProg Q
then_disk (Ended a) f = f a
then_disk (AskDisk call next) f = AskDisk call (λ a. then_disk (next a) f)
then_disk (DiskRoom next) f = DiskRoom (λ b. then_disk (next b) f)

abbrev pub after_swap : DiskAnswer → ℕ → DiskProg Saved
after_swap answer.Done count = Ended saved.Done
after_swap answer.Failed count = Ended (saved.Failed count)
after_swap answer.Memory count = Ended saved.Memory

abbrev pub after_sync_new : DiskAnswer → ℕ → DiskProg Saved
after_sync_new answer.Done count = AskDisk Swap (λ t. after_swap t.answer t.count)
after_sync_new answer.Failed count = Ended (saved.Failed count)
after_sync_new answer.Memory count = Ended saved.Memory

abbrev pub after_write_new : DiskAnswer → ℕ → DiskProg Saved
after_write_new answer.Done count = AskDisk Sync_new (λ t. after_sync_new t.answer t.count)
after_write_new answer.Failed count = Ended (saved.Failed count)
after_write_new answer.Memory count = Ended saved.Memory

-- write, sync, swap; the first that isn't done ends it
unfoldable pub saving : List ℕ → DiskProg Saved
saving text = AskDisk (Write_new text) (λ t. after_write_new t.answer t.count)

abbrev pub after_load : Loaded → ℕ → DiskProg (Result (List ℕ) RecoverFault)
after_load (loaded.Bytes text) count = Ended (Ok text)
after_load loaded.Absent count = Ended (Ok [])
after_load loaded.TooLong count = Ended (Err fault.TooLong)
after_load loaded.Failed count = Ended (Err (fault.Failed count))
after_load loaded.Memory count = Ended (Err fault.Memory)

-- the rule file is read once; an absent one is the empty text
unfoldable pub recovering : DiskProg (Result (List ℕ) RecoverFault)
recovering = AskDisk Load (λ t. after_load t.answer t.count)

-- each of these texts was left before, or is the one that is saved
abbrev pub IsOldOr : Images → List ℕ → Images → Type 0
IsOldOr before text after = (c : List ℕ) → IsImage after c → IsImage before c ⊎ (c ≡ text)

-- a crash that comes now leaves the saved text alone; what it left before, or that text; or what it
-- left before
abbrev pub SavedAs : Saved → List ℕ → Disk → Disk → Type 0
SavedAs saved.Done text m n = (n.text ≡ text) × (n.left ≡ Texts (text ∷ []))
SavedAs (saved.Failed count) text m n =
    ((n.text ≡ m.text) ⊎ (n.text ≡ text)) × IsOldOr m.left text n.left
SavedAs saved.Memory text m n = IsAsItWas m n

-- Within each call since, a crash leaves what it might have left before, or the text. Where memory
-- was refused for the new file, it leaves just what it might have left before.
pub record HasSaved (text : List ℕ) (m : Disk) (r : Saved) (n : Disk) : Type 0 where
  pub since : List Images
  pub past : n.past ≡ m.past ++ since
  pub each : (images : Images) → Has since images → IsOldOr m.left text images
  pub wanting : r ≡ saved.Memory → (images : Images) → Has since images → images ≡ m.left
  pub now : SavedAs r text m n

-- where a disk is told at the end, one was told at the start
abbrev pub Saves : {S : Type 0} → (S → Option Disk) → List ℕ → S → Saved → S → Type 0
Saves told text s r t =
    (n : Disk) → told t ≡ Some n → (m : Disk) × (told s ≡ Some m) × HasSaved text m r n

-- the count that a failed save tells is the disk's, and it rose
abbrev pub TellsSaveFault : Saved → ℕ → ℕ → Type 0
TellsSaveFault (saved.Failed count) before after = (count ≡ after) × Rose before after
TellsSaveFault saved.Done before after = Unit {0}
TellsSaveFault saved.Memory before after = Unit {0}

-- a save that failed is pending, and stays so until one is done
abbrev pub pending_after : Saved → Bool → Bool
pending_after saved.Done was = false
pending_after (saved.Failed count) was = true
pending_after saved.Memory was = was

-- the text is the rule file's, which is too long exactly above the limit
abbrev pub RecoversFrom : Result (List ℕ) RecoverFault → List ℕ → Type 0
RecoversFrom (Ok text) file = (text ≡ file) × (length file ≤ text_limit)
RecoversFrom (Err fault.TooLong) file = text_limit < length file
RecoversFrom (Err (fault.Failed count)) file = Unit {0}
RecoversFrom (Err fault.Memory) file = Unit {0}

-- reading leaves the files as they were, and so what a crash may leave, at each moment
pub record HasRecovered (m : Disk) (r : Result (List ℕ) RecoverFault) (n : Disk) : Type 0 where
  pub file : RecoversFrom r m.text
  pub still : IsAsItWas m n
  pub past : n.past ≡ m.past ++ m.left ∷ []

-- where a disk is told at the end, one was told at the start
abbrev pub Recovers : {S : Type 0} → (S → Option Disk) → S → Result (List ℕ) RecoverFault → S
    → Type 0
Recovers told s r t =
    (n : Disk) → told t ≡ Some n → (m : Disk) × (told s ≡ Some m) × HasRecovered m r n

-- the count that a failed reading tells is the disk's, and it rose
abbrev pub TellsRecoverFault : Result (List ℕ) RecoverFault → ℕ → ℕ → Type 0
TellsRecoverFault (Err (fault.Failed count)) before after = (count ≡ after) × Rose before after
TellsRecoverFault (Err fault.TooLong) before after = Unit {0}
TellsRecoverFault (Err fault.Memory) before after = Unit {0}
TellsRecoverFault (Ok text) before after = Unit {0}

-- a result with its value seen through f
abbrev pub seen_by : {A B E : Type 0} → (A → B) → Result A E → Result B E
seen_by f (Ok value) = Ok (f value)
seen_by f (Err e) = Err e
