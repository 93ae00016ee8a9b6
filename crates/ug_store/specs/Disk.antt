-- The rule file's disk as plain data, with what a crash may leave of the rule file at each moment.
use Rattle.std.specs.Prelude.{◌≡◌, ℕ, ◌<◌, ◌≤◌, Bool, true, false, List, [], ◌∷◌, ◌++◌, length, Option, Some, ◌⊎◌}
use Rattle.ug_types.specs.Elements.{Has}
use Rattle.ug_types.specs.Limits.{text_limit}
use Rattle.ug_store.specs.DiskCalls.{DiskCall, Load, Write_new, Sync_new, Swap, DiskTold}
use Rattle.ug_store.specs.declared.disk.DiskAnswer.{DiskAnswer}
use Rattle.ug_store.specs.declared.disk.DiskAnswer.TheVariants as answer
use Rattle.ug_store.specs.declared.disk.Loaded.{Loaded}
use Rattle.ug_store.specs.declared.disk.Loaded.TheVariants as loaded

-- what a crash may leave: one of these texts, or any bytes
pub data Images : Type 0 where
  Texts : (texts : List (List ℕ)) → Images
  Anything : Images

abbrev pub IsImage : Images → List ℕ → Type 0
IsImage (Texts texts) text = Has texts text
IsImage Anything text = Unit {0}

abbrev pub or_text : Images → List ℕ → Images
or_text (Texts texts) text = Texts (texts ++ text ∷ [])
or_text Anything text = Anything

pub record Disk : Type 0 where
  -- the rule file's text
  pub text : List ℕ
  -- the new file's text
  pub fresh : List ℕ
  -- the new file was synced since its last write
  pub synced : Bool
  -- what a crash may leave now
  pub left : Images
  -- what a crash might have left within each call so far, in their order
  pub past : List Images

-- a crash in a swap leaves what it might have left before, or the new text; any bytes, where that
-- wasn't synced
abbrev pub while_swapping : Bool → Images → List ℕ → Images
while_swapping true left fresh = or_text left fresh
while_swapping false left fresh = Anything

-- a crash in the call may leave this
abbrev pub inside : DiskCall → Disk → Images
inside Load m = m.left
inside (Write_new text) m = m.left
inside Sync_new m = m.left
inside Swap m = while_swapping m.synced m.left m.fresh

-- the files are as they were, and so is what a crash may leave
pub record IsAsItWas (m n : Disk) : Type 0 where
  pub text : n.text ≡ m.text
  pub fresh : n.fresh ≡ m.fresh
  pub synced : n.synced ≡ m.synced
  pub left : n.left ≡ m.left

-- what was read is the whole rule file, and an absent file is the empty text
abbrev pub ReadsFile : Loaded → List ℕ → Type 0
ReadsFile (loaded.Bytes text) file = (text ≡ file) × (length file ≤ text_limit)
ReadsFile loaded.Absent file = file ≡ []
ReadsFile loaded.TooLong file = text_limit < length file
ReadsFile loaded.Failed file = Unit {0}
ReadsFile loaded.Memory file = Unit {0}

-- a new text is in the new file, and isn't synced
pub record IsWrittenNew (bytes : List ℕ) (m n : Disk) : Type 0 where
  pub text : n.text ≡ m.text
  pub fresh : n.fresh ≡ bytes
  pub synced : n.synced ≡ false
  pub left : n.left ≡ m.left

-- a write that failed may have left any bytes in the new file
abbrev pub WroteNew : DiskAnswer → List ℕ → Disk → Disk → Type 0
WroteNew answer.Done text m n = IsWrittenNew text m n
WroteNew answer.Failed text m n = IsAsItWas m n ⊎ ((bytes : List ℕ) × IsWrittenNew bytes m n)
WroteNew answer.Memory text m n = IsAsItWas m n

abbrev pub SyncedNew : DiskAnswer → Disk → Disk → Type 0
SyncedNew answer.Done m n = IsAsItWas (record m { synced = true }) n
SyncedNew answer.Failed m n = IsAsItWas m n ⊎ IsAsItWas (record m { synced = true }) n
SyncedNew answer.Memory m n = ⊥

-- after a swap that was done a crash leaves the new text alone
abbrev pub Swapped : DiskAnswer → Disk → Disk → Type 0
Swapped answer.Done m n = (n.text ≡ m.fresh) × (n.left ≡ Texts (m.fresh ∷ []))
Swapped answer.Failed m n =
    ((n.text ≡ m.text) ⊎ (n.text ≡ m.fresh)) × (n.left ≡ while_swapping m.synced m.left m.fresh)
Swapped answer.Memory m n = ⊥

abbrev pub DiskEffect : (call : DiskCall) → DiskTold call → Disk → Disk → Type 0
DiskEffect Load told m n = ReadsFile told.answer m.text × IsAsItWas m n
DiskEffect (Write_new text) told m n = WroteNew told.answer text m n
DiskEffect Sync_new told m n = SyncedNew told.answer m n
DiskEffect Swap told m n = Swapped told.answer m n

-- a call of the disk
pub record DiskCalled (call : DiskCall) (told : DiskTold call) (m n : Disk) : Type 0 where
  pub effect : DiskEffect call told m n
  pub past : n.past ≡ m.past ++ inside call m ∷ []

-- a disk was told before the call too, and the call went from it to this one
pub record FollowsOnDisk (call : DiskCall) (told : DiskTold call) (was : Option Disk)
    (n : Disk) : Type 0 where
  pub disk : Disk
  pub was_told : was ≡ Some disk
  pub called : DiskCalled call told disk n
