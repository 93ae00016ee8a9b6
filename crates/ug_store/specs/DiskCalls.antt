-- The calls of the rule file's disk, and what each may be answered.
use Rattle.std.specs.Prelude.{◌≡◌, ℕ, ◌≤◌, Bool, true, false, List, length}
use Rattle.ug_types.specs.Ends.{IsCounted, Rose}
use Rattle.ug_types.specs.Limits.{text_limit}
use Rattle.ug_store.specs.declared.disk.DiskAnswer.{DiskAnswer}
use Rattle.ug_store.specs.declared.disk.DiskAnswer.TheVariants as answer
use Rattle.ug_store.specs.declared.disk.Loaded.{Loaded}
use Rattle.ug_store.specs.declared.disk.Loaded.TheVariants as loaded

pub data DiskCall : Type 0 where
  -- the rule file's text
  Load : DiskCall
  -- a text goes into the new file
  Write_new : (text : List ℕ) → DiskCall
  -- the new file's text is made durable
  Sync_new : DiskCall
  -- the new file takes the rule file's place
  Swap : DiskCall

abbrev pub DiskReply : DiskCall → Type 0
DiskReply Load = Loaded
DiskReply (Write_new text) = DiskAnswer
DiskReply Sync_new = DiskAnswer
DiskReply Swap = DiskAnswer

-- an answer, with the count of the disk's faults after it
pub record DiskTold (call : DiskCall) : Type 0 where
  pub answer : DiskReply call
  pub count : ℕ

abbrev pub FitsLoaded : Loaded → Type 0
FitsLoaded (loaded.Bytes text) = length text ≤ text_limit
FitsLoaded loaded.Absent = Unit {0}
FitsLoaded loaded.TooLong = Unit {0}
FitsLoaded loaded.Failed = Unit {0}
FitsLoaded loaded.Memory = Unit {0}

-- the call was done, or failed: it never wants memory
abbrev pub NeedsNoMemory : DiskAnswer → Type 0
NeedsNoMemory answer.Done = Unit {0}
NeedsNoMemory answer.Failed = Unit {0}
NeedsNoMemory answer.Memory = ⊥

abbrev pub failed_load : Loaded → Bool
failed_load loaded.Failed = true
failed_load (loaded.Bytes text) = false
failed_load loaded.Absent = false
failed_load loaded.TooLong = false
failed_load loaded.Memory = false

abbrev pub failed_answer : DiskAnswer → Bool
failed_answer answer.Done = false
failed_answer answer.Failed = true
failed_answer answer.Memory = false

abbrev pub failed_on : (call : DiskCall) → DiskReply call → Bool
failed_on Load a = failed_load a
failed_on (Write_new text) a = failed_answer a
failed_on Sync_new a = failed_answer a
failed_on Swap a = failed_answer a

-- an answer tells the count of faults, which rises where the call failed
pub record CountsOnDisk (call : DiskCall) (told : DiskTold call) (before after : ℕ) : Type 0 where
  pub count : told.count ≡ after
  pub counted : IsCounted before after
  pub cause : failed_on call told.answer ≡ true → Rose before after
