-- A disk in memory with its script, and what the script fixes.
use Rattle.std.specs.Prelude.{◌≡◌, ℕ, ◌+◌, ◌-◌, ◌^◌, nat_lt, Bool, true, false, cond, not, ◌&&◌, ◌||◌, ◌⊎◌, nat_eq, nat_le, if◌then◌else◌, List, [], ◌∷◌, ◌++◌, length, Option, Some, None}
use Rattle.ug_types.specs.Limits.{text_limit}
use Rattle.ug_store.specs.DiskCalls.{DiskCall, Load, Write_new, Sync_new, Swap, DiskReply, DiskTold}
use Rattle.ug_store.specs.Disk.{Disk, Texts, while_swapping, inside}
use Rattle.ug_store.specs.Passed.{left_within, left_after}
use Rattle.ug_store.specs.declared.disk.DiskAnswer.{DiskAnswer}
use Rattle.ug_store.specs.declared.disk.DiskAnswer.TheVariants as answer
use Rattle.ug_store.specs.declared.disk.Loaded.{Loaded}
use Rattle.ug_store.specs.declared.disk.Loaded.TheVariants as loaded
use Rattle.ug_store.specs.declared.mishap.Mishap.{Mishap}
use Rattle.ug_store.specs.declared.mishap.Mishap.TheVariants as mishap
use Rattle.ug_store.specs.declared.mishap.Planned.{Planned}
use Rattle.ug_store.specs.declared.mem_disk.Passed.{Passed}

-- which calls are to fail, how many calls the event has had, and whether an entry of the calls
-- found no memory
pub record DiskWorld : Type 0 where
  pub disk : Disk
  pub planned : List Planned
  pub stopped : Bool
  pub calls : ℕ
  pub faults : ℕ
  pub ran_out : Bool

-- at first a crash leaves the text
abbrev pub disk_at_first : List ℕ → Disk
disk_at_first text =
    record { text = text; fresh = []; synced = false; left = Texts (text ∷ []); past = [] }

abbrev pub world_at_first : List ℕ → DiskWorld
world_at_first text =
    record {
      disk = disk_at_first text;
      planned = [];
      stopped = false;
      calls = 0;
      faults = 0;
      ran_out = false;
    }

-- one more, up to the greatest number of 64 bits
abbrev pub one_up : ℕ → ℕ
one_up n = cond (nat_lt n (2 ^ 64 - 1)) (n + 1) n

-- what is planned for call n, if anything is. The last plan counts
abbrev pub plan_at : ℕ → Option Planned → List Planned → Option Planned
plan_at n so_far [] = so_far
plan_at n so_far (p ∷ ps) = plan_at n (cond (nat_eq p.call n) (Some p) so_far) ps

-- A call in which the machine stops has its effect only where it swaps.
abbrev pub planned_mishap : Bool → Planned → Mishap
planned_mishap swaps p = cond (p.stops && not swaps) mishap.NoEffect p.mishap

-- how a call fails, if it does: behind a stop each does, and has no effect
abbrev pub fate_by : Bool → Bool → Option Planned → Option Mishap
fate_by true swaps plan = Some mishap.NoEffect
fate_by false swaps None = None
fate_by false swaps (Some p) = Some (planned_mishap swaps p)

abbrev pub stops_by : Option Planned → Bool
stops_by None = false
stops_by (Some p) = p.stops

-- the call is done
abbrev pub goes_well : Option Mishap → Bool
goes_well None = true
goes_well (Some m) = false

abbrev pub takes_effect : Option Mishap → Bool
takes_effect None = true
takes_effect (Some mishap.NoEffect) = false
takes_effect (Some mishap.Effect) = true

abbrev pub answer_of_fate : Option Mishap → DiskAnswer
answer_of_fate None = answer.Done
answer_of_fate (Some m) = answer.Failed

abbrev pub text_or_absent : List ℕ → Loaded
text_or_absent [] = loaded.Absent
text_or_absent (b ∷ bs) = loaded.Bytes (b ∷ bs)

-- what a reading of that text gives
abbrev pub loaded_of : List ℕ → Loaded
loaded_of text = if nat_le (length text) text_limit then text_or_absent text else loaded.TooLong

abbrev pub failed_reply : (call : DiskCall) → DiskReply call
failed_reply Load = loaded.Failed
failed_reply (Write_new text) = answer.Failed
failed_reply Sync_new = answer.Failed
failed_reply Swap = answer.Failed

-- the moment within a call is past
abbrev pub past_within : DiskCall → Disk → Disk
past_within call m = record m { past = m.past ++ inside call m ∷ [] }

abbrev pub written_if : Bool → List ℕ → Disk → Disk
written_if b text m = record m { fresh = cond b text m.fresh; synced = cond b false m.synced }

abbrev pub synced_if : Bool → Disk → Disk
synced_if b m = record m { synced = cond b true m.synced }

-- the new file takes the other's place, and is gone
abbrev pub traded_if : Bool → Disk → Disk
traded_if b m = record m {
  text = cond b m.fresh m.text;
  fresh = cond b [] m.fresh;
  synced = cond b false m.synced;
}

abbrev pub swapped_if : Bool → Bool → Disk → Disk
swapped_if done b m = record (traded_if b m) {
  left = cond done (Texts (m.fresh ∷ [])) (while_swapping m.synced m.left m.fresh);
}

-- what a call does to the files, and to what a crash leaves
abbrev pub disk_after : DiskCall → Option Mishap → Disk → Disk
disk_after Load fate m = m
disk_after (Write_new text) fate m = written_if (takes_effect fate) text m
disk_after Sync_new fate m = synced_if (takes_effect fate) m
disk_after Swap fate m = swapped_if (goes_well fate) (takes_effect fate) m

-- reading isn't numbered, and never fails by the script
abbrev pub with_number : DiskCall → DiskWorld → DiskWorld
with_number Load w = w
with_number (Write_new text) w = record w { calls = one_up w.calls }
with_number Sync_new w = record w { calls = one_up w.calls }
with_number Swap w = record w { calls = one_up w.calls }

abbrev pub fate_at : DiskCall → DiskWorld → Option Mishap
fate_at Load w = None
fate_at (Write_new text) w = fate_by w.stopped false (plan_at w.calls None w.planned)
fate_at Sync_new w = fate_by w.stopped false (plan_at w.calls None w.planned)
fate_at Swap w = fate_by w.stopped true (plan_at w.calls None w.planned)

-- the machine has stopped in this call, or before it
abbrev pub stopped_at : DiskCall → DiskWorld → Bool
stopped_at Load w = w.stopped
stopped_at (Write_new text) w = w.stopped || stops_by (plan_at w.calls None w.planned)
stopped_at Sync_new w = w.stopped || stops_by (plan_at w.calls None w.planned)
stopped_at Swap w = w.stopped || stops_by (plan_at w.calls None w.planned)

abbrev pub reply_by : (call : DiskCall) → Option Mishap → Disk → DiskReply call
reply_by Load fate m = loaded_of m.text
reply_by (Write_new text) fate m = answer_of_fate fate
reply_by Sync_new fate m = answer_of_fate fate
reply_by Swap fate m = answer_of_fate fate

abbrev pub faults_by : Option Mishap → ℕ → ℕ
faults_by fate n = cond (goes_well fate) n (one_up n)

-- the answer that a call returns in a world
abbrev pub told_with : (call : DiskCall) → DiskReply call → DiskWorld → DiskTold call
told_with call reply w = record { answer = reply; count = w.faults }

-- a call in a world that has numbered it
abbrev pub world_after : DiskCall → DiskWorld → DiskWorld
world_after call w = record w {
  disk = disk_after call (fate_at call w) (past_within call w.disk);
  faults = faults_by (fate_at call w) w.faults;
  stopped = stopped_at call w;
}

-- a disk that has run out fails
abbrev pub refused_on : DiskCall → DiskWorld → DiskWorld
refused_on call w = record (with_number call w) { faults = one_up w.faults; ran_out = true }

abbrev pub answering_on : (call : DiskCall) → DiskReply call → DiskWorld → DiskTold call × DiskWorld
answering_on call reply w = (told_with call reply w, w)

-- what the script fixes: the answer, and what it leaves
abbrev pub disk_answer : DiskWorld → (call : DiskCall) → DiskTold call × DiskWorld
disk_answer w call = cond w.ran_out
    (answering_on call (failed_reply call) (refused_on call w))
    (answering_on call (reply_by call (fate_at call (with_number call w)) w.disk)
    (world_after call (with_number call w)))

abbrev pub WantsMemory : (call : DiskCall) → DiskReply call → Type 0
WantsMemory Load a = a ≡ loaded.Memory
WantsMemory (Write_new text) a = a ≡ answer.Memory
WantsMemory Sync_new a = ⊥
WantsMemory Swap a = ⊥

-- memory for a text was refused: the call does nothing, but it is numbered
pub record Unserved (s : DiskWorld) (call : DiskCall) (a : DiskTold call)
    (t : DiskWorld) : Type 0 where
  pub ran : s.ran_out ≡ false
  pub after : t ≡ record (with_number call s) { disk = past_within call s.disk }
  pub memory : WantsMemory call a.answer
  pub count : a.count ≡ t.faults

-- memory for an entry was refused: the call fails, and no disk is told from then on
pub record RunsOutAt (s : DiskWorld) (call : DiskCall) (a : DiskTold call)
    (t : DiskWorld) : Type 0 where
  pub after : t ≡ refused_on call s
  pub answer : a ≡ told_with call (failed_reply call) t

-- the script's answer; or want of memory
abbrev pub MemKeeps : DiskWorld → (call : DiskCall) → DiskTold call → DiskWorld → Type 0
MemKeeps s call a t =
    ((a ≡ (disk_answer s call).0) × (t ≡ (disk_answer s call).1))
    ⊎ (Unserved s call a t ⊎ RunsOutAt s call a t)

-- an event begins: its calls are numbered from 1
abbrev pub begun_on : DiskWorld → DiskWorld
begun_on w = record w { calls = 0; stopped = false }

-- no call is to fail, and none has stopped
abbrev pub IsUnplanned : DiskWorld → Type 0
IsUnplanned w = (w.planned ≡ []) × (w.stopped ≡ false)

-- The machine comes up again: the rule file is as it was left, a further stop leaves no other, and
-- the new file is gone.
abbrev pub coming_up : DiskWorld → DiskWorld
coming_up w = record w { disk = disk_at_first w.disk.text; stopped = false }

-- an event is over: no call is to fail any more
abbrev pub over_on : DiskWorld → DiskWorld
over_on w = record w { planned = [] }

-- what a crash might have left within the calls so far is forgotten
abbrev pub forgetting : DiskWorld → DiskWorld
forgetting w = record w { disk = record w.disk { past = [] } }

abbrev pub disk_told : DiskWorld → Option Disk
disk_told w = cond w.ran_out None (Some w.disk)

-- the entry of a call that has begun, unless it has run out or now does
abbrev pub IsNoted : DiskWorld → Passed → Bool → DiskWorld → Type 0
IsNoted w p true u =
    (w.ran_out ≡ false)
    × (u ≡ record w {
      disk = record w.disk
          { left = left_after p w.disk.left; past = w.disk.past ++ left_within p w.disk.left ∷ [] };
    })
IsNoted w p false u = u ≡ record w { faults = one_up w.faults; ran_out = true }
