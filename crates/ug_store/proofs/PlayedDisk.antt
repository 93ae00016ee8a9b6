-- What the play of a tree over a disk in memory leaves, and how a saving goes in it.
use Rattle.std.proofs.Common.{◌≡◌, ℕ, ◌+◌, ◌≤◌, true, false, List, [], Option, Some, None, inl, refl, sym, ◌∙◌, ap, subst, arith, ◌||◌, Bool}
use Rattle.std.proofs.lemmas.Bool.{cond_both, both_ways}
use Rattle.ug_store.specs.DiskCalls.{DiskCall, Load, Write_new, Sync_new, Swap, DiskTold}
use Rattle.ug_store.specs.Disk.{Disk, IsImage}
use Rattle.ug_store.specs.Store.{DiskProg, Ended, AskDisk, DiskRoom, RunsDisk, then_disk, after_swap, after_sync_new, after_write_new, saving}
use Rattle.ug_store.specs.Scripted.{DiskWorld, IsUnplanned, plan_at, fate_by, stops_by, answer_of_fate, faults_by, with_number, fate_at, reply_by, world_after, answering_on, disk_answer, MemKeeps}
use Rattle.ug_store.specs.MemLaw.{tells_disk, mem_did, up_within}
use Rattle.ug_store.specs.PlayDisk.{play_disk}
use Rattle.ug_store.proofs.Playing.{EndsByMemory}
use Rattle.ug_store.proofs.Standing.{stays_possible}
use Rattle.ug_store.specs.declared.disk.DiskAnswer.{DiskAnswer}
use Rattle.ug_store.specs.declared.disk.DiskAnswer.TheVariants as answer
use Rattle.ug_store.specs.declared.mishap.Mishap.{Mishap}
use Rattle.ug_store.specs.declared.mishap.Planned.{Planned}
use Rattle.ug_types.specs.declared.saved.Saved.{Saved}
use Rattle.ug_types.specs.declared.saved.Saved.TheVariants as saved

-- the play of a tree is one of its runs
pub play_runs_disk : {R : Type 0} (p : DiskProg R) (w : DiskWorld) → RunsDisk MemKeeps w p (play_disk p w).0 (play_disk p w).1
play_runs_disk (Ended value) w = (refl, refl)
play_runs_disk (AskDisk call next) w = ((disk_answer w call).0, (disk_answer w call).1, inl (refl, refl), play_runs_disk (next (disk_answer w call).0) (disk_answer w call).1)
play_runs_disk (DiskRoom next) w = (true, play_runs_disk (next true) w)

pub play_then_disk : {R Q : Type 0} (p : DiskProg R) (f : R → DiskProg Q) (w : DiskWorld) → play_disk (then_disk p f) w ≡ play_disk (f (play_disk p w).0) (play_disk p w).1
play_then_disk (Ended value) f w = refl
play_then_disk (AskDisk call next) f w = play_then_disk (next (disk_answer w call).0) f (disk_answer w call).1
play_then_disk (DiskRoom next) f w = play_then_disk (next true) f w

-- a tree whose result is changed still ends where a call wants memory
pub then_ends : {A B : Type 0} (wants : A → Type 0) (hopes : B → Type 0) (p : DiskProg A) (g : A → B) → ((a : A) → wants a → hopes (g a)) → EndsByMemory wants p → EndsByMemory hopes (then_disk p (λ a. Ended (g a)))
then_ends wants hopes (Ended value) g h ends = tt
then_ends {A} wants hopes (AskDisk call next) g h ends = λ a. (
  λ is. let k = (ends a).0 is in (g k.0, ap (λ (p : DiskProg A). then_disk p (λ v. Ended (g v))) k.1, h k.0 k.2),
  then_ends wants hopes (next a) g h (ends a).1,
)
then_ends {A} wants hopes (DiskRoom next) g h ends =
    let k = ends.0 in
    ((g k.0, ap (λ (p : DiskProg A). then_disk p (λ v. Ended (g v))) k.1, h k.0 k.2), then_ends wants hopes (next true) g h ends.1)

-- a disk that hasn't run out answers by its script
by_script : (w : DiskWorld) (call : DiskCall) (P : DiskTold call × DiskWorld → Type 0) → w.ran_out ≡ false
    → P (answering_on call (reply_by call (fate_at call (with_number call w)) w.disk) (world_after call (with_number call w))) → P (disk_answer w call)
by_script w call P e h = cond_both w.ran_out _ _ P (λ out. absurd (both_ways w.ran_out e out)) (λ told. h)

-- a number doesn't change whether the disk has run out
same_out : (call : DiskCall) (w : DiskWorld) → (with_number call w).ran_out ≡ w.ran_out
same_out Load w = refl
same_out (Write_new text) w = refl
same_out Sync_new w = refl
same_out Swap w = refl

told_still : (w : DiskWorld) (call : DiskCall) → w.ran_out ≡ false → (disk_answer w call).1.ran_out ≡ false
told_still w call e = by_script w call (λ (p : DiskTold call × DiskWorld). p.1.ran_out ≡ false) e (same_out call w ∙ e)

pub play_stays_told : {R : Type 0} (p : DiskProg R) (w : DiskWorld) → w.ran_out ≡ false → (play_disk p w).1.ran_out ≡ false
play_stays_told (Ended value) w e = e
play_stays_told (AskDisk call next) w e = play_stays_told (next (disk_answer w call).0) (disk_answer w call).1 (told_still w call e)
play_stays_told (DiskRoom next) w e = play_stays_told (next true) w e

unplanned_by : (planned : List Planned) (stopped : Bool) (n : ℕ) → planned ≡ [] → stopped ≡ false → (stopped || stops_by (plan_at n None planned)) ≡ false
unplanned_by planned stopped n plan unstopped = ap (λ (b : Bool). b || stops_by (plan_at n None planned)) unstopped ∙ ap (λ (ps : List Planned). stops_by (plan_at n None ps)) plan

unplanned_still : (w : DiskWorld) (call : DiskCall) → IsUnplanned w → IsUnplanned (disk_answer w call).1
unplanned_still w Load e = cond_both w.ran_out _ _ (λ (p : DiskTold Load × DiskWorld). IsUnplanned p.1) (λ out. e) (λ told. e)
unplanned_still w (Write_new text) e = cond_both w.ran_out _ _ (λ (p : DiskTold (Write_new text) × DiskWorld). IsUnplanned p.1) (λ out. e) (λ told. (e.0, unplanned_by w.planned w.stopped (with_number (Write_new text) w).calls e.0 e.1))
unplanned_still w Sync_new e = cond_both w.ran_out _ _ (λ (p : DiskTold Sync_new × DiskWorld). IsUnplanned p.1) (λ out. e) (λ told. (e.0, unplanned_by w.planned w.stopped (with_number Sync_new w).calls e.0 e.1))
unplanned_still w Swap e = cond_both w.ran_out _ _ (λ (p : DiskTold Swap × DiskWorld). IsUnplanned p.1) (λ out. e) (λ told. (e.0, unplanned_by w.planned w.stopped (with_number Swap w).calls e.0 e.1))

pub play_keeps_unplanned : {R : Type 0} (p : DiskProg R) (w : DiskWorld) → IsUnplanned w → IsUnplanned (play_disk p w).1
play_keeps_unplanned (Ended value) w e = e
play_keeps_unplanned (AskDisk call next) w e = play_keeps_unplanned (next (disk_answer w call).0) (disk_answer w call).1 (unplanned_still w call e)
play_keeps_unplanned (DiskRoom next) w e = play_keeps_unplanned (next true) w e

or_first : (x y : Bool) → (x || y) ≡ false → x ≡ false
or_first true y e = e
or_first false y e = refl

-- the machine that hasn't stopped behind a call hadn't before it
unstopped_still : (w : DiskWorld) (call : DiskCall) → (disk_answer w call).1.stopped ≡ false → w.stopped ≡ false
unstopped_still w Load = cond_both w.ran_out _ _ (λ (p : DiskTold Load × DiskWorld). p.1.stopped ≡ false → w.stopped ≡ false) (λ out e. e) (λ told e. e)
unstopped_still w (Write_new text) = cond_both w.ran_out _ _ (λ (p : DiskTold (Write_new text) × DiskWorld). p.1.stopped ≡ false → w.stopped ≡ false) (λ out e. e) (λ told e. or_first w.stopped (stops_by (plan_at (with_number (Write_new text) w).calls None w.planned)) e)
unstopped_still w Sync_new = cond_both w.ran_out _ _ (λ (p : DiskTold Sync_new × DiskWorld). p.1.stopped ≡ false → w.stopped ≡ false) (λ out e. e) (λ told e. or_first w.stopped (stops_by (plan_at (with_number Sync_new w).calls None w.planned)) e)
unstopped_still w Swap = cond_both w.ran_out _ _ (λ (p : DiskTold Swap × DiskWorld). p.1.stopped ≡ false → w.stopped ≡ false) (λ out e. e) (λ told e. or_first w.stopped (stops_by (plan_at (with_number Swap w).calls None w.planned)) e)

pub play_unstopped : {R : Type 0} (p : DiskProg R) (w : DiskWorld) → (play_disk p w).1.stopped ≡ false → w.stopped ≡ false
play_unstopped (Ended value) w e = e
play_unstopped (AskDisk call next) w e = unstopped_still w call (play_unstopped (next (disk_answer w call).0) (disk_answer w call).1 e)
play_unstopped (DiskRoom next) w e = play_unstopped (next true) w e

-- a crash may leave the rule file as it is, after a call and so after a play
image_still : (w : DiskWorld) (call : DiskCall) → w.ran_out ≡ false → IsImage w.disk.left w.disk.text → IsImage (disk_answer w call).1.disk.left (disk_answer w call).1.disk.text
image_still w call e is =
    let a : DiskTold call = (disk_answer w call).0 in
    let t : DiskWorld = (disk_answer w call).1 in
    let did = mem_did w call a t t.disk (inl (refl, refl)) (tells_disk t (told_still w call e)) in
    let same : Some did.disk ≡ Some w.disk = sym did.was_told ∙ tells_disk w e in
    let at : w.disk ≡ did.disk = cc in
    stays_possible call a did.disk t.disk did.called (subst (λ (m : Disk). IsImage m.left m.text) at is)

pub play_stays_possible : {R : Type 0} (p : DiskProg R) (w : DiskWorld) → w.ran_out ≡ false → IsImage w.disk.left w.disk.text → IsImage (play_disk p w).1.disk.left (play_disk p w).1.disk.text
play_stays_possible (Ended value) w e is = is
play_stays_possible (AskDisk call next) w e is = play_stays_possible (next (disk_answer w call).0) (disk_answer w call).1 (told_still w call e) (image_still w call e is)
play_stays_possible (DiskRoom next) w e is = play_stays_possible (next true) w e is

-- a call of the saving: done with no fault, or failed with one at most, as it was planned
abbrev Went : DiskAnswer → DiskWorld → DiskWorld → Type 0
Went answer.Done w t = t.faults ≡ w.faults
Went answer.Failed w t = (IsUnplanned w → ⊥) × (t.faults ≤ w.faults + 1)
Went answer.Memory w t = ⊥

went_by : (fate : Option Mishap) (w t : DiskWorld) → (IsUnplanned w → fate ≡ None) → t.faults ≡ faults_by fate w.faults → Went (answer_of_fate fate) w t
went_by None w t calm same = same
went_by (Some m) w t calm same = (λ e. let planned : Some m ≡ None = calm e in let none : ⊥ = cc in absurd none, subst (λ (n : ℕ). n ≤ w.faults + 1) (sym same) (up_within w.faults).1)

none_planned : (n : ℕ) (swaps : Bool) (w : DiskWorld) → IsUnplanned w → fate_by w.stopped swaps (plan_at n None w.planned) ≡ None
none_planned n swaps w e = ap (λ (b : Bool). fate_by b swaps (plan_at n None w.planned)) e.1 ∙ ap (λ (ps : List Planned). fate_by false swaps (plan_at n None ps)) e.0

write_went : (text : List ℕ) (w : DiskWorld) → w.ran_out ≡ false → Went (disk_answer w (Write_new text)).0.answer w (disk_answer w (Write_new text)).1
write_went text w e =
    let s = with_number (Write_new text) w in
    by_script w (Write_new text) (λ (p : DiskTold (Write_new text) × DiskWorld). Went p.0.answer w p.1) e (went_by (fate_at (Write_new text) s) w (world_after (Write_new text) s) (none_planned s.calls false w) refl)

sync_went : (w : DiskWorld) → w.ran_out ≡ false → Went (disk_answer w Sync_new).0.answer w (disk_answer w Sync_new).1
sync_went w e =
    let s = with_number Sync_new w in
    by_script w Sync_new (λ (p : DiskTold Sync_new × DiskWorld). Went p.0.answer w p.1) e (went_by (fate_at Sync_new s) w (world_after Sync_new s) (none_planned s.calls false w) refl)

swap_went : (w : DiskWorld) → w.ran_out ≡ false → Went (disk_answer w Swap).0.answer w (disk_answer w Swap).1
swap_went w e =
    let s = with_number Swap w in
    by_script w Swap (λ (p : DiskTold Swap × DiskWorld). Went p.0.answer w p.1) e (went_by (fate_at Swap s) w (world_after Swap s) (none_planned s.calls true w) refl)

-- one fault at most, never want of memory, and done where nothing is planned
record GoesAsPlanned (w : DiskWorld) (r : Saved) (t : DiskWorld) : Type 0 where
  faults : t.faults ≤ w.faults + 1
  sure : r ≡ saved.Memory → ⊥
  done : IsUnplanned w → r ≡ saved.Done

failed_goes : (w t : DiskWorld) (count : ℕ) → Went answer.Failed w t → GoesAsPlanned w (saved.Failed count) t
failed_goes w t count went = record { faults = went.1; sure = λ e. let none : ⊥ = cc in absurd none; done = λ e. absurd (went.0 e) }

-- a call that was done before it changes nothing of that
goes_after : (w u : DiskWorld) (r : Saved) (t : DiskWorld) → u.faults ≡ w.faults → (IsUnplanned w → IsUnplanned u) → GoesAsPlanned u r t → GoesAsPlanned w r t
goes_after w u r t same plan h = record { faults = omega (arith, same, h.faults); sure = h.sure; done = λ e. h.done (plan e) }

swap_goes : (a : DiskAnswer) (count : ℕ) (w t : DiskWorld) → Went a w t → GoesAsPlanned w (play_disk (after_swap a count) t).0 (play_disk (after_swap a count) t).1
swap_goes answer.Done count w t went = record { faults = omega (arith, went); sure = λ e. let none : ⊥ = cc in absurd none; done = λ e. refl }
swap_goes answer.Failed count w t went = failed_goes w t count went
swap_goes answer.Memory count w t went = absurd went

sync_goes : (a : DiskAnswer) (count : ℕ) (w t : DiskWorld) → t.ran_out ≡ false → (IsUnplanned w → IsUnplanned t) → Went a w t → GoesAsPlanned w (play_disk (after_sync_new a count) t).0 (play_disk (after_sync_new a count) t).1
sync_goes answer.Done count w t told plan went =
    let s = disk_answer t Swap in
    goes_after w t (play_disk (after_swap s.0.answer s.0.count) s.1).0 (play_disk (after_swap s.0.answer s.0.count) s.1).1 went plan (swap_goes s.0.answer s.0.count t s.1 (swap_went t told))
sync_goes answer.Failed count w t told plan went = failed_goes w t count went
sync_goes answer.Memory count w t told plan went = absurd went

write_goes : (a : DiskAnswer) (count : ℕ) (w t : DiskWorld) → t.ran_out ≡ false → (IsUnplanned w → IsUnplanned t) → Went a w t → GoesAsPlanned w (play_disk (after_write_new a count) t).0 (play_disk (after_write_new a count) t).1
write_goes answer.Done count w t told plan went =
    let s = disk_answer t Sync_new in
    goes_after w t (play_disk (after_sync_new s.0.answer s.0.count) s.1).0 (play_disk (after_sync_new s.0.answer s.0.count) s.1).1 went plan (sync_goes s.0.answer s.0.count t s.1 (told_still t Sync_new told) (unplanned_still t Sync_new) (sync_went t told))
write_goes answer.Failed count w t told plan went = failed_goes w t count went
write_goes answer.Memory count w t told plan went = absurd went

saving_goes : (text : List ℕ) (w : DiskWorld) → w.ran_out ≡ false → GoesAsPlanned w (play_disk (saving text) w).0 (play_disk (saving text) w).1
unfolding saving
saving_goes text w e =
    let s = disk_answer w (Write_new text) in
    write_goes s.0.answer s.0.count w s.1 (told_still w (Write_new text) e) (unplanned_still w (Write_new text)) (write_went text w e)

pub play_saving_faults : (text : List ℕ) (w : DiskWorld) → w.ran_out ≡ false → (play_disk (saving text) w).1.faults ≤ w.faults + 1
play_saving_faults text w e = (saving_goes text w e).faults

pub play_saving_sure : (text : List ℕ) (w : DiskWorld) → w.ran_out ≡ false → (play_disk (saving text) w).0 ≡ saved.Memory → ⊥
play_saving_sure text w e = (saving_goes text w e).sure

pub play_saving_done : (text : List ℕ) (w : DiskWorld) → w.ran_out ≡ false → IsUnplanned w → (play_disk (saving text) w).0 ≡ saved.Done
play_saving_done text w e = (saving_goes text w e).done
