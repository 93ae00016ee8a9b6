-- A run over a disk in memory is the one that its script fixes, or memory was wanted.
use Rattle.std.proofs.Common.{◌≡◌, ℕ, Bool, true, false, List, Result, Err, inl, inr, refl, sym, ◌∙◌, ap, subst}
use Rattle.ug_store.specs.DiskCalls.{DiskTold}
use Rattle.ug_store.specs.Store.{DiskProg, Ended, AskDisk, DiskRoom, RunsDisk, after_swap, after_sync_new, after_write_new, saving, after_load, recovering}
use Rattle.ug_store.specs.Scripted.{DiskWorld, disk_answer, WantsMemory, MemKeeps}
use Rattle.ug_store.specs.MemLaw.{mem_stays_out}
use Rattle.ug_store.specs.PlayDisk.{IsPlayedOnDisk, SavesAsPlayed, ReadsAsPlayed}
use Rattle.ug_store.specs.declared.disk.DiskAnswer.{DiskAnswer}
use Rattle.ug_store.specs.declared.disk.DiskAnswer.TheVariants as answer
use Rattle.ug_store.specs.declared.disk.Loaded.{Loaded}
use Rattle.ug_store.specs.declared.disk.Loaded.TheVariants as loaded
use Rattle.ug_types.specs.declared.saved.Saved.{Saved}
use Rattle.ug_types.specs.declared.saved.Saved.TheVariants as saved
use Rattle.ug_store.specs.declared.store.RecoverFault.{RecoverFault}
use Rattle.ug_store.specs.declared.store.RecoverFault.TheVariants as fault

-- a call that wants memory ends the tree with this result
abbrev pub EndsByMemory : {R : Type 0} → (R → Type 0) → DiskProg R → Type 0
EndsByMemory wants (Ended value) = Unit {0}
EndsByMemory {R} wants (AskDisk call next) = (a : DiskTold call) → (WantsMemory call a.answer → (q : R) × (next a ≡ Ended q) × wants q) × EndsByMemory wants (next a)
EndsByMemory {R} wants (DiskRoom next) = ((q : R) × (next false ≡ Ended q) × wants q) × EndsByMemory wants (next true)

-- a disk that has run out stays so along a run
pub run_stays_out : {R : Type 0} (p : DiskProg R) (s : DiskWorld) (r : R) (t : DiskWorld) → RunsDisk MemKeeps s p r t → s.ran_out ≡ true → t.ran_out ≡ true
run_stays_out (Ended value) s r t h out = ap (λ (w : DiskWorld). w.ran_out) h.1 ∙ out
run_stays_out (AskDisk call next) s r t h out = run_stays_out (next h.0) h.1 r t h.3 (mem_stays_out s call h.0 h.1 h.2 out)
run_stays_out (DiskRoom next) s r t h out = run_stays_out (next h.0) s r t h.1 out

ended_with : {R : Type 0} (wants : R → Type 0) (p : DiskProg R) (s : DiskWorld) (r : R) (t : DiskWorld) → RunsDisk MemKeeps s p r t → (q : R) → p ≡ Ended q → wants q → wants r
ended_with {R} wants p s r t h q is w =
    let run : RunsDisk MemKeeps s (Ended q) r t = subst (λ (v : DiskProg R). RunsDisk MemKeeps s v r t) is h in
    subst wants (sym run.0) w

pub is_played : {R : Type 0} (wants : R → Type 0) (p : DiskProg R) (s : DiskWorld) (r : R) (t : DiskWorld) → EndsByMemory wants p → RunsDisk MemKeeps s p r t → IsPlayedOnDisk wants p s r t
is_played wants (Ended value) s r t ends h = inl h
is_played {R} wants (AskDisk call next) s r t ends h = pick (is_played wants (next h.0) h.1 r t (ends h.0).1 h.3) h.2
  where
    pick : IsPlayedOnDisk wants (next h.0) h.1 r t → MemKeeps s call h.0 h.1 → IsPlayedOnDisk wants (AskDisk call next) s r t
    pick more (inl k) =
        subst (λ (u : DiskWorld). IsPlayedOnDisk wants (next (disk_answer s call).0) u r t) k.1 (subst (λ (a : DiskTold call). IsPlayedOnDisk wants (next a) h.1 r t) k.0 more)
    pick more (inr (inl k)) = let e = (ends h.0).0 k.memory in inr (inl (ended_with wants (next h.0) h.1 r t h.3 e.0 e.1 e.2))
    pick more (inr (inr k)) = inr (inr (run_stays_out (next h.0) h.1 r t h.3 (ap (λ (w : DiskWorld). w.ran_out) k.after)))
is_played {R} wants (DiskRoom next) s r t ends h = pick (λ run. is_played wants (next true) s r t ends.1 run) h.0 h.1
  where
    pick : (RunsDisk MemKeeps s (next true) r t → IsPlayedOnDisk wants (next true) s r t) → (b : Bool) → RunsDisk MemKeeps s (next b) r t → IsPlayedOnDisk wants (DiskRoom next) s r t
    pick more true run = more run
    pick more false run = inr (inl (ended_with wants (next false) s r t run ends.0.0 ends.0.1 ends.0.2))

swap_ends : (a : DiskAnswer) (count : ℕ) → EndsByMemory (λ (q : Saved). q ≡ saved.Memory) (after_swap a count)
swap_ends answer.Done count = tt
swap_ends answer.Failed count = tt
swap_ends answer.Memory count = tt

sync_ends : (a : DiskAnswer) (count : ℕ) → EndsByMemory (λ (q : Saved). q ≡ saved.Memory) (after_sync_new a count)
sync_ends answer.Done count = λ a. (λ never. absurd never, swap_ends a.answer a.count)
sync_ends answer.Failed count = tt
sync_ends answer.Memory count = tt

write_ends : (a : DiskAnswer) (count : ℕ) → EndsByMemory (λ (q : Saved). q ≡ saved.Memory) (after_write_new a count)
write_ends answer.Done count = λ a. (λ never. absurd never, sync_ends a.answer a.count)
write_ends answer.Failed count = tt
write_ends answer.Memory count = tt

pub saving_ends : (text : List ℕ) → EndsByMemory (λ (q : Saved). q ≡ saved.Memory) (saving text)
unfolding saving
saving_ends text = λ a. (λ is. (saved.Memory, ap (λ (b : DiskAnswer). after_write_new b a.count) is, refl), write_ends a.answer a.count)

load_ends : (a : Loaded) (count : ℕ) → EndsByMemory (λ (q : Result (List ℕ) RecoverFault). q ≡ Err fault.Memory) (after_load a count)
load_ends (loaded.Bytes text) count = tt
load_ends loaded.Absent count = tt
load_ends loaded.TooLong count = tt
load_ends loaded.Failed count = tt
load_ends loaded.Memory count = tt

pub recovering_ends : EndsByMemory (λ (q : Result (List ℕ) RecoverFault). q ≡ Err fault.Memory) recovering
unfolding recovering
recovering_ends = λ a. (λ is. (Err fault.Memory, ap (λ (b : Loaded). after_load b a.count) is, refl), load_ends a.answer a.count)

pub saves_as_played : SavesAsPlayed
saves_as_played text s r t run = is_played (λ (q : Saved). q ≡ saved.Memory) (saving text) s r t (saving_ends text) run

pub reads_as_played : ReadsAsPlayed
reads_as_played s r t run = is_played (λ (q : Result (List ℕ) RecoverFault). q ≡ Err fault.Memory) recovering s r t recovering_ends run
