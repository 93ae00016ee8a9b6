-- The count of faults over a save and a reading.
use Rattle.std.proofs.Common.{◌≡◌, ℕ, ◌≤◌, List, [], Result, Ok, Err, refl, sym, subst, arith}
use Rattle.ug_types.specs.Ends.{IsCounted, Rose}
use Rattle.ug_store.specs.DiskCalls.{DiskCall, Load, Write_new, Sync_new, Swap, DiskTold, CountsOnDisk}
use Rattle.ug_store.specs.Store.{RunsDisk, after_swap, after_sync_new, after_write_new, saving, after_load, recovering, TellsSaveFault, TellsRecoverFault}
use Rattle.ug_store.specs.declared.disk.DiskAnswer.{DiskAnswer}
use Rattle.ug_store.specs.declared.disk.DiskAnswer.TheVariants as answer
use Rattle.ug_store.specs.declared.disk.Loaded.{Loaded}
use Rattle.ug_store.specs.declared.disk.Loaded.TheVariants as loaded
use Rattle.ug_types.specs.declared.saved.Saved.{Saved}
use Rattle.ug_types.specs.declared.saved.Saved.TheVariants as saved
use Rattle.ug_store.specs.declared.store.RecoverFault.{RecoverFault}
use Rattle.ug_store.specs.declared.store.RecoverFault.TheVariants as fault

rose_from : (s u t : ℕ) → s ≤ u → u ≤ t → Rose u t → Rose s t
rose_from s u t le more rose lt = grind (arith, le, more, rose, lt)

-- what a save tells of the count
abbrev Counted : Saved → ℕ → ℕ → Type 0
Counted r before after = (before ≤ after) × TellsSaveFault r before after

counted_as : (r q : Saved) (before after : ℕ) → r ≡ q → Counted q before after → Counted r before after
counted_as r q before after e h = subst (λ (v : Saved). Counted v before after) (sym e) h

-- a call that failed after others, and its count
failed_at : (s u t count : ℕ) → s ≤ u → u ≤ t → count ≡ t → Rose u t → Counted (saved.Failed count) s t
failed_at s u t count le more is rose = (omega (arith, le, more), (is, rose_from s u t le more rose))

-- where each call is counted
record Counting {S : Type 0} (keeps : S → (call : DiskCall) → DiskTold call → S → Type 0) (faults : S → ℕ) : Type 0 where
  counts : (s : S) (call : DiskCall) (a : DiskTold call) (t : S) → keeps s call a t → CountsOnDisk call a (faults s) (faults t)

end_counted : {S : Type 0} (faults : S → ℕ) (r q : Saved) (u x : S) (s : ℕ) → (r ≡ q) × (x ≡ u) → Counted q s (faults u) → Counted r s (faults x)
end_counted faults r q u x s run h = counted_as r q s (faults x) run.0 (subst (λ y. Counted q s (faults y)) (sym run.1) h)

swap_counts : {S : Type 0} (keeps : S → (call : DiskCall) → DiskTold call → S → Type 0) (faults : S → ℕ) (first : ℕ) (v n : S) (a : DiskAnswer) (count : ℕ) (r : Saved) (x : S)
    → first ≤ faults v → CountsOnDisk Swap (record { answer = a; count = count }) (faults v) (faults n) → RunsDisk keeps n (after_swap a count) r x → Counted r first (faults x)
swap_counts keeps faults first v n answer.Done count r x le h run = end_counted faults r saved.Done n x first run (omega (arith, le, h.counted.0), tt)
swap_counts keeps faults first v n answer.Failed count r x le h run = end_counted faults r (saved.Failed count) n x first run (failed_at first (faults v) (faults n) count le h.counted.0 h.count (h.cause refl))
swap_counts keeps faults first v n answer.Memory count r x le h run = end_counted faults r saved.Memory n x first run (omega (arith, le, h.counted.0), tt)

sync_counts : {S : Type 0} (keeps : S → (call : DiskCall) → DiskTold call → S → Type 0) (faults : S → ℕ) (all : Counting keeps faults) (first : ℕ) (u v : S) (a : DiskAnswer) (count : ℕ) (r : Saved) (x : S)
    → first ≤ faults u → CountsOnDisk Sync_new (record { answer = a; count = count }) (faults u) (faults v) → RunsDisk keeps v (after_sync_new a count) r x → Counted r first (faults x)
sync_counts keeps faults all first u v answer.Done count r x le h run =
    swap_counts keeps faults first v run.1 run.0.answer run.0.count r x (omega (arith, le, h.counted.0)) (all.counts v Swap run.0 run.1 run.2) run.3
sync_counts keeps faults all first u v answer.Failed count r x le h run = end_counted faults r (saved.Failed count) v x first run (failed_at first (faults u) (faults v) count le h.counted.0 h.count (h.cause refl))
sync_counts keeps faults all first u v answer.Memory count r x le h run = end_counted faults r saved.Memory v x first run (omega (arith, le, h.counted.0), tt)

write_counts : {S : Type 0} (keeps : S → (call : DiskCall) → DiskTold call → S → Type 0) (faults : S → ℕ) (all : Counting keeps faults) (text : List ℕ) (s u : S) (a : DiskAnswer) (count : ℕ) (r : Saved) (x : S)
    → CountsOnDisk (Write_new text) (record { answer = a; count = count }) (faults s) (faults u) → RunsDisk keeps u (after_write_new a count) r x → Counted r (faults s) (faults x)
write_counts keeps faults all text s u answer.Done count r x h run =
    sync_counts keeps faults all (faults s) u run.1 run.0.answer run.0.count r x h.counted.0 (all.counts u Sync_new run.0 run.1 run.2) run.3
write_counts keeps faults all text s u answer.Failed count r x h run = end_counted faults r (saved.Failed count) u x (faults s) run (failed_at (faults s) (faults s) (faults u) count (omega arith) h.counted.0 h.count (h.cause refl))
write_counts keeps faults all text s u answer.Memory count r x h run = end_counted faults r saved.Memory u x (faults s) run (h.counted.0, tt)

-- the count of faults over a save
pub save_counts : {S : Type 0} (keeps : S → (call : DiskCall) → DiskTold call → S → Type 0) (faults : S → ℕ) (counted : (s : S) (call : DiskCall) (a : DiskTold call) (t : S) → keeps s call a t → CountsOnDisk call a (faults s) (faults t)) (text : List ℕ) (s : S) (r : Saved) (x : S)
    → RunsDisk keeps s (saving text) r x → (faults s ≤ faults x) × TellsSaveFault r (faults s) (faults x)
unfolding saving
save_counts keeps faults counted text s r x run =
    write_counts keeps faults (record { counts = counted }) text s run.1 run.0.answer run.0.count r x (counted s (Write_new text) run.0 run.1 run.2) run.3

load_end : {S : Type 0} (faults : S → ℕ) (s : ℕ) (r q : Result (List ℕ) RecoverFault) (x u : S) → (r ≡ q) × (x ≡ u) → TellsRecoverFault q s (faults u) → TellsRecoverFault r s (faults x)
load_end faults s r q x u run h = subst (λ (v : Result (List ℕ) RecoverFault). TellsRecoverFault v s (faults x)) (sym run.0) (subst (λ y. TellsRecoverFault q s (faults y)) (sym run.1) h)

load_counts : {S : Type 0} (keeps : S → (call : DiskCall) → DiskTold call → S → Type 0) (faults : S → ℕ) (s u : S) (a : Loaded) (count : ℕ) (r : Result (List ℕ) RecoverFault) (x : S)
    → CountsOnDisk Load (record { answer = a; count = count }) (faults s) (faults u) → RunsDisk keeps u (after_load a count) r x → TellsRecoverFault r (faults s) (faults x)
load_counts keeps faults s u (loaded.Bytes text) count r x h run = load_end faults (faults s) r (Ok text) x u run tt
load_counts keeps faults s u loaded.Absent count r x h run = load_end faults (faults s) r (Ok []) x u run tt
load_counts keeps faults s u loaded.TooLong count r x h run = load_end faults (faults s) r (Err fault.TooLong) x u run tt
load_counts keeps faults s u loaded.Failed count r x h run = load_end faults (faults s) r (Err (fault.Failed count)) x u run (h.count, h.cause refl)
load_counts keeps faults s u loaded.Memory count r x h run = load_end faults (faults s) r (Err fault.Memory) x u run tt

-- the count of faults over a reading
pub recover_counts : {S : Type 0} (keeps : S → (call : DiskCall) → DiskTold call → S → Type 0) (faults : S → ℕ) (counted : (s : S) (call : DiskCall) (a : DiskTold call) (t : S) → keeps s call a t → CountsOnDisk call a (faults s) (faults t)) (s : S) (r : Result (List ℕ) RecoverFault) (x : S)
    → RunsDisk keeps s recovering r x → TellsRecoverFault r (faults s) (faults x)
unfolding recovering
recover_counts keeps faults counted s r x run = load_counts keeps faults s run.1 run.0.answer run.0.count r x (counted s Load run.0 run.1 run.2) run.3

load_once : {S : Type 0} (keeps : S → (call : DiskCall) → DiskTold call → S → Type 0) (faults : S → ℕ) (s : ℕ) (u : S) (a : Loaded) (count : ℕ) (r : Result (List ℕ) RecoverFault) (x : S)
    → IsCounted s (faults u) → RunsDisk keeps u (after_load a count) r x → IsCounted s (faults x)
load_once keeps faults s u (loaded.Bytes text) count r x h run = subst (λ y. IsCounted s (faults y)) (sym run.1) h
load_once keeps faults s u loaded.Absent count r x h run = subst (λ y. IsCounted s (faults y)) (sym run.1) h
load_once keeps faults s u loaded.TooLong count r x h run = subst (λ y. IsCounted s (faults y)) (sym run.1) h
load_once keeps faults s u loaded.Failed count r x h run = subst (λ y. IsCounted s (faults y)) (sym run.1) h
load_once keeps faults s u loaded.Memory count r x h run = subst (λ y. IsCounted s (faults y)) (sym run.1) h

-- a reading is one call
pub recover_once : {S : Type 0} (keeps : S → (call : DiskCall) → DiskTold call → S → Type 0) (faults : S → ℕ) (counted : (s : S) (call : DiskCall) (a : DiskTold call) (t : S) → keeps s call a t → CountsOnDisk call a (faults s) (faults t)) (s : S) (r : Result (List ℕ) RecoverFault) (x : S)
    → RunsDisk keeps s recovering r x → IsCounted (faults s) (faults x)
unfolding recovering
recover_once keeps faults counted s r x run = load_once keeps faults (faults s) run.1 run.0.answer run.0.count r x (counted s Load run.0 run.1 run.2).counted run.3
