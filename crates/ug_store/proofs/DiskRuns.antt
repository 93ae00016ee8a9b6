-- Runs of one tree after another.
use Rattle.std.proofs.Common.{refl, subst}
use Rattle.ug_store.specs.DiskCalls.{DiskCall, DiskTold}
use Rattle.ug_store.specs.Store.{DiskProg, Ended, AskDisk, DiskRoom, RunsDisk, then_disk}

pub runs_then_disk : {S A B : Type 0} (keeps : S → (call : DiskCall) → DiskTold call → S → Type 0) (s : S) (p : DiskProg A) (f : A → DiskProg B) (a : A) (u : S) (r : B) (t : S) → RunsDisk keeps s p a u → RunsDisk keeps u (f a) r t → RunsDisk keeps s (then_disk p f) r t
runs_then_disk keeps s (Ended value) f a u r t h k = subst (λ (v : _). RunsDisk keeps s (f v) r t) h.0 (subst (λ (v : _). RunsDisk keeps v (f a) r t) h.1 k)
runs_then_disk keeps s (AskDisk call next) f a u r t h k = (h.0, h.1, h.2, runs_then_disk keeps h.1 (next h.0) f a u r t h.3 k)
runs_then_disk keeps s (DiskRoom next) f a u r t h k = (h.0, runs_then_disk keeps s (next h.0) f a u r t h.1 k)

pub runs_split_disk : {S A B : Type 0} (keeps : S → (call : DiskCall) → DiskTold call → S → Type 0) (s : S) (p : DiskProg A) (f : A → DiskProg B) (r : B) (t : S) → RunsDisk keeps s (then_disk p f) r t → (a : A) × (u : S) × RunsDisk keeps s p a u × RunsDisk keeps u (f a) r t
runs_split_disk keeps s (Ended value) f r t h = (value, s, (refl, refl), h)
runs_split_disk keeps s (AskDisk call next) f r t h = let k = runs_split_disk keeps h.1 (next h.0) f r t h.3 in (k.0, k.1, (h.0, h.1, h.2, k.2), k.3)
runs_split_disk keeps s (DiskRoom next) f r t h = let k = runs_split_disk keeps s (next h.0) f r t h.1 in (k.0, k.1, (h.0, k.2), k.3)
