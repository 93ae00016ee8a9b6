-- Runs of one tree after another.
use Rattle.std.proofs.Common.{subst}
use Rattle.ug_kernel.specs.Calls.{Call, Answer}
use Rattle.ug_kernel.specs.Tree.{Prog, Return, Ask, Room, Runs, then}

pub runs_then : {S A B : Type 0} (gives : S → (call : Call) → Answer call → S → Type 0) (s : S) (p : Prog A) (f : A → Prog B) (a : A) (u : S) (r : B) (t : S) → Runs gives s p a u → Runs gives u (f a) r t → Runs gives s (then p f) r t
runs_then gives s (Return value) f a u r t h k = subst (λ (v : _). Runs gives s (f v) r t) h.0 (subst (λ (v : _). Runs gives v (f a) r t) h.1 k)
runs_then gives s (Ask call next) f a u r t h k = (h.0, h.1, h.2, runs_then gives h.1 (next h.0) f a u r t h.3 k)
runs_then gives s (Room next) f a u r t h k = (h.0, runs_then gives s (next h.0) f a u r t h.1 k)
