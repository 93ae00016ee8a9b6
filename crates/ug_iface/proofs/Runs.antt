-- Runs of one tree after another.
use Rattle.std.proofs.Common.{subst, refl}
use Rattle.ug_iface.specs.Calls.{IfaceCall, IfaceAnswer}
use Rattle.ug_iface.specs.Tree.{IfaceProg, Return, Make, Room, RunsIfaces, then_iface}

pub runs_then : {S A B : Type 0} (serves : S → (call : IfaceCall) → IfaceAnswer call → S → Type 0) (s : S) (p : IfaceProg A) (f : A → IfaceProg B) (a : A) (u : S) (r : B) (t : S) → RunsIfaces serves s p a u → RunsIfaces serves u (f a) r t → RunsIfaces serves s (then_iface p f) r t
runs_then serves s (Return value) f a u r t h k = subst (λ (v : _). RunsIfaces serves s (f v) r t) h.0 (subst (λ (v : _). RunsIfaces serves v (f a) r t) h.1 k)
runs_then serves s (Make call next) f a u r t h k = (h.0, h.1, h.2, runs_then serves h.1 (next h.0) f a u r t h.3 k)
runs_then serves s (Room next) f a u r t h k = (h.0, runs_then serves s (next h.0) f a u r t h.1 k)

-- a run of both is one of the first, and then one of the other
pub runs_split : {S A B : Type 0} (serves : S → (call : IfaceCall) → IfaceAnswer call → S → Type 0) (s : S) (p : IfaceProg A) (f : A → IfaceProg B) (r : B) (t : S) → RunsIfaces serves s (then_iface p f) r t → (a : A) × (u : S) × RunsIfaces serves s p a u × RunsIfaces serves u (f a) r t
runs_split serves s (Return value) f r t h = (value, s, (refl, refl), h)
runs_split serves s (Make call next) f r t h =
    let k = runs_split serves h.1 (next h.0) f r t h.3 in
    (k.0, k.1, (h.0, h.1, h.2, k.2), k.3)
runs_split serves s (Room next) f r t h =
    let k = runs_split serves s (next h.0) f r t h.1 in
    (k.0, k.1, (h.0, k.2), k.3)
