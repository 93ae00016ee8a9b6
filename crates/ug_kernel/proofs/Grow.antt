-- What each call leaves as it was.
use Rattle.std.proofs.Common.{◌≡◌, ℕ, Bool, true, false, ◌==◌, Option, Some, slice_get, inl, inr, refl, sym, ◌∙◌, subst, arith, List}
use Rattle.ug_kernel.specs.declared.device.Device.{Device}
use Rattle.ug_kernel.specs.declared.control.Write.{Write}
use Rattle.ug_kernel.specs.declared.calls.Wrote.{Wrote}
use Rattle.ug_kernel.specs.declared.calls.Wrote.TheVariants as wrote
use Rattle.ug_kernel.specs.Calls.{Call, Names, Open, Read, Ask_alive, Put, Close, Answer}
use Rattle.ug_kernel.specs.Kernel.{Kernel, Stays}
use Rattle.ug_kernel.specs.Called.{written_to, does_put, DoesCall, IsWritten, Called}
use Rattle.ug_kernel.specs.Quiet.{Quiet, Grows}
use Rattle.ug_kernel.proofs.Quiet.{stays_refl, stays_trans, moves_quiet, does_quiet}
use Rattle.ug_types.specs.Elements.{Has}
use Rattle.ug_types.proofs.Elements.{has_left}
use Rattle.ug_kernel.specs.declared.device.Effect.{Effect}

pub quiet_grows : (k l : Kernel) → Quiet k l → Grows k l
quiet_grows k l h = record { devices = λ i d e. let a = h.devices i d e in (a.0, a.1, a.2.stays); held = h.held; log = λ e a. subst (λ (v : List Effect). Has v e) (sym h.log) a }

pub grows_refl : (k : Kernel) → Grows k k
grows_refl k = record { devices = λ i d e. (d, e, stays_refl d); held = λ h f e. e; log = λ e a. a }

pub grows_trans : (k l m : Kernel) → Grows k l → Grows l m → Grows k m
grows_trans k l m h j = record {
  devices = λ i d e. let a = h.devices i d e in let b = j.devices i a.0 a.1 in (b.0, b.1, stays_trans d a.0 b.0 a.2 b.2);
  held = λ f x e. j.held f x (h.held f x e);
  log = λ e a. j.log e (h.log e a);
}

pub some_same : {X : Type 0} (o : Option X) (x y : X) → o ≡ Some x → o ≡ Some y → x ≡ y
some_same o x y h k = cc

written_get : (held : ℕ) (write : Write) (k l : Kernel) (w : IsWritten held write k l) (i : ℕ) (d : Device) (own : Bool) → own ≡ (i == w.i) → slice_get k.devices i ≡ Some d → (e : Device) × (slice_get l.devices i ≡ Some e) × Stays d e
written_get held write k l w i d true c at =
    let is : i ≡ w.i = grind arith in
    let same : w.d ≡ d = some_same (slice_get k.devices w.i) w.d d w.live.at (subst (λ v. slice_get k.devices v ≡ Some d) is at) in
    let stays : Stays w.d (written_to write w.d) = record { name = refl; parent = refl; controller = refl; descriptors = refl; product = refl; serial = refl; connect = refl; born_off = refl; gone = λ g. g } in
    (written_to write w.d, subst (λ v. slice_get l.devices v ≡ Some (written_to write w.d)) (sym is) w.now, subst (λ v. Stays v (written_to write w.d)) same stays)
written_get held write k l w i d false c at =
    let apart : i ≡ w.i → ⊥ = λ e. let none : ⊥ = grind arith in none in
    (d, w.others i apart ∙ at, stays_refl d)

pub written_grows : (held : ℕ) (write : Write) (k l : Kernel) → IsWritten held write k l → Grows k l
written_grows held write k l w = record {
  devices = λ i d. written_get held write k l w i d (i == w.i) refl;
  held = λ f x e. subst (λ v. slice_get v f ≡ Some x) (sym w.files) e;
  log = λ e a. subst (λ (v : List Effect). Has v e) (sym w.log) (has_left k.log _ e a);
}

same_grows : (k l : Kernel) → l ≡ k → Grows k l
same_grows k l e = subst (λ v. Grows k v) (sym e) (grows_refl k)

does_put_grows : (held : ℕ) (write : Write) (answer : Wrote) (k l : Kernel) → does_put held write answer k l → Grows k l
does_put_grows held write wrote.Done k l h = written_grows held write k l h
does_put_grows held write wrote.Gone k l h = same_grows k l h
does_put_grows held write wrote.Failed k l (inl h) = same_grows k l h
does_put_grows held write wrote.Failed k l (inr h) = written_grows held write k l h

pub does_grow : (call : Call) (answer : Answer call) (k l : Kernel) → DoesCall call answer k l → Grows k l
does_grow Names answer k l h = same_grows k l h
does_grow (Open name control) answer k l h = quiet_grows k l (does_quiet (Open name control) answer k l tt h)
does_grow (Read name attr) answer k l h = same_grows k l h
does_grow (Ask_alive held) answer k l h = same_grows k l h
does_grow (Put held write) answer k l h = does_put_grows held write answer.answer k l h
does_grow (Close held) answer k l h = same_grows k l h

pub called_grows : (call : Call) (answer : Answer call) (k l : Kernel) → Called call answer k l → Grows k l
called_grows call answer k l h =
    grows_trans k h.before l (quiet_grows k h.before (moves_quiet k h.before h.moves_before))
    (grows_trans h.before h.after l (does_grow call answer h.before h.after h.effect) (quiet_grows h.after l (moves_quiet h.after l h.moves_after)))
