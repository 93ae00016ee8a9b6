-- Values follow the log, through moves and calls.
use Rattle.std.proofs.Common.{◌≡◌, ℕ, Bool, true, false, cond, nat_eq, List, [], ◌∷◌, ◌++◌, Some, inl, inr, refl, sym, ◌∙◌, ap, subst, arith, append_assoc, append-nil}
use Rattle.std.proofs.lemmas.Option.{same_Some}
use Rattle.std.specs.List.{slice_get}
use Rattle.ug_kernel.specs.declared.control.Write.{Write}
use Rattle.ug_kernel.specs.declared.calls.Opened.{Opened}
use Rattle.ug_kernel.specs.declared.calls.Wrote.{Wrote}
use Rattle.ug_kernel.specs.declared.device.Device.{Device}
use Rattle.ug_kernel.specs.declared.device.Effect.{Effect}
use Rattle.ug_kernel.specs.Along.{Made, Along}
use Rattle.ug_kernel.specs.Called.{Called, DoesCall, IsWritten, does_open, does_put, value_after, written_to}
use Rattle.ug_kernel.specs.Calls.{Call, Names, Open, Read, Ask_alive, Put, Close, Answer}
use Rattle.ug_kernel.specs.Kernel.{Kernel}
use Rattle.ug_kernel.specs.Quiet.{Quiet}
use Rattle.ug_kernel.specs.Tree.{Prog, Return, Ask, Room, Runs, calls}
use Rattle.ug_kernel.proofs.Quiet.{moves_quiet}
use Rattle.ug_core.specs.Values.{LogsValues, on_by}

on_more : (i : ℕ) (es fs : List Effect) (was : Bool) → on_by i (es ++ fs) was ≡ on_by i fs (on_by i es was)
on_more i [] fs was = refl
on_more i (e ∷ es) fs was = on_more i es fs (cond (nat_eq e.device i) (value_after e.write was) was)

values_refl : (k : Kernel) → LogsValues k k
values_refl k = record { more = []; log = sym (append-nil k.log); value = λ i d at. (d, at, refl) }

pub values_then : (k l m : Kernel) → LogsValues k l → LogsValues l m → LogsValues k m
values_then k l m a b = record {
  more = a.more ++ b.more;
  log = b.log ∙ ap (λ (v : List Effect). v ++ b.more) a.log ∙ append_assoc k.log a.more b.more;
  value = λ i d at.
      let x = a.value i d at in
      let y = b.value i x.0 x.1 in
      (y.0, y.1, y.2 ∙ ap (on_by i b.more) x.2 ∙ sym (on_more i a.more b.more d.on));
}

pub quiet_values : (k l : Kernel) → Quiet k l → LogsValues k l
quiet_values k l q = record {
  more = [];
  log = q.log ∙ sym (append-nil k.log);
  value = λ i d at. let x = q.devices i d at in (x.0, x.1, x.2.on);
}

pub same_values : (k l : Kernel) → l ≡ k → LogsValues k l
same_values k l e = subst (λ (v : Kernel). LogsValues k v) (sym e) (values_refl k)

written_values : (held : ℕ) (what : Write) (k l : Kernel) → IsWritten held what k l → LogsValues k l
written_values held what k l w = record { more = record { device = w.i; write = what } ∷ []; log = w.log; value = λ i d at. by i d at (nat_eq w.i i) refl }
  where
    by : (i : ℕ) (d : Device) → slice_get k.devices i ≡ Some d → (b : Bool) → nat_eq w.i i ≡ b → (e : Device) × (slice_get l.devices i ≡ Some e) × (e.on ≡ cond (nat_eq w.i i) (value_after what d.on) d.on)
    by i d at true e =
        let is : w.i ≡ i = grind (arith, e) in
        let same : w.d ≡ d = same_Some w.d d (sym w.live.at ∙ ap (slice_get k.devices) is ∙ at) in (
          written_to what w.d,
          ap (slice_get l.devices) (sym is) ∙ w.now,
          ap (λ (x : Device). value_after what x.on) same ∙ sym (ap (λ (b : Bool). cond b (value_after what d.on) d.on) e),
        )
    by i d at false e =
        let apart : i ≡ w.i → ⊥ = λ is. let none : ⊥ = grind (arith, e, is) in none in
        (d, w.others i apart ∙ at, sym (ap (λ (b : Bool). cond b (value_after what d.on) d.on) e))

put_values : (held : ℕ) (what : Write) (answer : Wrote) (k l : Kernel) → does_put held what answer k l → LogsValues k l
put_values held what Wrote.Done k l h = written_values held what k l h
put_values held what Wrote.Gone k l h = same_values k l h
put_values held what Wrote.Failed k l (inl h) = same_values k l h
put_values held what Wrote.Failed k l (inr h) = written_values held what k l h

does_values : (call : Call) (answer : Answer call) (k l : Kernel) → DoesCall call answer k l → LogsValues k l
does_values Names answer k l h = same_values k l h
does_values (Open name control) answer k l h = opening answer.answer h
  where
    opening : (r : Opened) → does_open name control r k l → LogsValues k l
    opening (Opened.Token file) o = record { more = []; log = o.log ∙ sym (append-nil k.log); value = λ i d at. (d, ap (λ (v : List Device). slice_get v i) o.devices ∙ at, refl) }
    opening x o = same_values k l o
does_values (Read name attr) answer k l h = same_values k l h
does_values (Ask_alive held) answer k l h = same_values k l h
does_values (Put held what) answer k l h = put_values held what answer.answer k l h
does_values (Close held) answer k l h = same_values k l h

pub called_values : (call : Call) (answer : Answer call) (k l : Kernel) → Called call answer k l → LogsValues k l
called_values call answer k l c =
    let first = quiet_values k c.before (moves_quiet k c.before c.moves_before) in
    let last = quiet_values c.after l (moves_quiet c.after l c.moves_after) in
    values_then k c.before l first (values_then c.before c.after l (does_values call answer c.before c.after c.effect) last)

pub along_values : (ms : List Made) (k l : Kernel) → Along calls k ms l → LogsValues k l
along_values [] k l a = same_values k l a
along_values (m ∷ ms) k l a = values_then k a.0 l (called_values m.call m.answer k a.0 a.1) (along_values ms a.0 l a.2)

pub runs_values : {R : Type 0} (p : Prog R) (k : Kernel) (r : R) (l : Kernel) → Runs calls k p r l → LogsValues k l
runs_values (Return value) k r l h = same_values k l h.1
runs_values (Ask call next) k r l h = values_then k h.1 l (called_values call h.0 k h.1 h.2) (runs_values (next h.0) h.1 r l h.3)
runs_values (Room next) k r l h = runs_values (next h.0) k r l h.1
