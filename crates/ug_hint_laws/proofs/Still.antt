-- Calls of a kernel that stands still are calls of the kernel; and two that are alike have one answer and one effect.
use Rattle.std.proofs.Common.{◌≡◌, ℕ, zero, suc, ◌<◌, true, List, [], ◌∷◌, ◌++◌, length, set, Some, refl, sym, ◌∙◌, ap, subst, inl, inr}
use Rattle.std.proofs.lemmas.Bool.{cases_eq}
use Rattle.std.proofs.lemmas.Option.{slice_get_within, none-some, same_Some}
use Rattle.std.specs.List.{slice_get}
use Rattle.ug_kernel.specs.declared.device.Device.{Device}
use Rattle.ug_kernel.specs.declared.device.HeldFile.{HeldFile}
use Rattle.ug_kernel.specs.declared.device.Effect.{Effect}
use Rattle.ug_kernel.specs.declared.control.Control.{Control}
use Rattle.ug_kernel.specs.declared.control.Write.{Write}
use Rattle.ug_kernel.specs.declared.calls.Opened.{Opened}
use Rattle.ug_kernel.specs.declared.calls.Wrote.{Wrote}
use Rattle.ug_kernel.specs.Calls.{Call, Answer, Names, Open, Read, Ask_alive, Put, Close}
use Rattle.ug_kernel.specs.Kernel.{Kernel, IsKernel, has_file}
use Rattle.ug_kernel.specs.Called.{Called, DoesCall, IsOpened, IsWritten, does_put, does_open, written_to}
use Rattle.ug_kernel.specs.Tree.{Prog, Return, Ask, Room, Runs, then, calls}
use Rattle.ug_kernel.proofs.Grow.{some_same}
use Rattle.ug_kernel.proofs.Places.{at_set_same, at_set_other}
use Rattle.ug_kernel.proofs.Sounds.{sound_set, held_push, files_push}
use Rattle.ug_kernel.proofs.Stayed.{unmoving}
use Rattle.ug_hint_laws.specs.Compared.{IsStill, RunsStill}

-- lists that have the same at each place are one
pub same_list : {X : Type 0} (xs ys : List X) → ((i : ℕ) → slice_get xs i ≡ slice_get ys i) → xs ≡ ys
same_list [] [] h = refl
same_list [] (y ∷ ys) h = absurd (none-some y (h 0))
same_list (x ∷ xs) [] h = absurd (none-some x (sym (h 0)))
same_list (x ∷ xs) (y ∷ ys) h =
    let e : x ≡ y = same_Some x y (h 0) in
    ap (λ (v : _). v ∷ xs) e ∙ ap (λ (v : _). y ∷ v) (same_list xs ys (λ i. h (suc i)))

pub kernel_same : (k l : Kernel) → k.devices ≡ l.devices → k.held ≡ l.held → k.log ≡ l.log → k ≡ l
kernel_same k l d h g =
    let a : k ≡ record { devices = l.devices; held = k.held; log = k.log } = ap (λ (v : List Device). record { devices = v; held = k.held; log = k.log }) d in
    let b : record { devices = l.devices; held = k.held; log = k.log } ≡ record { devices = l.devices; held = l.held; log = k.log } = ap (λ (v : List HeldFile). record { devices = l.devices; held = v; log = k.log }) h in
    let c : record { devices = l.devices; held = l.held; log = k.log } ≡ l = ap (λ (v : List Effect). record { devices = l.devices; held = l.held; log = v }) g in
    a ∙ b ∙ c

-- what a write leaves

abbrev pub after_write_of : (k : Kernel) → ℕ → Device → Write → Kernel
after_write_of k i d what = record { devices = set k.devices i (written_to what d); held = k.held; log = k.log ++ record { device = i; write = what } ∷ [] }

pub written_devices : (held : ℕ) (what : Write) (k l : Kernel) (w : IsWritten held what k l) → l.devices ≡ set k.devices w.i (written_to what w.d)
written_devices held what k l w = same_list l.devices (set k.devices w.i (written_to what w.d)) (λ j. elim (cases_eq j w.i) [
  | inl e ↦ ap (slice_get l.devices) e ∙ w.now ∙ sym (at_set_same k.devices w.i w.d (written_to what w.d) w.live.at) ∙ ap (slice_get (set k.devices w.i (written_to what w.d))) (sym e)
  | inr n ↦ w.others j n ∙ sym (at_set_other k.devices w.i j (written_to what w.d) n)
])

pub written_is : (held : ℕ) (what : Write) (k l : Kernel) (w : IsWritten held what k l) → l ≡ after_write_of k w.i w.d what
written_is held what k l w = kernel_same l (after_write_of k w.i w.d what) (written_devices held what k l w) w.files w.log

-- soundness stays

written_sound : (k : Kernel) (i : ℕ) (d : Device) (what : Write) → slice_get k.devices i ≡ Some d → IsKernel k → IsKernel (after_write_of k i d what)
written_sound k i d what at s =
    let ds : List Device = set k.devices i (written_to what d) in
    let long : length ds ≡ length k.devices = length_set_at k.devices i (written_to what d) in
    record {
      devices = sound_set what k.devices i d at s.devices;
      held = λ h f a. subst (λ (n : ℕ). f.device < n) (sym long) (s.held h f a);
      files = λ h f e a b. elim (cases_eq f.device i) [
        | inl q ↦
            let one : written_to what d ≡ e = same_Some (written_to what d) e (sym (at_set_same k.devices i d (written_to what d) at) ∙ ap (slice_get ds) (sym q) ∙ b) in
            subst (λ (v : Device). has_file f.control v ≡ true) one (has_written f.control what d ∙ s.files h f d a (ap (slice_get k.devices) q ∙ at))
        | inr n ↦ s.files h f e a (sym (at_set_other k.devices i f.device (written_to what d) n) ∙ b)
      ];
    }
  where
    length_set_at : (ds : List Device) (i : ℕ) (x : Device) → length (set ds i x) ≡ length ds
    length_set_at [] i x = refl
    length_set_at (d ∷ ds) zero x = refl
    length_set_at (d ∷ ds) (suc i) x = ap suc (length_set_at ds i x)

    has_written : (control : Control) (what : Write) (d : Device) → has_file control (written_to what d) ≡ has_file control d
    has_written Control.Authorized what d = refl
    has_written Control.Remove what d = refl
    has_written Control.Default what d = refl

opened_sound : (name : List ℕ) (control : Control) (held : ℕ) (k l : Kernel) → IsOpened name control held k l → IsKernel k → IsKernel l
opened_sound name control held k l o s =
    let f : HeldFile = record { device = o.i; control = control } in
    let below : f.device < length k.devices = slice_get_within k.devices o.i o.d o.live.at in
    let own : (d : Device) → slice_get k.devices f.device ≡ Some d → has_file f.control d ≡ true = λ d at. subst (λ (v : Device). has_file control v ≡ true) (some_same (slice_get k.devices o.i) o.d d o.live.at at) o.has in
    subst IsKernel (sym (kernel_same l (record { devices = k.devices; held = k.held ++ f ∷ []; log = k.log }) o.devices o.more o.log)) (record {
      devices = s.devices;
      held = held_push k.held f (length k.devices) s.held below;
      files = files_push k.held f k.devices s.files own;
    })

stays_sound : (k l : Kernel) → l ≡ k → IsKernel k → IsKernel l
stays_sound k l e s = subst IsKernel (sym e) s

put_sound : (held : ℕ) (what : Write) (answer : Wrote) (k l : Kernel) → does_put held what answer k l → IsKernel k → IsKernel l
put_sound held what Wrote.Done k l w s = subst IsKernel (sym (written_is held what k l w)) (written_sound k w.i w.d what w.live.at s)
put_sound held what Wrote.Gone k l e s = stays_sound k l e s
put_sound held what Wrote.Failed k l (inl e) s = stays_sound k l e s
put_sound held what Wrote.Failed k l (inr w) s = subst IsKernel (sym (written_is held what k l w)) (written_sound k w.i w.d what w.live.at s)

open_sound : (name : List ℕ) (control : Control) (answer : Opened) (k l : Kernel) → does_open name control answer k l → IsKernel k → IsKernel l
open_sound name control (Opened.Token held) k l o s = opened_sound name control held.0 k l o s
open_sound name control Opened.Absent k l e s = stays_sound k l e s
open_sound name control Opened.Failed k l e s = stays_sound k l e s
open_sound name control Opened.Memory k l e s = stays_sound k l e s

pub does_sound : (call : Call) (told : Answer call) (k l : Kernel) → DoesCall call told k l → IsKernel k → IsKernel l
does_sound Names told k l e s = stays_sound k l e s
does_sound (Open name control) told k l e s = open_sound name control told.answer k l e s
does_sound (Read name attr) told k l e s = stays_sound k l e s
does_sound (Ask_alive held) told k l e s = stays_sound k l e s
does_sound (Put held what) told k l e s = put_sound held what told.answer k l e s
does_sound (Close held) told k l e s = stays_sound k l e s

-- so it is a call of the kernel, and a run is one

pub still_called : (call : Call) (told : Answer call) (k l : Kernel) → IsKernel k → IsStill k call told l → Called call told k l
still_called call told k l s c =
    let after = does_sound call told k l c.does s in
    record { before = k; after = l; moves_before = unmoving k; effect = c.does; moves_after = unmoving l; says = c.says; sound_before = s; sound_after = after; sound = after }

pub still_runs : {R : Type 0} (p : Prog R) (k : Kernel) (r : R) (l : Kernel) → IsKernel k → RunsStill k p r l → Runs calls k p r l
still_runs (Return value) k r l s h = h
still_runs (Ask call next) k r l s h =
    (h.0, h.1, still_called call h.0 k h.1 s h.2, still_runs (next h.0) h.1 r l (does_sound call h.0 k h.1 h.2.does s) h.3)
still_runs (Room next) k r l s h = (true, still_runs (next true) k r l s h)

pub still_sound : {R : Type 0} (p : Prog R) (k : Kernel) (r : R) (l : Kernel) → IsKernel k → RunsStill k p r l → IsKernel l
still_sound (Return value) k r l s h = stays_sound k l h.1 s
still_sound (Ask call next) k r l s h = still_sound (next h.0) h.1 r l (does_sound call h.0 k h.1 h.2.does s) h.3
still_sound (Room next) k r l s h = still_sound (next true) k r l s h

-- a run of one tree and then another is cut

pub record Cut {A B : Type 0} (k : Kernel) (p : Prog A) (f : A → Prog B) (r : B) (l : Kernel) : Type 0 where
  pub a : A
  pub m : Kernel
  pub first : RunsStill k p a m
  pub last : RunsStill m (f a) r l

pub still_cut : {A B : Type 0} (p : Prog A) (f : A → Prog B) (k : Kernel) (r : B) (l : Kernel) → RunsStill k (then p f) r l → Cut k p f r l
still_cut (Return value) f k r l h = record { a = value; m = k; first = (refl, refl); last = h }
still_cut (Ask call next) f k r l h =
    let c = still_cut (next h.0) f h.1 r l h.3 in
    record { a = c.a; m = c.m; first = (h.0, h.1, h.2, c.first); last = c.last }
still_cut (Room next) f k r l h =
    let c = still_cut (next true) f k r l h in
    record { a = c.a; m = c.m; first = c.first; last = c.last }
