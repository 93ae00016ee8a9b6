-- Calls of interfaces' files are counted with those of devices' files, and so are those that fail.
use Rattle.std.proofs.Common.{◌≡◌, ℕ, Bool, true, false, cond, Option, Some, None, refl, sym, ap, subst, inl, inr}
use Rattle.std.specs.List.{slice_get}
use Rattle.ug_kernel.specs.declared.device.Device.{Device}
use Rattle.ug_kernel.specs.Calls.{Closing, raised, is_probe_failed, failed_put}
use Rattle.ug_iface.specs.declared.interface.Interface.{Interface}
use Rattle.ug_iface.specs.Bus.{Bus}
use Rattle.ug_iface.specs.Calls.{IfaceCall, Names_of, Open, Read, Ask_device, Ask, Put_off, Close, IfaceAnswer, failed_iface_listing, failed_iface_open, failed_iface_read, CountsIface}
use Rattle.ug_sysfs.specs.Devices.{find}
use Rattle.ug_sysfs.specs.Interfaces.{place_named}
use Rattle.ug_sysfs.specs.World.{World, one_fault_more, alive_of, probed_at, live_held, entered, fate_of, faults_after}
use Rattle.ug_sysfs.specs.Count.{counted_by}
use Rattle.ug_sysfs.specs.Serving.{IfaceReply, iface_failure, is_iface_failure, IsIfaceMemory, listed_under, iface_opened, triple_in, iface_read, value_in, iface_probed, put_off, live_file, iface_act, iface_effect, bus_in, iface_told_as, iface_answer_from, iface_refusing, iface_answer_unless, iface_answer_of, ServesIfaces}

-- any call but a closing
abbrev IsNumbered : IfaceCall → Type 0
IsNumbered (Close held) = ⊥
IsNumbered (Names_of name) = Unit {0}
IsNumbered (Open name) = Unit {0}
IsNumbered (Read name) = Unit {0}
IsNumbered (Ask_device held) = Unit {0}
IsNumbered (Ask held) = Unit {0}
IsNumbered (Put_off held) = Unit {0}

-- what a call tells of the counts
record FairIface (s : World) (c : IfaceCall) (a : IfaceAnswer c) (t : World) : Type 0 where
  reply : IfaceReply c
  answer : a ≡ iface_told_as c reply t
  call : t.calls ≡ raised s.calls
  fault : t.faults ≡ cond (is_iface_failure c reply) (one_fault_more s.faults) s.faults

-- no call fails by itself
act_true : (c : IfaceCall) (k : Bus) → is_iface_failure c (iface_act c k).0 ≡ false
act_true (Names_of name) k = at (find name 0 k.kernel.devices)
  where
    at : (o : Option ℕ) → failed_iface_listing (listed_under o name k.interfaces) ≡ false
    at None = refl
    at (Some i) = refl
act_true (Open name) k = at (place_named name k.kernel.devices k.interfaces)
  where
    at : (o : Option ℕ) → failed_iface_open (iface_opened o k).0 ≡ false
    at None = refl
    at (Some i) = refl
act_true (Read name) k = at (place_named name k.kernel.devices k.interfaces)
  where
    of : (o : Option Interface) → failed_iface_read (triple_in o) ≡ false
    of None = refl
    of (Some x) = refl

    at : (o : Option ℕ) → failed_iface_read (iface_read o k.interfaces) ≡ false
    at None = refl
    at (Some i) = of (slice_get k.interfaces i)
act_true (Ask_device held) k = at (live_held held k.kernel.held k.kernel.devices)
  where
    alive : (o : Option Device) → is_probe_failed (alive_of o) ≡ false
    alive None = refl
    alive (Some d) = refl

    at : (o : Option ℕ) → is_probe_failed (probed_at o k.kernel.devices) ≡ false
    at None = refl
    at (Some i) = alive (slice_get k.kernel.devices i)
act_true (Ask held) k = at (live_file held k)
  where
    of : (o : Option Interface) → is_probe_failed (value_in o) ≡ false
    of None = refl
    of (Some x) = refl

    at : (o : Option ℕ) → is_probe_failed (iface_probed o k.interfaces) ≡ false
    at None = refl
    at (Some i) = of (slice_get k.interfaces i)
act_true (Put_off held) k = at (live_file held k)
  where
    at : (o : Option ℕ) → failed_put (put_off o k).0 ≡ false
    at None = refl
    at (Some i) = refl
act_true (Close held) k = refl

failure_true : (c : IfaceCall) → IsNumbered c → is_iface_failure c (iface_failure c) ≡ true
failure_true (Names_of name) l = refl
failure_true (Open name) l = refl
failure_true (Read name) l = refl
failure_true (Ask_device held) l = refl
failure_true (Ask held) l = refl
failure_true (Put_off held) l = refl
failure_true (Close held) l = absurd l

memory_true : (c : IfaceCall) (r : IfaceReply c) → IsIfaceMemory c r → is_iface_failure c r ≡ false
memory_true (Names_of name) r m = rw m refl
memory_true (Open name) r m = rw m refl
memory_true (Read name) r m = absurd m
memory_true (Ask_device held) r m = absurd m
memory_true (Ask held) r m = absurd m
memory_true (Put_off held) r m = absurd m
memory_true (Close held) r m = absurd m

effect_faults : (f : Option Bool) (c : IfaceCall) (k : Bus) (n : ℕ) → IsNumbered c
    → faults_after f n ≡ cond (is_iface_failure c (iface_effect f c k).0) (one_fault_more n) n
effect_faults None c k n l = rw (act_true c k) refl
effect_faults (Some b) c k n l = rw (failure_true c l) refl

fair_from : (s : World) (c : IfaceCall) → IsNumbered c
    → FairIface s c (iface_answer_from (entered s) c).0 (iface_answer_from (entered s) c).1
fair_from s c l = record {
  reply = (iface_effect (fate_of (entered s)) c (bus_in (entered s))).0;
  answer = refl;
  call = refl;
  fault = effect_faults (fate_of (entered s)) c (bus_in (entered s)) s.faults l;
}

fair_refused : (s : World) (c : IfaceCall) → IsNumbered c
    → FairIface s c (iface_refusing s c).0 (iface_refusing s c).1
fair_refused s c l = record {
  reply = iface_failure c;
  answer = refl;
  call = refl;
  fault = rw (failure_true c l) refl;
}

fair_script : (out : Bool) (s : World) (c : IfaceCall) → IsNumbered c
    → FairIface s c (iface_answer_unless out s c).0 (iface_answer_unless out s c).1
fair_script out s (Close held) l = absurd l
fair_script true s (Names_of name) l = fair_refused s (Names_of name) l
fair_script true s (Open name) l = fair_refused s (Open name) l
fair_script true s (Read name) l = fair_refused s (Read name) l
fair_script true s (Ask_device held) l = fair_refused s (Ask_device held) l
fair_script true s (Ask held) l = fair_refused s (Ask held) l
fair_script true s (Put_off held) l = fair_refused s (Put_off held) l
fair_script false s (Names_of name) l = fair_from s (Names_of name) l
fair_script false s (Open name) l = fair_from s (Open name) l
fair_script false s (Read name) l = fair_from s (Read name) l
fair_script false s (Ask_device held) l = fair_from s (Ask_device held) l
fair_script false s (Ask held) l = fair_from s (Ask held) l
fair_script false s (Put_off held) l = fair_from s (Put_off held) l

fair : (s : World) (c : IfaceCall) (a : IfaceAnswer c) (t : World) → IsNumbered c
    → ServesIfaces s c a t → FairIface s c a t
fair s c a t l g = elim g [
  | inl x ↦ subst (λ (b : IfaceAnswer c). FairIface s c b t) (sym x.0)
      (subst (λ (u : World). FairIface s c (iface_answer_of s c).0 u) (sym x.1)
      (fair_script s.ran_out s c l))
  | inr y ↦ elim y [
    | inl z ↦ record {
      reply = z.reply;
      answer = z.answer;
      call = ap (λ (w : World). w.calls) z.after;
      fault = rw (memory_true c z.reply z.memory) (ap (λ (w : World). w.faults) z.after);
    }
    | inr z ↦ record {
      reply = iface_failure c;
      answer = z.answer;
      call = z.call_counted;
      fault = rw (failure_true c l) z.fault_counted;
    }
  ]
]

counts_from : (s : World) (c : IfaceCall) (a : IfaceAnswer c) (t : World) → IsNumbered c
    → FairIface s c a t → CountsIface c a s.calls s.faults t.calls t.faults
counts_from s (Names_of name) a t l f =
    rw f.answer (counted_by failed_iface_listing f.reply s.calls s.faults t.calls t.faults f.call
    f.fault)
counts_from s (Open name) a t l f =
    rw f.answer (counted_by failed_iface_open f.reply s.calls s.faults t.calls t.faults f.call
    f.fault)
counts_from s (Read name) a t l f =
    rw f.answer (counted_by failed_iface_read f.reply s.calls s.faults t.calls t.faults f.call
    f.fault)
counts_from s (Ask_device held) a t l f =
    rw f.answer (counted_by is_probe_failed f.reply s.calls s.faults t.calls t.faults f.call
    f.fault)
counts_from s (Ask held) a t l f =
    rw f.answer (counted_by is_probe_failed f.reply s.calls s.faults t.calls t.faults f.call
    f.fault)
counts_from s (Put_off held) a t l f =
    rw f.answer (counted_by failed_put f.reply s.calls s.faults t.calls t.faults f.call
    f.fault)
counts_from s (Close held) a t l f = absurd l

closed_iface : (s : World) (held : ℕ) (a : Closing) (t : World) → ServesIfaces s (Close held) a t
    → (t.calls ≡ s.calls) × (t.faults ≡ s.faults)
closed_iface s held a t g = elim g [
  | inl x ↦ (ap (λ (w : World). w.calls) x.1, ap (λ (w : World). w.faults) x.1)
  | inr y ↦ elim y [
    | inl z ↦ absurd z.memory
    | inr z ↦ absurd z.entry
  ]
]

pub counts_ifaces : (s : World) (c : IfaceCall) (a : IfaceAnswer c) (t : World)
    → ServesIfaces s c a t → CountsIface c a s.calls s.faults t.calls t.faults
counts_ifaces s (Names_of name) a t g =
    counts_from s (Names_of name) a t tt (fair s (Names_of name) a t tt g)
counts_ifaces s (Open name) a t g = counts_from s (Open name) a t tt (fair s (Open name) a t tt g)
counts_ifaces s (Read name) a t g = counts_from s (Read name) a t tt (fair s (Read name) a t tt g)
counts_ifaces s (Ask_device held) a t g =
    counts_from s (Ask_device held) a t tt (fair s (Ask_device held) a t tt g)
counts_ifaces s (Ask held) a t g = counts_from s (Ask held) a t tt (fair s (Ask held) a t tt g)
counts_ifaces s (Put_off held) a t g =
    counts_from s (Put_off held) a t tt (fair s (Put_off held) a t tt g)
counts_ifaces s (Close held) a t g = closed_iface s held a t g
