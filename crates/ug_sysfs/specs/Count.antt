-- A script's calls are counted, and so are those that fail.
use Rattle.std.proofs.Common.{◌≡◌, ℕ, ◌+◌, ◌-◌, ◌^◌, ◌<◌, ◌≤◌, Bool, true, false, cond, if◌then◌else◌, nat_lt, nat_le, List, length, Option, Some, None, refl, sym, ap, subst, arith, inl, inr}
use Rattle.std.proofs.lemmas.Bool.{both_ways, lt-ltb}
use Rattle.std.specs.List.{slice_get}
use Rattle.ug_kernel.specs.declared.device.Device.{Device}
use Rattle.ug_kernel.specs.declared.control.Attr.{Attr}
use Rattle.ug_kernel.specs.declared.control.Attr.TheVariants as attr
use Rattle.ug_kernel.specs.declared.calls.ReadOut.TheVariants as out
use Rattle.ug_kernel.specs.Calls.{Call, Names, Open, Read, Ask_alive, Put, Close, Closing, Answer, raised, failed_listing, failed_open, failed_read, is_probe_failed, failed_put, Counted, Counts}
use Rattle.ug_kernel.specs.Kernel.{Kernel}
use Rattle.ug_kernel.specs.Called.{read_of, within_limit, text_within}
use Rattle.ug_sysfs.specs.Devices.{find}
use Rattle.ug_sysfs.specs.Reply.{Reply, failing_reply, is_failure, IsMemory}
use Rattle.ug_sysfs.specs.World.{World, one_fault_more, with_file, opened_at, read_from, read_at, live_held, alive_of, probed_at, put_at, act, effect, entered, fate_of, faults_after, told_as, answer_from, refusing_memory, answer_unless, scripted_answer, IsListedCall, Gives}

more_within : (n : ℕ) → (n ≤ one_fault_more n) × (one_fault_more n ≤ n + 1)
more_within n =
    elim (nat_lt n (2 ^ 64 - 1)) as (λ b. (n ≤ cond b (n + 1) n) × (cond b (n + 1) n ≤ n + 1)) [
      | true ↦ (omega arith, omega arith)
      | false ↦ (omega arith, omega arith)
    ]

more_rises : (n : ℕ) → n < 2 ^ 64 - 1 → n < one_fault_more n
more_rises n lt = rw (lt-ltb n (2 ^ 64 - 1) lt) (omega arith)

pub counted_by : {X : Type 0} (failed : X → Bool) (x : X) (c f d g : ℕ) → d ≡ raised c
    → g ≡ cond (failed x) (one_fault_more f) f
    → Counted failed (record { answer = x; number = d; count = g }) c f d g
counted_by failed x c f d g call fault = pick (failed x) refl fault
  where
    pick : (b : Bool) → failed x ≡ b → g ≡ cond b (one_fault_more f) f
        → Counted failed (record { answer = x; number = d; count = g }) c f d g
    pick true e h =
        record {
          number = refl;
          count = refl;
          call = call;
          never_falls = omega (arith, h, (more_within f).0);
          by_one =
              omega (arith, h, (more_within f).1);
          rises = λ _ lt. omega (arith, h, more_rises f lt);
        }
    pick false e h =
        record {
          number = refl;
          count = refl;
          call = call;
          never_falls = omega arith;
          by_one = omega arith;
          rises = λ yes lt. absurd (both_ways (failed x) e yes);
        }

-- what a call tells of the counts
record Fair (s : World) (c : Call) (a : Answer c) (t : World) : Type 0 where
  reply : Reply c
  answer : a ≡ told_as c reply t
  call : t.calls ≡ raised s.calls
  fault : t.faults ≡ cond (is_failure c reply) (one_fault_more s.faults) s.faults

within_true : (limit : ℕ) (bytes : List ℕ) → failed_read (within_limit limit bytes) ≡ false
within_true limit bytes =
    elim (nat_le (length bytes) limit) as
    (λ b. failed_read (if b then out.Bytes bytes else out.TooLong) ≡ false)
    [ true ↦ refl | false ↦ refl ]

text_true : (o : Option (List ℕ)) → failed_read (text_within o) ≡ false
text_true None = refl
text_true (Some bytes) = within_true 4096 bytes

read_true : (at : Attr) (d : Device) → failed_read (read_of at d) ≡ false
read_true attr.Descriptors d = within_true 131072 d.descriptors
read_true attr.Product d = text_true d.product
read_true attr.Serial d = text_true d.serial
read_true attr.Connect d = text_true d.connect

-- no call fails by itself
act_true : (c : Call) (k : Kernel) → is_failure c (act c k).0 ≡ false
act_true Names k = refl
act_true (Open name control) k = at (with_file control (find name 0 k.devices) k.devices)
  where
    at : (o : Option ℕ) → failed_open (opened_at control o k).0 ≡ false
    at None = refl
    at (Some i) = refl
act_true (Read name attr) k = at (find name 0 k.devices)
  where
    from : (o : Option Device) → failed_read (read_from attr o) ≡ false
    from None = refl
    from (Some d) = read_true attr d

    at : (o : Option ℕ) → failed_read (read_at attr o k.devices) ≡ false
    at None = refl
    at (Some i) = from (slice_get k.devices i)
act_true (Ask_alive held) k = at (live_held held k.held k.devices)
  where
    alive : (o : Option Device) → is_probe_failed (alive_of o) ≡ false
    alive None = refl
    alive (Some d) = refl

    at : (o : Option ℕ) → is_probe_failed (probed_at o k.devices) ≡ false
    at None = refl
    at (Some i) = alive (slice_get k.devices i)
act_true (Put held write) k = at (live_held held k.held k.devices)
  where
    at : (o : Option ℕ) → failed_put (put_at write o k).0 ≡ false
    at None = refl
    at (Some i) = refl
act_true (Close held) k = refl

failure_true : (c : Call) → IsListedCall c → is_failure c (failing_reply c) ≡ true
failure_true Names l = refl
failure_true (Open name control) l = refl
failure_true (Read name attr) l = refl
failure_true (Ask_alive held) l = refl
failure_true (Put held write) l = refl
failure_true (Close held) l = absurd l

memory_true : (c : Call) (r : Reply c) → IsMemory c r → is_failure c r ≡ false
memory_true Names r m = rw m refl
memory_true (Open name control) r m = rw m refl
memory_true (Read name attr) r m = rw m refl
memory_true (Ask_alive held) r m = absurd m
memory_true (Put held write) r m = absurd m
memory_true (Close held) r m = absurd m

effect_faults : (f : Option Bool) (c : Call) (k : Kernel) (n : ℕ) → IsListedCall c
    → faults_after f n ≡ cond (is_failure c (effect f c k).0) (one_fault_more n) n
effect_faults None c k n l = rw (act_true c k) refl
effect_faults (Some b) c k n l = rw (failure_true c l) refl

fair_from : (s : World) (c : Call) → IsListedCall c
    → Fair s c (answer_from (entered s) c).0 (answer_from (entered s) c).1
fair_from s c l = record {
  reply = (effect (fate_of (entered s)) c (entered s).kernel).0;
  answer = refl;
  call = refl;
  fault = effect_faults (fate_of (entered s)) c (entered s).kernel s.faults l;
}

fair_refused : (s : World) (c : Call) → IsListedCall c
    → Fair s c (refusing_memory s c).0 (refusing_memory s c).1
fair_refused s c l =
    record {
      reply = failing_reply c;
      answer = refl;
      call = refl;
      fault = rw (failure_true c l) refl;
    }

fair_script : (out : Bool) (s : World) (c : Call) → IsListedCall c
    → Fair s c (answer_unless out s c).0 (answer_unless out s c).1
fair_script out s (Close held) l = absurd l
fair_script true s Names l = fair_refused s Names l
fair_script true s (Open name control) l = fair_refused s (Open name control) l
fair_script true s (Read name attr) l = fair_refused s (Read name attr) l
fair_script true s (Ask_alive held) l = fair_refused s (Ask_alive held) l
fair_script true s (Put held write) l = fair_refused s (Put held write) l
fair_script false s Names l = fair_from s Names l
fair_script false s (Open name control) l = fair_from s (Open name control) l
fair_script false s (Read name attr) l = fair_from s (Read name attr) l
fair_script false s (Ask_alive held) l = fair_from s (Ask_alive held) l
fair_script false s (Put held write) l = fair_from s (Put held write) l

fair : (s : World) (c : Call) (a : Answer c) (t : World) → IsListedCall c → Gives s c a t
    → Fair s c a t
fair s c a t l g = elim g [
  | inl x ↦ subst (λ (b : Answer c). Fair s c b t) (sym x.0)
      (subst (λ (u : World). Fair s c (scripted_answer s c).0 u) (sym x.1)
      (fair_script s.ran_out s c l))
  | inr y ↦ elim y [
    | inl z ↦ record {
      reply = z.reply;
      answer = z.answer;
      call = ap (λ (w : World). w.calls) z.after;
      fault = rw (memory_true c z.reply z.memory) (ap (λ (w : World). w.faults) z.after);
    }
    | inr z ↦ record {
      reply = failing_reply c;
      answer = z.answer;
      call = z.call_counted;
      fault = rw (failure_true c z.listed) z.fault_counted;
    }
  ]
]

counts_from : (s : World) (c : Call) (a : Answer c) (t : World) → IsListedCall c → Fair s c a t
    → Counts c a s.calls s.faults t.calls t.faults
counts_from s Names a t l f =
    rw f.answer (counted_by failed_listing f.reply s.calls s.faults t.calls t.faults f.call f.fault)
counts_from s (Open name control) a t l f =
    rw f.answer (counted_by failed_open f.reply s.calls s.faults t.calls t.faults f.call f.fault)
counts_from s (Read name attr) a t l f =
    rw f.answer (counted_by failed_read f.reply s.calls s.faults t.calls t.faults f.call f.fault)
counts_from s (Ask_alive held) a t l f =
    rw f.answer
    (counted_by is_probe_failed f.reply s.calls s.faults t.calls t.faults f.call f.fault)
counts_from s (Put held write) a t l f =
    rw f.answer (counted_by failed_put f.reply s.calls s.faults t.calls t.faults f.call f.fault)
counts_from s (Close held) a t l f = absurd l

closed : (s : World) (held : ℕ) (a : Closing) (t : World) → Gives s (Close held) a t
    → (t.calls ≡ s.calls) × (t.faults ≡ s.faults)
closed s held a t g = elim g [
  | inl x ↦ (ap (λ (w : World). w.calls) x.1, ap (λ (w : World). w.faults) x.1)
  | inr y ↦ elim y [
    | inl z ↦ absurd z.memory
    | inr z ↦ absurd z.listed
  ]
]

pub counts_each : (s : World) (c : Call) (a : Answer c) (t : World) → Gives s c a t
    → Counts c a s.calls s.faults t.calls t.faults
counts_each s Names a t g = counts_from s Names a t tt (fair s Names a t tt g)
counts_each s (Open name control) a t g =
    counts_from s (Open name control) a t tt (fair s (Open name control) a t tt g)
counts_each s (Read name attr) a t g =
    counts_from s (Read name attr) a t tt (fair s (Read name attr) a t tt g)
counts_each s (Ask_alive held) a t g =
    counts_from s (Ask_alive held) a t tt (fair s (Ask_alive held) a t tt g)
counts_each s (Put held write) a t g =
    counts_from s (Put held write) a t tt (fair s (Put held write) a t tt g)
counts_each s (Close held) a t g = closed s held a t g
