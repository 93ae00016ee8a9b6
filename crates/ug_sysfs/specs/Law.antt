-- What a script answers is what the kernel may answer.
use Rattle.std.proofs.Common.{◌≡◌, ℕ, ◌<◌, Bool, true, false, cond, List, length, set, Option, Some, None, refl, sym, ◌∙◌, ap, subst, arith, inl, inr, length-set}
use Rattle.std.proofs.lemmas.Bool.{both_ways, cases_eq}
use Rattle.std.proofs.lemmas.Option.{slice_get_within, none-some, same_Some}
use Rattle.std.specs.List.{slice_get}
use Rattle.ug_types.specs.Elements.{Has}
use Rattle.ug_kernel.specs.declared.device.Device.{Device}
use Rattle.ug_kernel.specs.declared.device.HeldFile.{HeldFile}
use Rattle.ug_kernel.specs.declared.control.Control.{Control}
use Rattle.ug_kernel.specs.declared.control.Attr.{Attr}
use Rattle.ug_kernel.specs.declared.control.Attr.TheVariants as attr
use Rattle.ug_kernel.specs.declared.control.Write.{Write}
use Rattle.ug_kernel.specs.declared.calls.ReadOut.{ReadOut}
use Rattle.ug_kernel.specs.declared.calls.ReadOut.TheVariants as out
use Rattle.ug_kernel.specs.Calls.{Call, Names, Open, Read, Ask_alive, Put, Close, Closing, Answer, raised}
use Rattle.ug_kernel.specs.Kernel.{Kernel, Live, IsKernel, has_file, Stays, Moves}
use Rattle.ug_kernel.specs.Called.{NoneHas, NoneLived, read_of, within_limit, text_within, written_to, IsWritten, DoesCall, IsGoneAt, IsAlive, IsFile, says_read, SaysAnswer, Called, Follows}
use Rattle.ug_kernel.proofs.Places.{at_set_same, at_set_other}
use Rattle.ug_kernel.proofs.Stayed.{live_back, lived_at, unmoving}
use Rattle.ug_kernel.proofs.Sounds.{sound_set, held_push, has_stays, files_push, kernel_moves}
use Rattle.ug_sysfs.specs.Devices.{find}
use Rattle.ug_sysfs.specs.Reply.{Reply, failing_reply, IsMemory}
use Rattle.ug_sysfs.specs.World.{World, if_has, with_file, opened_at, read_from, read_at, live_held, live_names, probed_at, put_at, act, hidden, effect, shift, entered, call_ended, fate_of, failure_counted, with_kernel, told_as, answer_from, answer_unless, Wants, Gives, event_begun, told}
use Rattle.ug_sysfs.specs.Begins.{happen_moves}
use Rattle.ug_sysfs.specs.Find.{FoundDevice, find_some, find_none, listed_live, distinct_names, HeldLive, live_held_some, live_held_none}
use Rattle.ug_sysfs.specs.Sound.{sound_happen}

-- what holds of the effect of a call
pub record Ready (c : Call) (a : Answer c) (k l : Kernel) : Type 0 where
  pub does : DoesCall c a k l
  pub says : (x y : Kernel) → IsKernel x → IsKernel k → Moves x k → Moves l y → SaysAnswer c a x y
  pub sound : IsKernel k → IsKernel l

pub none_lived : (name : List ℕ) (x k y : Kernel) → find name 0 k.devices ≡ None → Moves x k
    → Moves k y → NoneLived name x y
none_lived name x k y h a b i d lived n =
    let p = lived_at x.devices k.devices y.devices i d a.devices b.devices lived in
    find_none name 0 k.devices h i p.0 p.1 (p.2.name ∙ n)

-- the device of a name with that file

found_with : (control : Control) (name : List ℕ) (i j : ℕ) (ds : List Device)
    (f : FoundDevice name j ds)
    (b : Bool) → has_file control f.device ≡ b → cond b (Some j) None ≡ Some i
    → (g : FoundDevice name i ds) × (has_file control g.device ≡ true)
found_with control name i j ds f true e h =
    let P : ℕ → Type 0 = λ n. (g : FoundDevice name n ds) × (has_file control g.device ≡ true) in
    subst P (let same : j ≡ i = cc in same) (f, e)
found_with control name i j ds f false e h = absurd (none-some i h)

with_file_some : (control : Control) (name : List ℕ) (i : ℕ) (ds : List Device)
    → with_file control (find name 0 ds) ds ≡ Some i
    → (g : FoundDevice name i ds) × (has_file control g.device ≡ true)
with_file_some control name i ds h = by (find name 0 ds) refl h
  where
    by : (o : Option ℕ) → find name 0 ds ≡ o → with_file control o ds ≡ Some i
        → (g : FoundDevice name i ds) × (has_file control g.device ≡ true)
    by None e g = absurd (none-some i g)
    by (Some j) e g =
        let f = find_some name j ds e in
        found_with control name i j ds f (has_file control f.device) refl
        (sym (ap (if_has control j) f.live.at) ∙ g)

with_file_none : (control : Control) (name : List ℕ) (k : Kernel) (i : ℕ) (d : Device)
    → with_file control (find name 0 k.devices) k.devices ≡ None → IsKernel k → Live k.devices i d
    → d.name ≡ name → has_file control d ≡ true → ⊥
with_file_none control name k i d h s live n has = by (find name 0 k.devices) refl h
  where
    by : (o : Option ℕ) → find name 0 k.devices ≡ o → with_file control o k.devices ≡ None → ⊥
    by None e g = find_none name 0 k.devices e i d live n
    by (Some j) e g =
        let f = find_some name j k.devices e in
        let same : i ≡ j = s.devices.names i j d f.device live f.live (n ∙ sym f.named) in
        let at : slice_get k.devices j ≡ Some d = ap (slice_get k.devices) (sym same) ∙ live.at in
        none-some j (sym g ∙ ap (if_has control j) at ∙ ap (λ (b : Bool). cond b (Some j) None) has)

none_has : (control : Control) (name : List ℕ) (x k y : Kernel)
    → with_file control (find name 0 k.devices) k.devices ≡ None → IsKernel k → Moves x k
    → Moves k y → NoneHas control name x y
none_has control name x k y h s a b i d lived n has =
    let p = lived_at x.devices k.devices y.devices i d a.devices b.devices lived in
    with_file_none control name k i p.0 h s p.1 (p.2.name ∙ n)
    (has_stays control d p.0 p.2.parent ∙ has)

ready_open : (name : List ℕ) (control : Control) (w : World) (k : Kernel) (o : Option ℕ)
    → with_file control (find name 0 k.devices) k.devices ≡ o
    → Ready (Open name control) (told_as (Open name control) (opened_at control o k).0 w) k
    (opened_at control o k).1
ready_open name control w k None h = record {
  does = refl;
  says = λ x y sx sk a b. none_has control name x k y h sk a b;
  sound = λ s. s;
}
ready_open name control w k (Some i) h =
    let g = with_file_some control name i k.devices h in
    let f = g.0 in
    let file : HeldFile = record { device = i; control = control } in
    record {
      does = record {
        i = i;
        d = f.device;
        live = f.live;
        named = f.named;
        has = g.1;
        next = refl;
        more = refl;
        devices = refl;
        log = refl;
      };
      says = λ x y sx sk a b. tt;
      sound = λ s. record {
        devices = s.devices;
        held = held_push k.held file (length k.devices) s.held
            (slice_get_within k.devices i f.device f.live.at);
        files = files_push k.held file k.devices s.files
            (λ d at. subst (λ (e : Device). has_file control e ≡ true)
            (same_Some f.device d (sym f.live.at ∙ at)) g.1);
      };
    }

says_file : (name : List ℕ) (at : Attr) (r : ReadOut) (x y : Kernel) → IsFile name at r x y
    → says_read name at r x y
says_file name at out.Failed x y h = tt
says_file name at out.Memory x y h = tt
says_file name at (out.Bytes bytes) x y h = h
says_file name at out.Absent x y h = h
says_file name at out.TooLong x y h = h

read_stays : (at : Attr) (d e : Device) → Stays d e → read_of at e ≡ read_of at d
read_stays attr.Descriptors d e s = ap (λ (t : List ℕ). within_limit 131072 t) s.descriptors
read_stays attr.Product d e s = ap text_within s.product
read_stays attr.Serial d e s = ap text_within s.serial
read_stays attr.Connect d e s = ap text_within s.connect

ready_read : (name : List ℕ) (at : Attr) (w : World) (k : Kernel) (o : Option ℕ)
    → find name 0 k.devices ≡ o
    → Ready (Read name at) (told_as (Read name at) (read_at at o k.devices) w) k k
ready_read name at w k None h = record {
  does = refl;
  says = λ x y sx sk a b i d lived n. absurd (none_lived name x k y h a b i d lived n);
  sound = λ s. s;
}
ready_read name at w k (Some i) h =
    let f = find_some name i k.devices h in
    let there : read_from at (slice_get k.devices i) ≡ read_of at f.device =
    ap (read_from at) f.live.at in
    record {
      does = refl;
      says = λ x y sx sk a b.
          says_file name at (read_from at (slice_get k.devices i)) x y (λ j d lived n.
          let p = lived_at x.devices k.devices y.devices j d a.devices b.devices lived in
          let same : j ≡ i =
          sk.devices.names j i p.0 f.device p.1 f.live (p.2.name ∙ n ∙ sym f.named) in
          let one : p.0 ≡ f.device =
          same_Some p.0 f.device (sym p.1.at ∙ ap (slice_get k.devices) same ∙ f.live.at) in
          there ∙ ap (read_of at) (sym one) ∙ read_stays at d p.0 p.2);
      sound = λ s. s;
    }

-- whose held file's device isn't live at the effect, is gone at the end
gone_at_end : (h : ℕ) (k y : Kernel) → live_held h k.held k.devices ≡ None → IsKernel k → Moves k y
    → IsGoneAt h y
gone_at_end h k y e s b i d holds l =
    let at : slice_get k.held h ≡ Some holds.file =
    ap (λ (files : List HeldFile). slice_get files h) (sym b.held) ∙ holds.at in
    let here : Live y.devices holds.file.device d =
    subst (λ (j : ℕ). Live y.devices j d) (sym holds.is) l in
    let p = live_back k.devices y.devices b.devices holds.file.device d here
    (s.held h holds.file at) in
    live_held_none h k.held k.devices e holds.file p.0 at p.1

-- whose device is live at the effect, was alive at the start
was_alive : (h i : ℕ) (x k : Kernel) → IsKernel x → Moves x k → (f : HeldLive h i k.held k.devices)
    → IsAlive h f.device.on x
was_alive h i x k s a f =
    let at : slice_get x.held h ≡ Some f.file =
    ap (λ (files : List HeldFile). slice_get files h) (sym a.held) ∙ f.at in
    let lt : i < length x.devices =
    subst (λ (j : ℕ). j < length x.devices) f.is (s.held h f.file at) in
    let p = live_back x.devices k.devices a.devices i f.device f.live lt in
    record {
      i = i;
      d = p.0;
      holds = record { file = f.file; at = at; is = f.is; device = p.1.at };
      live = p.1;
      value = sym p.2.on;
    }

pub ready_probe : (h : ℕ) (w : World) (k : Kernel) (o : Option ℕ) → live_held h k.held k.devices ≡ o
    → Ready (Ask_alive h) (told_as (Ask_alive h) (probed_at o k.devices) w) k k
ready_probe h w k None e = record {
  does = refl;
  says = λ x y sx sk a b. gone_at_end h k y e sk b;
  sound = λ s. s;
}
ready_probe h w k (Some i) e =
    let f = live_held_some h i k.held k.devices e in
    rw f.live.at (record {
      does = refl;
      says = λ x y sx sk a b. was_alive h i x k sx a f;
      sound = λ s. s;
    })

is_written : (h : ℕ) (write : Write) (i : ℕ) (k : Kernel) → HeldLive h i k.held k.devices
    → IsWritten h write k (put_at write (Some i) k).1
is_written h write i k f = rw f.live.at (record {
  i = i;
  d = f.device;
  holds = record { file = f.file; at = f.at; is = f.is; device = f.live.at };
  live = f.live;
  log = refl;
  now = at_set_same k.devices i f.device (written_to write f.device) f.live.at;
  others = λ j n. at_set_other k.devices i j (written_to write f.device) n;
  number = length-set k.devices i (written_to write f.device);
  files = refl;
})

written_sound : (write : Write) (i : ℕ) (d : Device) (k : Kernel) → Live k.devices i d → IsKernel k
    → IsKernel (put_at write (Some i) k).1
written_sound write i d k l s = rw l.at (record {
  devices = sound_set write k.devices i d l.at s.devices;
  held = λ h f a. omega (arith, s.held h f a, length-set k.devices i (written_to write d));
  files = λ h f e a at. elim (cases_eq f.device i) [
    | inl p ↦
        let same : written_to write d ≡ e =
        same_Some (written_to write d) e
        (sym (at_set_same k.devices i d (written_to write d) l.at) ∙ ap
        (slice_get (set k.devices i (written_to write d))) (sym p) ∙ at) in
        has_stays f.control d e (ap (λ (x : Device). x.parent) (sym same)) ∙ s.files h f d a
        (ap (slice_get k.devices) p ∙ l.at)
    | inr n ↦ s.files h f e a (sym (at_set_other k.devices i f.device (written_to write d) n) ∙ at)
  ];
})

ready_put : (h : ℕ) (write : Write) (w : World) (k : Kernel) (o : Option ℕ)
    → live_held h k.held k.devices ≡ o
    → Ready (Put h write) (told_as (Put h write) (put_at write o k).0 w) k (put_at write o k).1
ready_put h write w k None e = record {
  does = refl;
  says = λ x y sx sk a b. gone_at_end h k y e sk b;
  sound = λ s. s;
}
ready_put h write w k (Some i) e =
    let f = live_held_some h i k.held k.devices e in
    record {
      does = is_written h write i k f;
      says = λ x y sx sk a b. (f.device.on, was_alive h i x k sx a f);
      sound = λ s. written_sound write i f.device k f.live s;
    }

ready_act : (c : Call) (w : World) (k : Kernel) → Ready c (told_as c (act c k).0 w) k (act c k).1
ready_act Names w k = record {
  does = refl;
  says = λ x y sx sk a b. (
    λ i d lived.
        let p = lived_at x.devices k.devices y.devices i d a.devices b.devices lived in
        subst (Has (live_names k.devices)) p.2.name (listed_live k.devices i p.0 p.1),
    distinct_names k.devices sk.devices.names,
  );
  sound = λ s. s;
}
ready_act (Open name control) w k =
    ready_open name control w k (with_file control (find name 0 k.devices) k.devices) refl
ready_act (Read name at) w k = ready_read name at w k (find name 0 k.devices) refl
ready_act (Ask_alive h) w k = ready_probe h w k (live_held h k.held k.devices) refl
ready_act (Put h write) w k = ready_put h write w k (live_held h k.held k.devices) refl
ready_act (Close h) w k = record { does = refl; says = λ x y sx sk a b. tt; sound = λ s. s }

ready_still : (c : Call) (w : World) (k : Kernel) → Ready c (told_as c (failing_reply c) w) k k
ready_still Names w k = record { does = refl; says = λ x y sx sk a b. tt; sound = λ s. s }
ready_still (Open name control) w k =
    record { does = refl; says = λ x y sx sk a b. tt; sound = λ s. s }
ready_still (Read name at) w k = record { does = refl; says = λ x y sx sk a b. tt; sound = λ s. s }
ready_still (Ask_alive h) w k = record { does = refl; says = λ x y sx sk a b. tt; sound = λ s. s }
ready_still (Put h write) w k =
    record { does = inl refl; says = λ x y sx sk a b. tt; sound = λ s. s }
ready_still (Close h) w k = record { does = refl; says = λ x y sx sk a b. tt; sound = λ s. s }

ready_put_hidden : (h : ℕ) (write : Write) (w : World) (k : Kernel) (o : Option ℕ)
    → live_held h k.held k.devices ≡ o
    → Ready (Put h write) (told_as (Put h write) (failing_reply (Put h write)) w) k
    (put_at write o k).1
ready_put_hidden h write w k None e = ready_still (Put h write) w k
ready_put_hidden h write w k (Some i) e =
    let f = live_held_some h i k.held k.devices e in
    record {
      does = inr (is_written h write i k f);
      says = λ x y sx sk a b. tt;
      sound = λ s. written_sound write i f.device k f.live s;
    }

ready_hidden : (c : Call) (w : World) (k : Kernel)
    → Ready c (told_as c (failing_reply c) w) k (hidden c k)
ready_hidden Names w k = ready_still Names w k
ready_hidden (Open name control) w k = ready_still (Open name control) w k
ready_hidden (Read name at) w k = ready_still (Read name at) w k
ready_hidden (Ask_alive h) w k = ready_still (Ask_alive h) w k
ready_hidden (Put h write) w k = ready_put_hidden h write w k (live_held h k.held k.devices) refl
ready_hidden (Close h) w k = ready_still (Close h) w k

pub ready_memory : (c : Call) (r : Reply c) (w : World) (k : Kernel) → IsMemory c r
    → Ready c (told_as c r w) k k
ready_memory Names r w k m =
    rw m (record { does = refl; says = λ x y sx sk a b. tt; sound = λ s. s })
ready_memory (Open name control) r w k m =
    rw m (record { does = refl; says = λ x y sx sk a b. tt; sound = λ s. s })
ready_memory (Read name at) r w k m =
    rw m (record { does = refl; says = λ x y sx sk a b. tt; sound = λ s. s })
ready_memory (Ask_alive h) r w k m = absurd m
ready_memory (Put h write) r w k m = absurd m
ready_memory (Close h) r w k m = absurd m

pub ready_effect : (f : Option Bool) (c : Call) (w : World) (k : Kernel)
    → Ready c (told_as c (effect f c k).0 w) k (effect f c k).1
ready_effect None c w k = ready_act c w k
ready_effect (Some true) c w k = ready_hidden c w k
ready_effect (Some false) c w k = ready_still c w k

-- moves of a script are moves
shifts : (n : ℕ) (after : Bool) (w : World) → Moves w.kernel (shift n after w).kernel
shifts n after w = happen_moves n after w.moves w.kernel

shifts_sound : (n : ℕ) (after : Bool) (w : World) → IsKernel w.kernel
    → IsKernel (shift n after w).kernel
shifts_sound n after w s =
    kernel_moves w.kernel (shift n after w).kernel s (shifts n after w)
    (sound_happen n after w.moves w.kernel.devices s.devices)

called_by : (c : Call) (a : Answer c) (r : Reply c) (s w : World)
    → Ready c a (entered s).kernel w.kernel → IsKernel s.kernel
    → Called c a s.kernel (call_ended c r w).kernel
called_by c a r s w ok k =
    let at = shifts_sound (raised s.calls) false s k in
    record {
      before = (entered s).kernel;
      after = w.kernel;
      moves_before = shifts (raised s.calls) false s;
      effect = ok.does;
      moves_after = shifts w.calls true w;
      says = ok.says s.kernel (call_ended c r w).kernel k at (shifts (raised s.calls) false s)
          (shifts w.calls true w);
      sound_before = at;
      sound_after = ok.sound at;
      sound = shifts_sound w.calls true w (ok.sound at);
    }

pub tells_kernel : (t : World) (l : Kernel) → told t ≡ Some l → (t.ran_out ≡ false) × (t.kernel ≡ l)
tells_kernel t l h = pick t.ran_out refl h
  where
    pick : (b : Bool) → t.ran_out ≡ b → cond b None (Some t.kernel) ≡ Some l
        → (t.ran_out ≡ false) × (t.kernel ≡ l)
    pick true e h = absurd (none-some l h)
    pick false e h = (e, same_Some t.kernel l h)

follows_by : (c : Call) (a : Answer c) (r : Reply c) (s w : World) (l : Kernel) → s.ran_out ≡ false
    → Ready c a (entered s).kernel w.kernel → (call_ended c r w).kernel ≡ l → Follows c a (told s) l
follows_by c a r s w l run ok e = record {
  kernel = s.kernel;
  was = rw run refl;
  called = λ k. subst (Called c a s.kernel) e (called_by c a r s w ok k);
}

-- a call that has entered
from_script : (s : World) (c : Call) (a : Answer c) (t : World) (l : Kernel) → s.ran_out ≡ false
    → a ≡ (answer_from (entered s) c).0 → t ≡ (answer_from (entered s) c).1 → t.kernel ≡ l
    → Follows c a (told s) l
from_script s c a t l run ea et el =
    let w = entered s in
    let u = with_kernel (failure_counted w) (effect (fate_of w) c w.kernel).1 in
    let r = (effect (fate_of w) c w.kernel).0 in
    let ok : Ready c (told_as c r (call_ended c r u)) w.kernel u.kernel =
    ready_effect (fate_of w) c (call_ended c r u) w.kernel in
    follows_by c a r s u l run (subst (λ (b : Answer c). Ready c b w.kernel u.kernel) (sym ea) ok)
    (ap (λ (x : World). x.kernel) (sym et) ∙ el)

-- closing changes nothing
from_close : (h : ℕ) (a : Closing) (s : World) (l : Kernel) → s.ran_out ≡ false → s.kernel ≡ l
    → Follows (Close h) a (told s) l
from_close h a s l run e = record {
  kernel = s.kernel;
  was = rw run refl;
  called = λ k. subst (Called (Close h) a s.kernel) e (record {
    before = s.kernel;
    after = s.kernel;
    moves_before = unmoving s.kernel;
    effect = refl;
    moves_after = unmoving s.kernel;
    says = tt;
    sound_before = k;
    sound_after = k;
    sound = k;
  });
}

-- the script's own answer, unless the kernel has run out
by_script : (out : Bool) (s : World) (c : Call) (a : Answer c) (t : World) (l : Kernel)
    → s.ran_out ≡ out → a ≡ (answer_unless out s c).0 → t ≡ (answer_unless out s c).1
    → t.ran_out ≡ false → t.kernel ≡ l → Follows c a (told s) l
by_script out s (Close h) a t l e ea et run el =
    from_close h a s l (ap (λ (x : World). x.ran_out) (sym et) ∙ run)
    (ap (λ (x : World). x.kernel) (sym et) ∙ el)
by_script true s Names a t l e ea et run el =
    absurd (both_ways t.ran_out run (ap (λ (x : World). x.ran_out) et ∙ e))
by_script true s (Open name control) a t l e ea et run el =
    absurd (both_ways t.ran_out run (ap (λ (x : World). x.ran_out) et ∙ e))
by_script true s (Read name at) a t l e ea et run el =
    absurd (both_ways t.ran_out run (ap (λ (x : World). x.ran_out) et ∙ e))
by_script true s (Ask_alive h) a t l e ea et run el =
    absurd (both_ways t.ran_out run (ap (λ (x : World). x.ran_out) et ∙ e))
by_script true s (Put h write) a t l e ea et run el =
    absurd (both_ways t.ran_out run (ap (λ (x : World). x.ran_out) et ∙ e))
by_script false s Names a t l e ea et run el = from_script s Names a t l e ea et el
by_script false s (Open name control) a t l e ea et run el =
    from_script s (Open name control) a t l e ea et el
by_script false s (Read name at) a t l e ea et run el =
    from_script s (Read name at) a t l e ea et el
by_script false s (Ask_alive h) a t l e ea et run el = from_script s (Ask_alive h) a t l e ea et el
by_script false s (Put h write) a t l e ea et run el = from_script s (Put h write) a t l e ea et el

by_want : (s : World) (c : Call) (a : Answer c) (t : World) (l : Kernel) → Wants s c a t
    → t.kernel ≡ l → Follows c a (told s) l
by_want s c a t l w el =
    follows_by c a w.reply s (entered s) l w.ran
    (subst (λ (b : Answer c). Ready c b (entered s).kernel (entered s).kernel) (sym w.answer)
    (ready_memory c w.reply t (entered s).kernel w.memory))
    (ap (λ (x : World). x.kernel) (sym w.after) ∙ el)

pub does_what_it_may : (s : World) (c : Call) (a : Answer c) (t : World) (l : Kernel)
    → Gives s c a t → told t ≡ Some l → Follows c a (told s) l
does_what_it_may s c a t l g h = elim g [
  | inl x ↦ by_script s.ran_out s c a t l refl x.0 x.1 (tells_kernel t l h).0 (tells_kernel t l h).1
  | inr y ↦ elim y [
    | inl z ↦ by_want s c a t l z (tells_kernel t l h).1
    | inr z ↦ absurd (both_ways t.ran_out (tells_kernel t l h).0 z.out)
  ]
]

pub begins_afresh : (s t : World) → t ≡ event_begun s
    → (told t ≡ told s) × (t.calls ≡ 0) × (t.faults ≡ s.faults)
begins_afresh s t e = (ap told e, ap (λ (w : World). w.calls) e, ap (λ (w : World). w.faults) e)
