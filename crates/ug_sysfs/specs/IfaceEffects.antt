-- The effects of the calls of interfaces, as a script has them, are what they may be.
use Rattle.std.proofs.Common.{◌≡◌, ℕ, zero, suc, ◌<◌, Bool, true, false, List, [], ◌∷◌, ◌++◌, length, set, Option, Some, None, refl, sym, ◌∙◌, ap, subst, arith, inl, inr, length-set}
use Rattle.std.proofs.lemmas.Option.{slice_get_within}
use Rattle.std.specs.List.{slice_get}
use Rattle.ug_types.specs.Elements.{Has}
use Rattle.ug_kernel.specs.declared.device.Device.{Device}
use Rattle.ug_kernel.specs.Kernel.{Live}
use Rattle.ug_kernel.proofs.Grow.{some_same}
use Rattle.ug_kernel.proofs.Places.{at_push, at_set_same, at_set_other}
use Rattle.ug_iface.specs.declared.interface.Interface.{Interface}
use Rattle.ug_iface.specs.declared.name.IfaceName.{IfaceName}
use Rattle.ug_iface.specs.Bus.{Bus, LiveIface, IsCalled, IsSoundBus, IfaceStays, MovesBus}
use Rattle.ug_iface.specs.Calls.{IfaceCall, Names_of, Open, Read, Ask_device, Ask, Put_off, Close, IfaceAnswer}
use Rattle.ug_iface.specs.Called.{LivedIface, NoIfaceLived, IsSwitchedOff, IfaceDoes, IsIfaceGone, IsIfaceAlive, IfaceSays}
use Rattle.ug_iface.specs.Grows.{BusGrows}
use Rattle.ug_iface.proofs.Grow.{moves_still, still_grows, iface_before, one_of_name}
use Rattle.ug_iface.proofs.Lived.{iface_cut}
use Rattle.ug_sysfs.specs.Devices.{find}
use Rattle.ug_sysfs.specs.Find.{find_some}
use Rattle.ug_sysfs.specs.Interfaces.{place_named, iface_name, iface_names, is_of}
use Rattle.ug_sysfs.specs.Placed.{NamedThere, named_some, named_none, FileThere, file_some, file_none, is_of_device, of_device}
use Rattle.ug_sysfs.specs.World.{World, probed_at, live_held}
use Rattle.ug_sysfs.specs.Law.{none_lived, ready_probe}
use Rattle.ug_sysfs.specs.Serving.{IfaceReply, iface_failure, IsIfaceMemory, listed_under, iface_opened, iface_read, iface_probed, put_off, live_file, iface_act, iface_hidden, iface_effect, iface_told_as}
use Rattle.ug_sysfs.specs.IfaceMoves.{sound_set}
use Rattle.ug_sysfs.specs.Listing.{all_listed, all_of, distinct_of}

-- what holds of the effect of a call
pub record ReadyIface (c : IfaceCall) (a : IfaceAnswer c) (k l : Bus) : Type 0 where
  pub does : IfaceDoes c a k l
  pub says : (x y : Bus) → IsSoundBus x → IsSoundBus k → MovesBus x k → MovesBus l y
      → IfaceSays c a x y
  pub sound : IsSoundBus k → IsSoundBus l

grown : (b c : Bus) → MovesBus b c → BusGrows b c
grown b c m = still_grows b c (moves_still b c m)

-- ---- what lived through is there at the effect

still_named : (name : IfaceName) (x k y : Bus) → IsSoundBus k → MovesBus x k → MovesBus k y
    → (i : ℕ) (v : Interface) → LivedIface x y name i v
    → (n : NamedThere name i k.kernel.devices k.interfaces) × IfaceStays v n.x
still_named name x k y sk a b i v lived =
    let p = (iface_cut x k y name i v sk (grown x k a) (grown k y b) lived).1 in
    let z = p.1 in (
      record {
        x = p.0;
        at = z.entry.at;
        d = z.entry.d;
        live = z.entry.device;
        named = z.called.device;
        here = z.entry.here;
        config_is = z.called.config;
        number_is = z.called.number;
      },
      p.2,
    )

no_iface_lived : (name : IfaceName) (x k y : Bus)
    → place_named name k.kernel.devices k.interfaces ≡ None → IsSoundBus k → MovesBus x k
    → MovesBus k y → NoIfaceLived name x y
no_iface_lived name x k y h sk a b i v lived =
    named_none name k.kernel.devices k.interfaces h sk.kernel.devices.names i
    (still_named name x k y sk a b i v lived).0

abbrev live_of : (name : IfaceName) (i : ℕ) (k : Bus)
    → (n : NamedThere name i k.kernel.devices k.interfaces) → LiveIface k i n.x
live_of name i k n = record { at = n.at; here = n.here; d = n.d; device = n.live }

abbrev called_of : (name : IfaceName) (i : ℕ) (k : Bus)
    → (n : NamedThere name i k.kernel.devices k.interfaces) → IsCalled name n.d n.x
called_of name i k n = record { device = n.named; config = n.config_is; number = n.number_is }

live_under : (k : Bus) (device i : ℕ) (v : Interface) (d : Device)
    → Live k.kernel.devices device d → slice_get k.interfaces i ≡ Some v → is_of device v ≡ true
    → LiveIface k i v
live_under k device i v d live at own =
    let p = of_device device v own in
    record {
      at = at;
      here = p.0;
      d = d;
      device = subst (λ (n : ℕ). Live k.kernel.devices n d) (sym p.1) live;
    }

-- ---- the listing

ready_names : (name : List ℕ) (w : World) (k : Bus) (o : Option ℕ)
    → find name 0 k.kernel.devices ≡ o
    → ReadyIface (Names_of name)
    (iface_told_as (Names_of name) (listed_under o name k.interfaces) w) k k
ready_names name w k None h = record {
  does = refl;
  says = λ x y sx sk a b. none_lived name x.kernel k.kernel y.kernel h a.kernel b.kernel;
  sound = λ s. s;
}
ready_names name w k (Some device) h =
    let f = find_some name device k.kernel.devices h in
    record {
      does = refl;
      says = λ x y sx sk a b. (
        λ called i v named lived.
            let n = (still_named called x k y sk a b i v lived).0 in
            let own : n.x.device ≡ device =
            sk.kernel.devices.names n.x.device device n.d f.device n.live f.live
            (n.named ∙ named ∙ sym f.named) in
            subst (λ (m : IfaceName). Has (iface_names device name k.interfaces) m)
            (let e : iface_name name n.x ≡ called = (λ j. record {
              device = (sym named) j;
              config = n.config_is j;
              number = n.number_is j;
            }) in e)
            (all_listed device name k.interfaces i n.x n.at (is_of_device device n.x n.here own)),
        all_of device name k.interfaces,
        distinct_of device name k.interfaces (λ i j v z p q vd zd.
            let l : LiveIface k i v = live_under k device i v f.device f.live p vd in
            let m : LiveIface k j z = live_under k device j z f.device f.live q zd in
            sk.apart i j v z l m ((of_device device v vd).1 ∙ sym (of_device device z zd).1)),
      );
      sound = λ s. s;
    }

-- ---- opening and reading

-- held files and the log bear on nothing else
sound_beside : (b : Bus) (files log : List ℕ) → IsSoundBus b
    → ((h i : ℕ) → slice_get files h ≡ Some i → i < length b.interfaces)
    → IsSoundBus (record b { files = files; log = log })
sound_beside b files log s within = record {
  kernel = s.kernel;
  apart = λ i j x y p q.
      s.apart i j x y (record { at = p.at; here = p.here; d = p.d; device = p.device })
      (record { at = q.at; here = q.here; d = q.d; device = q.device });
  born = s.born;
  configured = s.configured;
  few = s.few;
  files = within;
}

ready_iface_open : (name : IfaceName) (w : World) (k : Bus) (o : Option ℕ)
    → place_named name k.kernel.devices k.interfaces ≡ o
    → ReadyIface (Open name) (iface_told_as (Open name) (iface_opened o k).0 w) k
    (iface_opened o k).1
ready_iface_open name w k None h = record {
  does = refl;
  says = λ x y sx sk a b. no_iface_lived name x k y h sk a b;
  sound = λ s. s;
}
ready_iface_open name w k (Some i) h =
    let n = named_some name k.kernel.devices k.interfaces i h in
    record {
      does = record {
        i = i;
        x = n.x;
        live = live_of name i k n;
        called = called_of name i k n;
        next = refl;
        after = refl;
      };
      says = λ x y sx sk a b. tt;
      sound = λ s.
          sound_beside k (k.files ++ i ∷ []) k.log s (λ h j e. elim (at_push k.files i h j e) [
            | inl p ↦ s.files h j p.1
            | inr p ↦ subst (λ (m : ℕ). m < length k.interfaces) p.1
                (slice_get_within k.interfaces i n.x n.at)
          ]);
    }

ready_iface_read : (name : IfaceName) (w : World) (k : Bus) (o : Option ℕ)
    → place_named name k.kernel.devices k.interfaces ≡ o
    → ReadyIface (Read name) (iface_told_as (Read name) (iface_read o k.interfaces) w) k k
ready_iface_read name w k None h = record {
  does = refl;
  says = λ x y sx sk a b. no_iface_lived name x k y h sk a b;
  sound = λ s. s;
}
ready_iface_read name w k (Some i) h =
    let n = named_some name k.kernel.devices k.interfaces i h in
    rw n.at (record {
      does = refl;
      says = λ x y sx sk a b j v lived.
          let m = still_named name x k y sk a b j v lived in
          let same : j ≡ i =
          one_of_name k name j i m.0.x n.x sk (live_of name j k m.0) (called_of name j k m.0)
          (live_of name i k n) (called_of name i k n) in
          let one : m.0.x ≡ n.x =
          some_same (slice_get k.interfaces i) m.0.x n.x
          (ap (slice_get k.interfaces) (sym same) ∙ m.0.at) n.at in
          sym m.1.triple ∙ ap (λ (z : Interface). z.triple) one;
      sound = λ s. s;
    })

-- ---- held files

at_within : {X : Type 0} (xs : List X) (i : ℕ) → i < length xs → (x : X) × (slice_get xs i ≡ Some x)
at_within [] i lt = absurd (omega (arith, lt))
at_within (x ∷ xs) zero lt = (x, refl)
at_within (x ∷ xs) (suc i) lt = at_within xs i (omega (arith, lt))

-- whose held file's interface isn't live at the effect, is gone at the end
iface_gone_at_end : (h : ℕ) (k y : Bus) → live_file h k ≡ None → IsSoundBus k → MovesBus k y
    → IsIfaceGone h y
iface_gone_at_end h k y e s b i v holds l =
    let file : slice_get k.files h ≡ Some i =
    ap (λ (fs : List ℕ). slice_get fs h) (sym b.files) ∙ holds.file in
    let z = at_within k.interfaces i (s.files h i file) in
    let p = (iface_before k y i z.0 v s (grown k y b) z.1 l).0 in
    file_none h k.files k.interfaces k.kernel.devices e i
    (record {
      x = z.0;
      file = file;
      at = z.1;
      here = p.here;
      d = p.d;
      live = p.device;
    })

abbrev live_held_of : (h i : ℕ) (k : Bus)
    → (f : FileThere h i k.files k.interfaces k.kernel.devices) → LiveIface k i f.x
live_held_of h i k f = record { at = f.at; here = f.here; d = f.d; device = f.live }

-- whose interface is live at the effect, was alive at the start
iface_was_alive : (h i : ℕ) (x k : Bus) → IsSoundBus x → MovesBus x k
    → (f : FileThere h i k.files k.interfaces k.kernel.devices) → IsIfaceAlive h f.x.on x
iface_was_alive h i x k s a f =
    let file : slice_get x.files h ≡ Some i =
    ap (λ (fs : List ℕ). slice_get fs h) (sym a.files) ∙ f.file in
    let v = at_within x.interfaces i (s.files h i file) in
    let p = (iface_before x k i v.0 f.x s (grown x k a) v.1 (live_held_of h i k f)).0 in
    let m = (moves_still x k a).interfaces i v.0 v.1 in
    let same : m.0 ≡ f.x = some_same (slice_get k.interfaces i) m.0 f.x m.1 f.at in
    record {
      i = i;
      x = v.0;
      holds = record { file = file; at = v.1 };
      live = p;
      value = sym m.2.on ∙ ap (λ (z : Interface). z.on) same;
    }

ready_ask : (h : ℕ) (w : World) (k : Bus) (o : Option ℕ) → live_file h k ≡ o
    → ReadyIface (Ask h) (iface_told_as (Ask h) (iface_probed o k.interfaces) w) k k
ready_ask h w k None e = record {
  does = refl;
  says = λ x y sx sk a b. iface_gone_at_end h k y e sk b;
  sound = λ s. s;
}
ready_ask h w k (Some i) e =
    let f = file_some h i k.files k.interfaces k.kernel.devices e in
    rw f.at (record {
      does = refl;
      says = λ x y sx sk a b. iface_was_alive h i x k sx a f;
      sound = λ s. s;
    })

ready_ask_device : (h : ℕ) (w : World) (k : Bus)
    → ReadyIface (Ask_device h)
    (iface_told_as (Ask_device h)
    (probed_at (live_held h k.kernel.held k.kernel.devices) k.kernel.devices) w)
    k k
ready_ask_device h w k = record {
  does = refl;
  says = λ x y sx sk a b.
      (ready_probe h w k.kernel (live_held h k.kernel.held k.kernel.devices) refl).says x.kernel
      y.kernel sx.kernel sk.kernel a.kernel b.kernel;
  sound = λ s. s;
}

-- ---- switching off

is_switched_off : (h i : ℕ) (k : Bus) → FileThere h i k.files k.interfaces k.kernel.devices
    → IsSwitchedOff h k (put_off (Some i) k).1
is_switched_off h i k f = rw f.at (record {
  i = i;
  x = f.x;
  holds = record { file = f.file; at = f.at };
  live = live_held_of h i k f;
  log = refl;
  now = at_set_same k.interfaces i f.x (record f.x { on = false }) f.at;
  others = λ j n. at_set_other k.interfaces i j (record f.x { on = false }) n;
  number = length-set k.interfaces i (record f.x { on = false });
  kernel = refl;
  files = refl;
})

off_stays : (x : Interface) → IfaceStays x (record x { on = false })
off_stays x =
    record { device = refl; config = refl; number = refl; triple = refl; gone = λ g. g }

switched_off_sound : (i : ℕ) (x : Interface) (k : Bus) → slice_get k.interfaces i ≡ Some x
    → IsSoundBus k → IsSoundBus (put_off (Some i) k).1
switched_off_sound i x k at s =
    let b : Bus = record k { interfaces = set k.interfaces i (record x { on = false }) } in
    let sb : IsSoundBus b = sound_set k i x (record x { on = false }) s at (off_stays x) in
    rw at (sound_beside b k.files (k.log ++ i ∷ []) sb sb.files)

ready_put_off : (h : ℕ) (w : World) (k : Bus) (o : Option ℕ) → live_file h k ≡ o
    → ReadyIface (Put_off h) (iface_told_as (Put_off h) (put_off o k).0 w) k (put_off o k).1
ready_put_off h w k None e = record {
  does = refl;
  says = λ x y sx sk a b. iface_gone_at_end h k y e sk b;
  sound = λ s. s;
}
ready_put_off h w k (Some i) e =
    let f = file_some h i k.files k.interfaces k.kernel.devices e in
    record {
      does = is_switched_off h i k f;
      says = λ x y sx sk a b. (f.x.on, iface_was_alive h i x k sx a f);
      sound = λ s. switched_off_sound i f.x k f.at s;
    }

-- ---- each call

ready_iface_act : (c : IfaceCall) (w : World) (k : Bus)
    → ReadyIface c (iface_told_as c (iface_act c k).0 w) k (iface_act c k).1
ready_iface_act (Names_of name) w k = ready_names name w k (find name 0 k.kernel.devices) refl
ready_iface_act (Open name) w k =
    ready_iface_open name w k (place_named name k.kernel.devices k.interfaces) refl
ready_iface_act (Read name) w k =
    ready_iface_read name w k (place_named name k.kernel.devices k.interfaces) refl
ready_iface_act (Ask_device h) w k = ready_ask_device h w k
ready_iface_act (Ask h) w k = ready_ask h w k (live_file h k) refl
ready_iface_act (Put_off h) w k = ready_put_off h w k (live_file h k) refl
ready_iface_act (Close h) w k =
    record { does = refl; says = λ x y sx sk a b. tt; sound = λ s. s }

ready_iface_still : (c : IfaceCall) (w : World) (k : Bus)
    → ReadyIface c (iface_told_as c (iface_failure c) w) k k
ready_iface_still (Names_of name) w k =
    record { does = refl; says = λ x y sx sk a b. tt; sound = λ s. s }
ready_iface_still (Open name) w k =
    record { does = refl; says = λ x y sx sk a b. tt; sound = λ s. s }
ready_iface_still (Read name) w k =
    record { does = refl; says = λ x y sx sk a b. tt; sound = λ s. s }
ready_iface_still (Ask_device h) w k =
    record { does = refl; says = λ x y sx sk a b. tt; sound = λ s. s }
ready_iface_still (Ask h) w k =
    record { does = refl; says = λ x y sx sk a b. tt; sound = λ s. s }
ready_iface_still (Put_off h) w k =
    record { does = inl refl; says = λ x y sx sk a b. tt; sound = λ s. s }
ready_iface_still (Close h) w k =
    record { does = refl; says = λ x y sx sk a b. tt; sound = λ s. s }

ready_off_hidden : (h : ℕ) (w : World) (k : Bus) (o : Option ℕ) → live_file h k ≡ o
    → ReadyIface (Put_off h) (iface_told_as (Put_off h) (iface_failure (Put_off h)) w) k
    (put_off o k).1
ready_off_hidden h w k None e = ready_iface_still (Put_off h) w k
ready_off_hidden h w k (Some i) e =
    let f = file_some h i k.files k.interfaces k.kernel.devices e in
    record {
      does = inr (is_switched_off h i k f);
      says = λ x y sx sk a b. tt;
      sound = λ s. switched_off_sound i f.x k f.at s;
    }

ready_iface_hidden : (c : IfaceCall) (w : World) (k : Bus)
    → ReadyIface c (iface_told_as c (iface_failure c) w) k (iface_hidden c k)
ready_iface_hidden (Names_of name) w k = ready_iface_still (Names_of name) w k
ready_iface_hidden (Open name) w k = ready_iface_still (Open name) w k
ready_iface_hidden (Read name) w k = ready_iface_still (Read name) w k
ready_iface_hidden (Ask_device h) w k = ready_iface_still (Ask_device h) w k
ready_iface_hidden (Ask h) w k = ready_iface_still (Ask h) w k
ready_iface_hidden (Put_off h) w k = ready_off_hidden h w k (live_file h k) refl
ready_iface_hidden (Close h) w k = ready_iface_still (Close h) w k

pub ready_iface_memory : (c : IfaceCall) (r : IfaceReply c) (w : World) (k : Bus)
    → IsIfaceMemory c r
    → ReadyIface c (iface_told_as c r w) k k
ready_iface_memory (Names_of name) r w k m =
    rw m (record { does = refl; says = λ x y sx sk a b. tt; sound = λ s. s })
ready_iface_memory (Open name) r w k m =
    rw m (record { does = refl; says = λ x y sx sk a b. tt; sound = λ s. s })
ready_iface_memory (Read name) r w k m = absurd m
ready_iface_memory (Ask_device h) r w k m = absurd m
ready_iface_memory (Ask h) r w k m = absurd m
ready_iface_memory (Put_off h) r w k m = absurd m
ready_iface_memory (Close h) r w k m = absurd m

pub ready_iface : (f : Option Bool) (c : IfaceCall) (w : World) (k : Bus)
    → ReadyIface c (iface_told_as c (iface_effect f c k).0 w) k (iface_effect f c k).1
ready_iface None c w k = ready_iface_act c w k
ready_iface (Some true) c w k = ready_iface_hidden c w k
ready_iface (Some false) c w k = ready_iface_still c w k
