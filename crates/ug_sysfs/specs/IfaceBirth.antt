-- An interface is added wherever it can be, and goes where it is there, and else nothing changes.
use Rattle.std.proofs.Common.{◌≡◌, ℕ, ◌<◌, Bool, true, false, ◌&&◌, cond, nat_lt, List, [], ◌∷◌, ◌++◌, set, Option, Some, None, is_none, refl, sym, ◌∙◌, ap, subst}
use Rattle.std.proofs.lemmas.Bool.{and_parts, lt-ltb, ltb-true}
use Rattle.ug_kernel.specs.declared.device.Device.{Device}
use Rattle.ug_kernel.specs.Kernel.{Live, IsSound}
use Rattle.ug_iface.specs.declared.interface.Interface.{Interface}
use Rattle.ug_iface.specs.declared.name.IfaceName.{IfaceName}
use Rattle.ug_iface.specs.Bus.{Bus, IsCalled, IsSoundBus, LiveIface, ungone_of}
use Rattle.ug_sysfs.specs.declared.script.IfaceMove.TheVariants.{Add, Remove}
use Rattle.ug_sysfs.specs.declared.script.NewIface.{NewIface}
use Rattle.ug_sysfs.specs.Devices.{find}
use Rattle.ug_sysfs.specs.Find.{find_some, find_none}
use Rattle.ug_sysfs.specs.IfaceMoves.{none_of}
use Rattle.ug_sysfs.specs.Interfaces.{added_under, can_add, gone_there, iface_moved, iface_of, iface_place, place_named, removed_at}
use Rattle.ug_sysfs.specs.Placed.{NamedThere, named_none, named_some, place_none, place_some}

-- no live interface bears that name
abbrev pub IsntThere : IfaceName → Bus → Type 0
IsntThere name b = (j : ℕ) (x : Interface) (l : LiveIface b j x) → IsCalled name l.d x → ⊥

-- device i is live and bears the name, the interface isn't there, and fewer than 1,024 of the
-- device are; and its configuration isn't 0
pub record CanBeAdded (new : NewIface) (b : Bus) (i : ℕ) : Type 0 where
  pub d : Device
  pub live : Live b.kernel.devices i d
  pub named : d.name ≡ new.name.device
  pub free : IsntThere new.name b
  pub few : ungone_of i b.interfaces < 1024
  pub configured : 0 < new.name.config

found : (name : List ℕ) (ds : List Device) (i : ℕ) (d : Device) → IsSound ds → Live ds i d
    → d.name ≡ name → find name 0 ds ≡ Some i
found name ds i d s l n = by (find name 0 ds) refl
  where
    by : (o : Option ℕ) → find name 0 ds ≡ o → find name 0 ds ≡ Some i
    by None e = absurd (find_none name 0 ds e i d l n)
    by (Some j) e =
        let f = find_some name j ds e in
        e ∙ ap Some (s.names j i f.device d f.live l (f.named ∙ sym n))

all_true : (a b c : Bool) → a ≡ true → b ≡ true → c ≡ true → a && (b && c) ≡ true
all_true a b c f g h = rw f (rw g h)

pub iface_added : (new : NewIface) (b : Bus) (i : ℕ) → IsSound b.kernel.devices
    → CanBeAdded new b i
    → iface_moved (Add new) b.kernel.devices b.interfaces ≡ b.interfaces ++ iface_of i new ∷ []
iface_added new b i s can =
    ap (λ (o : Option ℕ). added_under o new b.interfaces)
    (found new.name.device b.kernel.devices i can.d s can.live can.named)
    ∙ ap (λ (v : Bool). cond v (b.interfaces ++ iface_of i new ∷ []) b.interfaces) able
  where
    none : (o : Option ℕ) → iface_place i new.name.config new.name.number b.interfaces ≡ o
        → is_none o ≡ true
    none None e = refl
    none (Some j) e =
        let p = place_some i new.name.config new.name.number b.interfaces j e in
        let live : Live b.kernel.devices p.0.device can.d =
        subst (λ (k : ℕ). Live b.kernel.devices k can.d) (sym p.2.device_is) can.live in
        absurd (can.free j p.0 (record {
          at = p.1;
          here = p.2.here;
          d = can.d;
          device = live;
        })
        (record {
          device = can.named;
          config = p.2.config_is;
          number = p.2.number_is;
        }))

    able : can_add i new.name b.interfaces ≡ true
    able =
        all_true (nat_lt 0 new.name.config) (nat_lt (ungone_of i b.interfaces) 1024)
        (is_none (iface_place i new.name.config new.name.number b.interfaces))
        (lt-ltb 0 new.name.config can.configured)
        (lt-ltb (ungone_of i b.interfaces) 1024 can.few)
        (none (iface_place i new.name.config new.name.number b.interfaces) refl)

pub iface_refused : (new : NewIface) (b : Bus) → IsSound b.kernel.devices
    → ((i : ℕ) → CanBeAdded new b i → ⊥)
    → iface_moved (Add new) b.kernel.devices b.interfaces ≡ b.interfaces
iface_refused new b s cannot = at (find new.name.device 0 b.kernel.devices) refl
  where
    tested : (i : ℕ) → find new.name.device 0 b.kernel.devices ≡ Some i → (v : Bool)
        → can_add i new.name b.interfaces ≡ v
        → cond v (b.interfaces ++ iface_of i new ∷ []) b.interfaces ≡ b.interfaces
    tested i e false h = refl
    tested i e true h =
        let f = find_some new.name.device i b.kernel.devices e in
        let p = and_parts (nat_lt 0 new.name.config) _ h in
        let q = and_parts (nat_lt (ungone_of i b.interfaces) 1024) _ p.1 in
        let none = none_of (iface_place i new.name.config new.name.number b.interfaces) q.1 in
        absurd (cannot i (record {
          d = f.device;
          live = f.live;
          named = f.named;
          free = λ j x l called.
              place_none i new.name.config new.name.number b.interfaces j x none l.at (record {
                here = l.here;
                device_is = s.names x.device i l.d f.device l.device f.live
                    (called.device ∙ sym f.named);
                config_is = called.config;
                number_is = called.number;
              });
          few = ltb-true (ungone_of i b.interfaces) 1024 q.0;
          configured = ltb-true 0 new.name.config p.0;
        }))

    at : (o : Option ℕ) → find new.name.device 0 b.kernel.devices ≡ o
        → added_under o new b.interfaces ≡ b.interfaces
    at None e = refl
    at (Some i) e = tested i e (can_add i new.name b.interfaces) refl

there : (name : IfaceName) (b : Bus) (j : ℕ) (x : Interface) (l : LiveIface b j x)
    → IsCalled name l.d x → NamedThere name j b.kernel.devices b.interfaces
there name b j x l called = record {
  x = x;
  at = l.at;
  d = l.d;
  live = l.device;
  named = called.device;
  here = l.here;
  config_is = called.config;
  number_is = called.number;
}

pub iface_gone : (name : IfaceName) (b : Bus) (j : ℕ) (x : Interface) → IsSoundBus b
    → (l : LiveIface b j x) → IsCalled name l.d x
    → iface_moved (Remove name) b.kernel.devices b.interfaces
    ≡ set b.interfaces j (record x { gone = true })
iface_gone name b j x s l called =
    at (place_named name b.kernel.devices b.interfaces) refl
  where
    at : (o : Option ℕ) → place_named name b.kernel.devices b.interfaces ≡ o
        → removed_at o b.interfaces ≡ set b.interfaces j (record x { gone = true })
    at None e =
        absurd (named_none name b.kernel.devices b.interfaces e s.kernel.devices.names j
        (there name b j x l called))
    at (Some k) e =
        let n = named_some name b.kernel.devices b.interfaces k e in
        let one : n.x.device ≡ x.device =
        s.kernel.devices.names n.x.device x.device n.d l.d n.live l.device
        (n.named ∙ sym called.device) in
        let same : k ≡ j =
        s.apart k j n.x x (record { at = n.at; here = n.here; d = n.d; device = n.live }) l one
        (n.config_is ∙ sym called.config) (n.number_is ∙ sym called.number) in
        ap (λ (i : ℕ). removed_at (Some i) b.interfaces) same
        ∙ ap (λ (o : Option Interface). gone_there j o b.interfaces) l.at

pub iface_nobody : (name : IfaceName) (b : Bus) → IsntThere name b
    → iface_moved (Remove name) b.kernel.devices b.interfaces ≡ b.interfaces
iface_nobody name b none = at (place_named name b.kernel.devices b.interfaces) refl
  where
    at : (o : Option ℕ) → place_named name b.kernel.devices b.interfaces ≡ o
        → removed_at o b.interfaces ≡ b.interfaces
    at None e = refl
    at (Some k) e =
        let n = named_some name b.kernel.devices b.interfaces k e in
        absurd (none k n.x (record { at = n.at; here = n.here; d = n.d; device = n.live }) (record {
          device = n.named;
          config = n.config_is;
          number = n.number_is;
        }))
