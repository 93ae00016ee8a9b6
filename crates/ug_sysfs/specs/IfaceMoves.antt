-- The moves of a script are moves of devices and interfaces together, and keep them sound.
use Rattle.std.proofs.Common.{◌≡◌, ℕ, zero, suc, ◌+◌, ◌<◌, ◌≤◌, Bool, true, false, not, ◌&&◌, cond, if◌then◌else◌, nat_eq, nat_lt, is_none, List, [], ◌∷◌, ◌++◌, set, Option, Some, None, refl, sym, ◌∙◌, ap, subst, inl, inr, ◌⊎◌, arith, length-set, length-append}
use Rattle.std.proofs.lemmas.Bool.{and_parts, both_ways, cases_eq, ltb-true, ne_eqb}
use Rattle.std.proofs.lemmas.Option.{none-some, same_Some}
use Rattle.std.specs.List.{slice_get}
use Rattle.ug_kernel.specs.declared.device.Device.{Device}
use Rattle.ug_kernel.specs.Kernel.{Kernel, Live, IsKernel, Moves}
use Rattle.ug_kernel.specs.Quiet.{Grows}
use Rattle.ug_kernel.proofs.Births.{moves_then}
use Rattle.ug_kernel.proofs.Grow.{quiet_grows}
use Rattle.ug_kernel.proofs.HeldFiles.{live_before}
use Rattle.ug_kernel.proofs.Places.{at_push, at_set_same, at_set_other}
use Rattle.ug_kernel.proofs.Quiet.{moves_quiet}
use Rattle.ug_kernel.proofs.Stayed.{stayed_here, unmoving}
use Rattle.ug_iface.specs.declared.interface.Interface.{Interface}
use Rattle.ug_iface.specs.Bus.{Bus, LiveIface, ungone_of, IsSoundBus, IfaceStays, IfaceMoved, IsUngone, AreNew, IfacesBegin, MovesBus}
use Rattle.ug_sysfs.specs.declared.script.NewIface.{NewIface}
use Rattle.ug_sysfs.specs.declared.script.IfaceMove.{IfaceMove}
use Rattle.ug_sysfs.specs.declared.script.IfaceMove.TheVariants.{Add, Remove}
use Rattle.ug_sysfs.specs.declared.script.Move.{Move}
use Rattle.ug_sysfs.specs.declared.script.Move.TheVariants.{Plug, Unplug, Iface}
use Rattle.ug_sysfs.specs.declared.script.Scheduled.{Scheduled}
use Rattle.ug_sysfs.specs.Devices.{find}
use Rattle.ug_sysfs.specs.Find.{find_some}
use Rattle.ug_sysfs.specs.Interfaces.{iface_place, place_named, iface_of, can_add, added_under, gone_there, removed_at, iface_moved}
use Rattle.ug_sysfs.specs.Placed.{place_none}
use Rattle.ug_sysfs.specs.Begins.{moved_moves}
use Rattle.ug_sysfs.specs.Sound.{moved_sound, new_sound}
use Rattle.ug_sysfs.specs.World.{World, moved, ifaces_moved, due, happen, happen_all, ifaces_happen, ifaces_happen_all, shift}
use Rattle.ug_sysfs.specs.Serving.{bus_in}

pub moves_grow : (k l : Kernel) → Moves k l → Grows k l
moves_grow k l m = quiet_grows k l (moves_quiet k l m)

-- ---- what becomes of interfaces

pub iface_unmoved : (x : Interface) → IfaceMoved x x
iface_unmoved x = record {
  stays = record { device = refl; config = refl; number = refl; triple = refl; gone = λ g. g };
  on = refl;
}

iface_moved_then : (x y z : Interface) → IfaceMoved x y → IfaceMoved y z → IfaceMoved x z
iface_moved_then x y z h k = record {
  stays = record {
    device = k.stays.device ∙ h.stays.device;
    config = k.stays.config ∙ h.stays.config;
    number = k.stays.number ∙ h.stays.number;
    triple = k.stays.triple ∙ h.stays.triple;
    gone = λ g. k.stays.gone (h.stays.gone g);
  };
  on = k.on ∙ h.on;
}

pub ifaces_stay : (k : Kernel) (xs : List Interface) → IfacesBegin k xs xs
ifaces_stay k [] = tt
ifaces_stay k (x ∷ xs) = (iface_unmoved x, ifaces_stay k xs)

-- what wasn't gone later wasn't before
abbrev pub WereUngone : Kernel → Kernel → Type 0
WereUngone k l = (i : ℕ) → IsUngone l i → IsUngone k i

pub were_ungone : (k l : Kernel) → Grows k l → WereUngone k l
were_ungone k l g i u d at =
    let p = g.devices i d at in
    stayed_here d p.0 p.2 (u p.0 p.1)

new_before : (k l : Kernel) (ys : List Interface) → WereUngone k l → AreNew l ys → AreNew k ys
new_before k l [] b n = tt
new_before k l (y ∷ ys) b n = (b y.device n.0, new_before k l ys b n.1)

new_then : (k l : Kernel) (ys zs : List Interface) → WereUngone k l → AreNew k ys
    → IfacesBegin l ys zs → AreNew k zs
new_then k l [] zs b n h = new_before k l zs b h
new_then k l (y ∷ ys) [] b n h = absurd h
new_then k l (y ∷ ys) (z ∷ zs) b n h = (
  subst (λ (i : ℕ). IsUngone k i) (sym h.0.stays.device) n.0,
  new_then k l ys zs b n.1 h.1,
)

pub ifaces_then : (k l : Kernel) (xs ys zs : List Interface) → WereUngone k l
    → IfacesBegin k xs ys → IfacesBegin l ys zs → IfacesBegin k xs zs
ifaces_then k l [] ys zs b g h = new_then k l ys zs b g h
ifaces_then k l (x ∷ xs) [] zs b g h = absurd g
ifaces_then k l (x ∷ xs) (y ∷ ys) [] b g h = absurd h
ifaces_then k l (x ∷ xs) (y ∷ ys) (z ∷ zs) b g h =
    (iface_moved_then x y z g.0 h.0, ifaces_then k l xs ys zs b g.1 h.1)

ifaces_more : (k : Kernel) (xs : List Interface) (y : Interface) → IsUngone k y.device
    → IfacesBegin k xs (xs ++ y ∷ [])
ifaces_more k [] y u = (u, tt)
ifaces_more k (x ∷ xs) y u = (iface_unmoved x, ifaces_more k xs y u)

ifaces_set : (k : Kernel) (xs : List Interface) (i : ℕ) (x y : Interface)
    → slice_get xs i ≡ Some x → IfaceMoved x y → IfacesBegin k xs (set xs i y)
ifaces_set k [] i x y h m = absurd (none-some x h)
ifaces_set k (z ∷ xs) zero x y h m =
    (subst (λ (v : Interface). IfaceMoved v y) (sym (same_Some z x h)) m, ifaces_stay k xs)
ifaces_set k (z ∷ xs) (suc i) x y h m = (iface_unmoved z, ifaces_set k xs i x y h m)

-- ---- one move

-- an interface that goes
goes : (x : Interface) → IfaceMoved x (record x { gone = true })
goes x = record {
  stays = record { device = refl; config = refl; number = refl; triple = refl; gone = λ g. refl };
  on = refl;
}

begins_added : (k : Kernel) (new : NewIface) (xs : List Interface)
    → IfacesBegin k xs (added_under (find new.name.device 0 k.devices) new xs)
begins_added k new xs = under (find new.name.device 0 k.devices) refl
  where
    under : (o : Option ℕ) → find new.name.device 0 k.devices ≡ o
        → IfacesBegin k xs (added_under o new xs)
    under None e = ifaces_stay k xs
    under (Some device) e =
        let f = find_some new.name.device device k.devices e in
        let u : IsUngone k device =
        λ d at.
        ap (λ (x : Device). x.gone) (sym (same_Some f.device d (sym f.live.at ∙ at)))
        ∙ f.live.here in
        elim (can_add device new.name xs) as
        (λ c. IfacesBegin k xs (cond c (xs ++ iface_of device new ∷ []) xs)) [
          | true ↦ ifaces_more k xs (iface_of device new) u
          | false ↦ ifaces_stay k xs
        ]

begins_removed : (k : Kernel) (o : Option ℕ) (xs : List Interface)
    → IfacesBegin k xs (removed_at o xs)
begins_removed k None xs = ifaces_stay k xs
begins_removed k (Some i) xs = there (slice_get xs i) refl
  where
    there : (p : Option Interface) → slice_get xs i ≡ p → IfacesBegin k xs (gone_there i p xs)
    there None e = ifaces_stay k xs
    there (Some x) e = ifaces_set k xs i x (record x { gone = true }) e (goes x)

begins_change : (change : IfaceMove) (k : Kernel) (xs : List Interface)
    → IfacesBegin k xs (iface_moved change k.devices xs)
begins_change (Add new) k xs = begins_added k new xs
begins_change (Remove name) k xs = begins_removed k (place_named name k.devices xs) xs

abbrev pub bus_moved : Move → Bus → Bus
bus_moved m b = record b {
  kernel = record b.kernel { devices = moved m b.kernel.devices };
  interfaces = ifaces_moved m b.kernel.devices b.interfaces;
}

moves_ifaces : (m : Move) (k : Kernel) (xs : List Interface)
    → IfacesBegin k xs (ifaces_moved m k.devices xs)
moves_ifaces (Plug d) k xs = ifaces_stay k xs
moves_ifaces (Unplug name) k xs = ifaces_stay k xs
moves_ifaces (Iface change) k xs = begins_change change k xs

pub moves_one : (m : Move) (b : Bus) → MovesBus b (bus_moved m b)
moves_one m b =
    record {
      kernel = moved_moves m b.kernel;
      interfaces = moves_ifaces m b.kernel b.interfaces;
      files = refl;
      log = refl;
    }

pub bus_still : (b : Bus) → MovesBus b b
bus_still b =
    record {
      kernel = unmoving b.kernel;
      interfaces = ifaces_stay b.kernel b.interfaces;
      files = refl;
      log = refl;
    }

pub moves_bus_then : (b c d : Bus) → MovesBus b c → MovesBus c d → MovesBus b d
moves_bus_then b c d h k = record {
  kernel = moves_then b.kernel c.kernel d.kernel h.kernel k.kernel;
  interfaces = ifaces_then b.kernel c.kernel b.interfaces c.interfaces d.interfaces
      (were_ungone b.kernel c.kernel (moves_grow b.kernel c.kernel h.kernel)) h.interfaces
      k.interfaces;
  files = k.files ∙ h.files;
  log = k.log ∙ h.log;
}

-- ---- soundness

-- what the devices' calls and moves leave sound
pub sound_under : (b : Bus) (l : Kernel) → IsSoundBus b → Grows b.kernel l → IsKernel l
    → IsSoundBus (record b { kernel = l })
sound_under b l s g k = record {
  kernel = k;
  apart = λ i j x y p q. s.apart i j x y (back i x p) (back j y q);
  born = λ i x at.
      let d = s.born i x at in
      let e = g.devices x.device d.0 d.1 in
      (e.0, e.1);
  configured = s.configured;
  few = s.few;
  files = s.files;
}
  where
    back : (i : ℕ) (x : Interface) → LiveIface (record b { kernel = l }) i x → LiveIface b i x
    back i x p =
        let d = s.born i x p.at in
        record {
          at = p.at;
          here = p.here;
          d = d.0;
          device = (live_before b.kernel l x.device d.0 p.d g d.1 p.device).0;
        }

pub ungone_push : (i : ℕ) (xs : List Interface) (y : Interface)
    → ungone_of i (xs ++ y ∷ [])
    ≡ ungone_of i xs + (if not y.gone && nat_eq y.device i then 1 else 0)
ungone_push i [] y = omega arith
ungone_push i (x ∷ xs) y = let rest = ungone_push i xs y in omega (arith, rest)

-- no more aren't gone where one is changed
counted_one : (i : ℕ) (x y : Interface) → IfaceStays x y
    → (if not y.gone && nat_eq y.device i then 1 else 0)
    ≤ (if not x.gone && nat_eq x.device i then 1 else 0)
counted_one i x y h = pick x.gone refl y.gone refl
  where
    pick : (g : Bool) → x.gone ≡ g → (c : Bool) → y.gone ≡ c
        → (if not c && nat_eq y.device i then 1 else 0)
        ≤ (if not g && nat_eq x.device i then 1 else 0)
    pick g e true f = omega arith
    pick true e false f = absurd (both_ways y.gone f (h.gone e))
    pick false e false f = rw h.device (omega arith)

pub ungone_set : (i : ℕ) (xs : List Interface) (j : ℕ) (x y : Interface)
    → slice_get xs j ≡ Some x → IfaceStays x y → ungone_of i (set xs j y) ≤ ungone_of i xs
ungone_set i [] j x y h s = absurd (none-some x h)
ungone_set i (z ∷ xs) zero x y h s =
    let one = counted_one i z y
    (subst (λ (v : Interface). IfaceStays v y) (sym (same_Some z x h)) s) in
    omega (arith, one)
ungone_set i (z ∷ xs) (suc j) x y h s =
    let rest = ungone_set i xs j x y h s in
    omega (arith, rest)

pub set_cases : (xs : List Interface) (i : ℕ) (x y : Interface) (j : ℕ) (z : Interface)
    → slice_get xs i ≡ Some x → slice_get (set xs i y) j ≡ Some z
    → ((j ≡ i) × (y ≡ z)) ⊎ (slice_get xs j ≡ Some z)
set_cases xs i x y j z at h = elim (cases_eq j i) [
  | inl e ↦ inl (
    e,
    same_Some y z
        (sym (at_set_same xs i x y at) ∙ ap (slice_get (set xs i y)) (sym e) ∙ h),
  )
  | inr n ↦ inr (sym (at_set_other xs i j y n) ∙ h)
]

-- what one was that isn't gone
pub was_here : (x y : Interface) → IfaceStays x y → y.gone ≡ false → x.gone ≡ false
was_here x y s h = pick x.gone refl
  where
    pick : (b : Bool) → x.gone ≡ b → x.gone ≡ false
    pick true g = absurd (both_ways y.gone h (s.gone g))
    pick false g = g

pub sound_set : (b : Bus) (i : ℕ) (x y : Interface) → IsSoundBus b
    → slice_get b.interfaces i ≡ Some x → IfaceStays x y
    → IsSoundBus (record b { interfaces = set b.interfaces i y })
sound_set b i x y s at stays = record {
  kernel = s.kernel;
  apart = λ j k v w p q d c n.
      let a = back j v p in
      let e = back k w q in
      s.apart j k a.0 e.0 a.1 e.1 (sym a.2.device ∙ d ∙ e.2.device)
      (sym a.2.config ∙ c ∙ e.2.config) (sym a.2.number ∙ n ∙ e.2.number);
  born = λ j z h. elim (set_cases b.interfaces i x y j z at h) [
    | inl e ↦
        let d = s.born i x at in
        let own : z.device ≡ x.device =
        ap (λ (v : Interface). v.device) (sym e.1) ∙ stays.device in
        (d.0, ap (slice_get b.kernel.devices) own ∙ d.1)
    | inr e ↦ s.born j z e
  ];
  configured = λ j z h. elim (set_cases b.interfaces i x y j z at h) [
    | inl e ↦
        let same : z.config ≡ x.config =
        ap (λ (v : Interface). v.config) (sym e.1) ∙ stays.config in
        omega (arith, s.configured i x at, same)
    | inr e ↦ s.configured j z e
  ];
  few = λ j. omega (arith, s.few j, ungone_set j b.interfaces i x y at stays);
  files = λ h j e. omega (arith, s.files h j e, length-set b.interfaces i y);
}
  where
    back : (j : ℕ) (z : Interface)
        → LiveIface (record b { interfaces = set b.interfaces i y }) j z
        → (v : Interface) × LiveIface b j v × IfaceStays v z
    back j z p = elim (set_cases b.interfaces i x y j z at p.at) [
      | inl e ↦
          let st : IfaceStays x z = subst (λ (v : Interface). IfaceStays x v) e.1 stays in (
            x,
            record {
              at = ap (slice_get b.interfaces) e.0 ∙ at;
              here = was_here x z st p.here;
              d = p.d;
              device = subst (λ (n : ℕ). Live b.kernel.devices n p.d) st.device p.device;
            },
            st,
          )
      | inr e ↦ (
        z,
        record { at = e; here = p.here; d = p.d; device = p.device },
        (iface_unmoved z).stays,
      )
    ]

at_most : (c : Bool) → (if c then 1 else 0) ≤ 1
at_most true = omega arith
at_most false = omega arith

not_counted : (i : ℕ) (y : Interface) → (y.device ≡ i → ⊥)
    → ◌≡◌ {A = ℕ} (if not y.gone && nat_eq y.device i then 1 else 0) 0
not_counted i y n = rw (ne_eqb y.device i n) (pick y.gone)
  where
    pick : (g : Bool) → ◌≡◌ {A = ℕ} (if not g && false then 1 else 0) 0
    pick true = refl
    pick false = refl

-- at most 1,024 where there were fewer
pub counted_here : (xs : List Interface) (y : Interface) → ((i : ℕ) → ungone_of i xs ≤ 1024)
    → ungone_of y.device xs < 1024 → (i : ℕ) → (y.device ≡ i) ⊎ (y.device ≡ i → ⊥)
    → ungone_of i (xs ++ y ∷ []) ≤ 1024
counted_here xs y few less i (inl e) =
    let here : ungone_of i xs < 1024 = subst (λ (n : ℕ). ungone_of n xs < 1024) e less in
    omega (arith, here, ungone_push i xs y, at_most (not y.gone && nat_eq y.device i))
counted_here xs y few less i (inr n) =
    omega (arith, few i, ungone_push i xs y, not_counted i y n)

sound_push_iface : (b : Bus) (y : Interface) (d : Device) → IsSoundBus b
    → Live b.kernel.devices y.device d → 0 < y.config → ungone_of y.device b.interfaces < 1024
    → iface_place y.device y.config y.number b.interfaces ≡ None
    → IsSoundBus (record b { interfaces = b.interfaces ++ y ∷ [] })
sound_push_iface b y d s live config few free = record {
  kernel = s.kernel;
  apart = λ i j v w p q e c n. elim (at_push xs y i v p.at) [
    | inl a ↦ elim (at_push xs y j w q.at) [
      | inl h ↦ s.apart i j v w (old i v p a.1) (old j w q h.1) e c n
      | inr h ↦ absurd (taken i v w p.here a.1 h.1 e c n)
    ]
    | inr a ↦ elim (at_push xs y j w q.at) [
      | inl h ↦ absurd (taken j w v q.here h.1 a.1 (sym e) (sym c) (sym n))
      | inr h ↦ a.0 ∙ sym h.0
    ]
  ];
  born = λ i x at. elim (at_push xs y i x at) [
    | inl a ↦ s.born i x a.1
    | inr a ↦ (d, ap (λ (v : Interface). slice_get b.kernel.devices v.device) (sym a.1) ∙ live.at)
  ];
  configured = λ i x at. elim (at_push xs y i x at) [
    | inl a ↦ s.configured i x a.1
    | inr a ↦ subst (λ (v : Interface). 0 < v.config) a.1 config
  ];
  few = λ i. counted_here xs y s.few few i (cases_eq y.device i);
  files = λ h i e. omega (arith, s.files h i e, length-append xs (y ∷ []));
}
  where
    xs : List Interface
    xs = b.interfaces

    old : (i : ℕ) (x : Interface) → LiveIface (record b { interfaces = xs ++ y ∷ [] }) i x
        → slice_get xs i ≡ Some x → LiveIface b i x
    old i x p at = record { at = at; here = p.here; d = p.d; device = p.device }

    taken : (i : ℕ) (v w : Interface) → v.gone ≡ false → slice_get xs i ≡ Some v → y ≡ w
        → v.device ≡ w.device → v.config ≡ w.config → v.number ≡ w.number → ⊥
    taken i v w here at same e c n =
        place_none y.device y.config y.number xs i v free at
        (record {
          here = here;
          device_is = e ∙ ap (λ (x : Interface). x.device) (sym same);
          config_is = c ∙ ap (λ (x : Interface). x.config) (sym same);
          number_is = n ∙ ap (λ (x : Interface). x.number) (sym same);
        })

pub none_of : (o : Option ℕ) → is_none o ≡ true → o ≡ None
none_of None h = refl
none_of (Some i) h = absurd (both_ways false refl h)

sound_added : (b : Bus) (new : NewIface) → IsSoundBus b
    → IsSoundBus (record b
    { interfaces = added_under (find new.name.device 0 b.kernel.devices) new b.interfaces })
sound_added b new s = under (find new.name.device 0 b.kernel.devices) refl
  where
    under : (o : Option ℕ) → find new.name.device 0 b.kernel.devices ≡ o
        → IsSoundBus (record b { interfaces = added_under o new b.interfaces })
    under None e = s
    under (Some device) e = pick (can_add device new.name b.interfaces) refl
      where
        pick : (c : Bool) → can_add device new.name b.interfaces ≡ c
            → IsSoundBus (record b
            { interfaces = cond c (b.interfaces ++ iface_of device new ∷ []) b.interfaces })
        pick false h = s
        pick true h =
            let f = find_some new.name.device device b.kernel.devices e in
            let place = iface_place device new.name.config new.name.number b.interfaces in
            let p =
            and_parts (nat_lt 0 new.name.config)
            (nat_lt (ungone_of device b.interfaces) 1024 && is_none place) h in
            let q = and_parts (nat_lt (ungone_of device b.interfaces) 1024) (is_none place) p.1 in
            sound_push_iface b (iface_of device new) f.device s f.live
            (ltb-true 0 new.name.config p.0)
            (ltb-true (ungone_of device b.interfaces) 1024 q.0) (none_of place q.1)

sound_removed : (b : Bus) (o : Option ℕ) → IsSoundBus b
    → IsSoundBus (record b { interfaces = removed_at o b.interfaces })
sound_removed b None s = s
sound_removed b (Some i) s = there (slice_get b.interfaces i) refl
  where
    there : (p : Option Interface) → slice_get b.interfaces i ≡ p
        → IsSoundBus (record b { interfaces = gone_there i p b.interfaces })
    there None e = s
    there (Some x) e = sound_set b i x (record x { gone = true }) s e (goes x).stays

sound_change : (change : IfaceMove) (b : Bus) → IsSoundBus b
    → IsSoundBus (record b { interfaces = iface_moved change b.kernel.devices b.interfaces })
sound_change (Add new) b s = sound_added b new s
sound_change (Remove name) b s = sound_removed b (place_named name b.kernel.devices b.interfaces) s

pub sound_one : (m : Move) (b : Bus) → IsSoundBus b → IsSoundBus (bus_moved m b)
sound_one (Plug d) b s =
    let l = record b.kernel { devices = moved (Plug d) b.kernel.devices } in
    sound_under b l s (moves_grow b.kernel l (moved_moves (Plug d) b.kernel))
    (moved_sound (Plug d) b.kernel s.kernel)
sound_one (Unplug name) b s =
    let l = record b.kernel { devices = moved (Unplug name) b.kernel.devices } in
    sound_under b l s (moves_grow b.kernel l (moved_moves (Unplug name) b.kernel))
    (moved_sound (Unplug name) b.kernel s.kernel)
sound_one (Iface change) b s = sound_change change b s

-- ---- all whose turn has come

abbrev bus_shifted : ℕ → Bool → List Scheduled → Bus → Bus
bus_shifted n after ms b = record b {
  kernel = record b.kernel { devices = (happen n after ms b.kernel.devices).1 };
  interfaces = ifaces_happen n after ms b.kernel.devices b.interfaces;
}

moves_all : (n : ℕ) (after : Bool) (ms : List Scheduled) (b : Bus)
    → MovesBus b (bus_shifted n after ms b)
moves_all n after [] b = bus_still b
moves_all n after (m ∷ ms) b =
    elim (due n after m) as
    (λ c. MovesBus b (record b {
      kernel = record b.kernel {
        devices =
            (cond c (happen n after ms (moved m.action b.kernel.devices))
            (m ∷ ms, b.kernel.devices)).1;
      };
      interfaces =
          cond c
          (ifaces_happen n after ms (moved m.action b.kernel.devices)
          (ifaces_moved m.action b.kernel.devices b.interfaces)) b.interfaces;
    })) [
      | true ↦ moves_bus_then b (bus_moved m.action b) _ (moves_one m.action b)
          (moves_all n after ms (bus_moved m.action b))
      | false ↦ bus_still b
    ]

sound_all : (n : ℕ) (after : Bool) (ms : List Scheduled) (b : Bus) → IsSoundBus b
    → IsSoundBus (bus_shifted n after ms b)
sound_all n after [] b s = s
sound_all n after (m ∷ ms) b s =
    elim (due n after m) as
    (λ c. IsSoundBus (record b {
      kernel = record b.kernel {
        devices =
            (cond c (happen n after ms (moved m.action b.kernel.devices))
            (m ∷ ms, b.kernel.devices)).1;
      };
      interfaces =
          cond c
          (ifaces_happen n after ms (moved m.action b.kernel.devices)
          (ifaces_moved m.action b.kernel.devices b.interfaces)) b.interfaces;
    })) [
      | true ↦ sound_all n after ms (bus_moved m.action b) (sound_one m.action b s)
      | false ↦ s
    ]

pub bus_shifts : (n : ℕ) (after : Bool) (w : World) → MovesBus (bus_in w) (bus_in (shift n after w))
bus_shifts n after w = moves_all n after w.moves (bus_in w)

pub bus_shifts_sound : (n : ℕ) (after : Bool) (w : World) → IsSoundBus (bus_in w)
    → IsSoundBus (bus_in (shift n after w))
bus_shifts_sound n after w s = sound_all n after w.moves (bus_in w) s

-- ---- what is left at an event's end

pub bus_over : (ms : List Scheduled) (b : Bus)
    → MovesBus b (record b {
      kernel = record b.kernel { devices = happen_all ms b.kernel.devices };
      interfaces = ifaces_happen_all ms b.kernel.devices b.interfaces;
    })
bus_over [] b = bus_still b
bus_over (m ∷ ms) b =
    moves_bus_then b (bus_moved m.action b) _ (moves_one m.action b)
    (bus_over ms (bus_moved m.action b))

pub bus_over_sound : (ms : List Scheduled) (b : Bus) → IsSoundBus b
    → IsSoundBus (record b {
      kernel = record b.kernel { devices = happen_all ms b.kernel.devices };
      interfaces = ifaces_happen_all ms b.kernel.devices b.interfaces;
    })
bus_over_sound [] b s = s
bus_over_sound (m ∷ ms) b s = bus_over_sound ms (bus_moved m.action b) (sound_one m.action b s)

-- without devices and interfaces
pub bus_new_sound : IsSoundBus (record {
  kernel = record { devices = []; held = []; log = [] };
  interfaces = [];
  files = [];
  log = [];
})
bus_new_sound = record {
  kernel = new_sound;
  apart = λ i j x y p q e c n. absurd (none-some x p.at);
  born = λ i x at. absurd (none-some x at);
  configured = λ i x at. absurd (none-some x at);
  few = λ i. omega arith;
  files = λ h i at. absurd (none-some i at);
}
