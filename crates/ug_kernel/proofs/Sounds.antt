-- What keeps a kernel sound.
use Rattle.std.proofs.Common.{◌≡◌, ℕ, zero, suc, ◌+◌, ◌<◌, ◌≤◌, Bool, true, false, if◌then◌else◌, List, [], ◌∷◌, ◌++◌, length, set, Option, Some, None, is_none, refl, sym, ◌∙◌, ap, subst, arith, inl, inr}
use Rattle.std.proofs.lemmas.Bool.{cases_eq}
use Rattle.std.proofs.lemmas.Option.{slice_get_within, none-some, same_Some}
use Rattle.std.specs.List.{slice_get}
use Rattle.ug_types.specs.Names.{parent_of}
use Rattle.ug_kernel.specs.declared.device.Device.{Device}
use Rattle.ug_kernel.specs.declared.device.HeldFile.{HeldFile}
use Rattle.ug_kernel.specs.declared.control.Write.{Write}
use Rattle.ug_kernel.specs.Called.{written_to}
use Rattle.ug_kernel.specs.declared.control.Control.{Control}
use Rattle.ug_kernel.specs.declared.control.Control.TheVariants.{Authorized, Remove, Default}
use Rattle.ug_kernel.specs.Kernel.{Kernel, Live, live_count, hub_of, has_file, IsOpenable, IsSound, IsKernel, BeginsWith, Moves}
use Rattle.ug_kernel.proofs.Places.{at_push, at_longer, at_set_same, at_set_other}
use Rattle.ug_kernel.proofs.Stayed.{stays_at, back_at, live_back, live_count_begins, length_begins}

-- a device may be born: its name is free, its parent is live and bears the name of its name's parent, and not too many are live
pub record IsFit (ds : List Device) (x : Device) : Type 0 where
  pub free : (i : ℕ) (d : Device) → Live ds i d → d.name ≡ x.name → ⊥
  pub under : (p : ℕ) → x.parent ≡ Some p → (e : Device) × Live ds p e × (parent_of x.name ≡ Some e.name)
  pub root : x.parent ≡ None → parent_of x.name ≡ None
  pub hub : x.parent ≡ None → x.controller ≡ None
  pub controller : (p : ℕ) (e : Device) → x.parent ≡ Some p → slice_get ds p ≡ Some e → x.controller ≡ Some (hub_of p e.controller)
  pub few : live_count ds < 65536

pub live_count_push : (ds : List Device) (x : Device) → live_count (ds ++ x ∷ []) ≤ live_count ds + 1
live_count_push [] x = pick x.gone
  where
    pick : (b : Bool) → (if b then 0 else 1) + 0 ≤ 0 + 1
    pick true = omega arith
    pick false = omega arith
live_count_push (d ∷ ds) x = omega (arith, live_count_push ds x)

pub sound_push : (ds : List Device) (x : Device) → IsSound ds → IsFit ds x → IsSound (ds ++ x ∷ [])
sound_push ds x s fit = record { names = names; below = below; parents = parents; named = named; roots = roots; hubs = hubs; controllers = controllers; few = omega (arith, live_count_push ds x, fit.few) }
  where
    names : (i j : ℕ) (d e : Device) → Live (ds ++ x ∷ []) i d → Live (ds ++ x ∷ []) j e → d.name ≡ e.name → i ≡ j
    names i j d e a b h = elim (at_push ds x i d a.at) [
      | inl p ↦ elim (at_push ds x j e b.at) [
        | inl q ↦ s.names i j d e (record { at = p.1; here = a.here }) (record { at = q.1; here = b.here }) h
        | inr q ↦ absurd (fit.free i d (record { at = p.1; here = a.here }) (h ∙ ap (λ (y : Device). y.name) (sym q.1)))
      ]
      | inr p ↦ elim (at_push ds x j e b.at) [
        | inl q ↦ absurd (fit.free j e (record { at = q.1; here = b.here }) (sym h ∙ ap (λ (y : Device). y.name) (sym p.1)))
        | inr q ↦ omega arith
      ]
    ]

    below : (i p : ℕ) (d : Device) → slice_get (ds ++ x ∷ []) i ≡ Some d → d.parent ≡ Some p → p < i
    below i p d a h = elim (at_push ds x i d a) [
      | inl q ↦ s.below i p d q.1 h
      | inr q ↦
          let u = fit.under p (ap (λ (y : Device). y.parent) q.1 ∙ h) in
          omega (arith, slice_get_within ds p u.0 u.1.at)
    ]

    parents : (i p : ℕ) (d : Device) → Live (ds ++ x ∷ []) i d → d.parent ≡ Some p → (e : Device) × Live (ds ++ x ∷ []) p e
    parents i p d a h = elim (at_push ds x i d a.at) [
      | inl q ↦
          let u = s.parents i p d (record { at = q.1; here = a.here }) h in
          (u.0, record { at = at_longer ds (x ∷ []) p u.0 u.1.at; here = u.1.here })
      | inr q ↦
          let u = fit.under p (ap (λ (y : Device). y.parent) q.1 ∙ h) in
          (u.0, record { at = at_longer ds (x ∷ []) p u.0 u.1.at; here = u.1.here })
    ]

    -- a parent's place is not the newest
    older : (p : ℕ) (e f : Device) → slice_get (ds ++ x ∷ []) p ≡ Some e → p < length ds → slice_get ds p ≡ Some e
    older p e f a lt = elim (at_push ds x p e a) [
      | inl q ↦ q.1
      | inr q ↦ absurd (omega arith)
    ]

    named : (i p : ℕ) (d e : Device) → slice_get (ds ++ x ∷ []) i ≡ Some d → d.parent ≡ Some p → slice_get (ds ++ x ∷ []) p ≡ Some e → parent_of d.name ≡ Some e.name
    named i p d e a h b = elim (at_push ds x i d a) [
      | inl q ↦ s.named i p d e q.1 h (older p e e b (omega (arith, s.below i p d q.1 h)))
      | inr q ↦
          let u = fit.under p (ap (λ (y : Device). y.parent) q.1 ∙ h) in
          let same : u.0 ≡ e = same_Some u.0 e (sym u.1.at ∙ older p e e b (slice_get_within ds p u.0 u.1.at)) in
          ap (λ (y : Device). parent_of y.name) (sym q.1) ∙ u.2 ∙ ap (λ (y : Device). Some y.name) same
    ]

    roots : (i : ℕ) (d : Device) → slice_get (ds ++ x ∷ []) i ≡ Some d → d.parent ≡ None → parent_of d.name ≡ None
    roots i d a h = elim (at_push ds x i d a) [
      | inl q ↦ s.roots i d q.1 h
      | inr q ↦ ap (λ (y : Device). parent_of y.name) (sym q.1) ∙ fit.root (ap (λ (y : Device). y.parent) q.1 ∙ h)
    ]

    hubs : (i : ℕ) (d : Device) → slice_get (ds ++ x ∷ []) i ≡ Some d → d.parent ≡ None → d.controller ≡ None
    hubs i d a h = elim (at_push ds x i d a) [
      | inl q ↦ s.hubs i d q.1 h
      | inr q ↦ ap (λ (y : Device). y.controller) (sym q.1) ∙ fit.hub (ap (λ (y : Device). y.parent) q.1 ∙ h)
    ]

    controllers : (i p : ℕ) (d e : Device) → slice_get (ds ++ x ∷ []) i ≡ Some d → d.parent ≡ Some p → slice_get (ds ++ x ∷ []) p ≡ Some e → d.controller ≡ Some (hub_of p e.controller)
    controllers i p d e a h b = elim (at_push ds x i d a) [
      | inl q ↦ s.controllers i p d e q.1 h (older p e e b (omega (arith, s.below i p d q.1 h)))
      | inr q ↦
          let up = ap (λ (y : Device). y.parent) q.1 ∙ h in
          let u = fit.under p up in
          ap (λ (y : Device). y.controller) (sym q.1) ∙ fit.controller p e up (older p e e b (slice_get_within ds p u.0 u.1.at))
    ]

-- no device stays whose parent is gone before it
pub record Kept (fs : List Device) : Type 0 where
  pub none : (i p : ℕ) (e f : Device) → Live fs i e → e.parent ≡ Some p → p < i → slice_get fs p ≡ Some f → f.gone ≡ false

-- devices go, and no child stays without its parent
pub sound_fewer : (ds fs : List Device) → IsSound ds → BeginsWith ds fs → length fs ≡ length ds → Kept fs → IsSound fs
sound_fewer ds fs s b n k = record { names = names; below = below; parents = parents; named = named; roots = roots; hubs = hubs; controllers = controllers; few = omega (arith, live_count_begins ds fs b n, s.few) }
  where
    names : (i j : ℕ) (d e : Device) → Live fs i d → Live fs j e → d.name ≡ e.name → i ≡ j
    names i j d e x y h =
        let p = live_back ds fs b i d x (omega (arith, slice_get_within fs i d x.at)) in
        let q = live_back ds fs b j e y (omega (arith, slice_get_within fs j e y.at)) in
        s.names i j p.0 q.0 p.1 q.1 (sym p.2.stays.name ∙ h ∙ q.2.stays.name)

    below : (i p : ℕ) (d : Device) → slice_get fs i ≡ Some d → d.parent ≡ Some p → p < i
    below i p d x h =
        let q = back_at ds fs b i d x (omega (arith, slice_get_within fs i d x)) in
        s.below i p q.0 q.1 (sym q.2.stays.parent ∙ h)

    parents : (i p : ℕ) (d : Device) → Live fs i d → d.parent ≡ Some p → (e : Device) × Live fs p e
    parents i p d x h =
        let q = live_back ds fs b i d x (omega (arith, slice_get_within fs i d x.at)) in
        let up = s.parents i p q.0 q.1 (sym q.2.stays.parent ∙ h) in
        let r = stays_at ds fs p up.0 b up.1.at in
        (r.0, record { at = r.1; here = k.none i p d r.0 x h (s.below i p q.0 q.1.at (sym q.2.stays.parent ∙ h)) r.1 })

    named : (i p : ℕ) (d e : Device) → slice_get fs i ≡ Some d → d.parent ≡ Some p → slice_get fs p ≡ Some e → parent_of d.name ≡ Some e.name
    named i p d e x h y =
        let q = back_at ds fs b i d x (omega (arith, slice_get_within fs i d x)) in
        let r = back_at ds fs b p e y (omega (arith, slice_get_within fs p e y)) in
        ap parent_of q.2.stays.name ∙ s.named i p q.0 r.0 q.1 (sym q.2.stays.parent ∙ h) r.1 ∙ ap Some (sym r.2.stays.name)

    roots : (i : ℕ) (d : Device) → slice_get fs i ≡ Some d → d.parent ≡ None → parent_of d.name ≡ None
    roots i d x h =
        let q = back_at ds fs b i d x (omega (arith, slice_get_within fs i d x)) in
        ap parent_of q.2.stays.name ∙ s.roots i q.0 q.1 (sym q.2.stays.parent ∙ h)

    hubs : (i : ℕ) (d : Device) → slice_get fs i ≡ Some d → d.parent ≡ None → d.controller ≡ None
    hubs i d x h =
        let q = back_at ds fs b i d x (omega (arith, slice_get_within fs i d x)) in
        q.2.stays.controller ∙ s.hubs i q.0 q.1 (sym q.2.stays.parent ∙ h)

    controllers : (i p : ℕ) (d e : Device) → slice_get fs i ≡ Some d → d.parent ≡ Some p → slice_get fs p ≡ Some e → d.controller ≡ Some (hub_of p e.controller)
    controllers i p d e x h y =
        let q = back_at ds fs b i d x (omega (arith, slice_get_within fs i d x)) in
        let r = back_at ds fs b p e y (omega (arith, slice_get_within fs p e y)) in
        q.2.stays.controller ∙ s.controllers i p q.0 r.0 q.1 (sym q.2.stays.parent ∙ h) r.1 ∙ ap (λ (o : Option ℕ). Some (hub_of p o)) (sym r.2.stays.controller)

-- a device with another value
record Same (d e : Device) : Type 0 where
  name : e.name ≡ d.name
  parent : e.parent ≡ d.parent
  controller : e.controller ≡ d.controller
  gone : e.gone ≡ d.gone

same : (d : Device) → Same d d
same d = record { name = refl; parent = refl; controller = refl; gone = refl }

sound_same : (ds es : List Device) → IsSound ds → ((j : ℕ) (e : Device) → slice_get es j ≡ Some e → (d : Device) × (slice_get ds j ≡ Some d) × Same d e) → ((j : ℕ) (d : Device) → slice_get ds j ≡ Some d → (e : Device) × (slice_get es j ≡ Some e) × Same d e) → live_count es ≡ live_count ds → IsSound es
sound_same ds es s back forth n = record {
  names = λ i j d e a b h.
      let p = back i d a.at in
      let q = back j e b.at in
      s.names i j p.0 q.0 (record { at = p.1; here = sym p.2.gone ∙ a.here }) (record { at = q.1; here = sym q.2.gone ∙ b.here }) (sym p.2.name ∙ h ∙ q.2.name);
  below = λ i p d a h. let b = back i d a in s.below i p b.0 b.1 (sym b.2.parent ∙ h);
  parents = λ i p d a h.
      let b = back i d a.at in
      let u = s.parents i p b.0 (record { at = b.1; here = sym b.2.gone ∙ a.here }) (sym b.2.parent ∙ h) in
      let f = forth p u.0 u.1.at in
      (f.0, record { at = f.1; here = f.2.gone ∙ u.1.here });
  named = λ i p d e a h b.
      let q = back i d a in
      let r = back p e b in
      ap parent_of q.2.name ∙ s.named i p q.0 r.0 q.1 (sym q.2.parent ∙ h) r.1 ∙ ap Some (sym r.2.name);
  roots = λ i d a h. let q = back i d a in ap parent_of q.2.name ∙ s.roots i q.0 q.1 (sym q.2.parent ∙ h);
  hubs = λ i d a h. let q = back i d a in q.2.controller ∙ s.hubs i q.0 q.1 (sym q.2.parent ∙ h);
  controllers = λ i p d e a h b.
      let q = back i d a in
      let r = back p e b in
      q.2.controller ∙ s.controllers i p q.0 r.0 q.1 (sym q.2.parent ∙ h) r.1 ∙ ap (λ (o : Option ℕ). Some (hub_of p o)) (sym r.2.controller);
  few = omega (arith, n, s.few);
}

pub live_count_set : (what : Write) (ds : List Device) (i : ℕ) (d : Device) → slice_get ds i ≡ Some d → live_count (set ds i (written_to what d)) ≡ live_count ds
live_count_set what [] i d h = absurd (none-some d h)
live_count_set what (e ∷ ds) zero d h = let one : e ≡ d = same_Some e d h in ap (λ (x : Device). (if x.gone then 0 else 1) + live_count ds) (sym one)
live_count_set what (e ∷ ds) (suc i) d h = ap (λ (n : ℕ). (if e.gone then 0 else 1) + n) (live_count_set what ds i d h)

-- a device is written to
pub sound_set : (what : Write) (ds : List Device) (i : ℕ) (d : Device) → slice_get ds i ≡ Some d → IsSound ds → IsSound (set ds i (written_to what d))
sound_set what ds i d h s = sound_same ds (set ds i (written_to what d)) s back forth (live_count_set what ds i d h)
  where
    back : (j : ℕ) (e : Device) → slice_get (set ds i (written_to what d)) j ≡ Some e → (d : Device) × (slice_get ds j ≡ Some d) × Same d e
    back j e a = elim (cases_eq j i) [
      | inl q ↦
          let one : written_to what d ≡ e = same_Some (written_to what d) e (sym (at_set_same ds i d (written_to what d) h) ∙ ap (slice_get (set ds i (written_to what d))) (sym q) ∙ a) in
          (d, ap (slice_get ds) q ∙ h, subst (Same d) one (record { name = refl; parent = refl; controller = refl; gone = refl }))
      | inr n ↦ (e, sym (at_set_other ds i j (written_to what d) n) ∙ a, same e)
    ]

    forth : (j : ℕ) (e : Device) → slice_get ds j ≡ Some e → (f : Device) × (slice_get (set ds i (written_to what d)) j ≡ Some f) × Same e f
    forth j e a = elim (cases_eq j i) [
      | inl q ↦
          let one : d ≡ e = same_Some d e (sym h ∙ ap (slice_get ds) (sym q) ∙ a) in
          (written_to what d, ap (slice_get (set ds i (written_to what d))) q ∙ at_set_same ds i d (written_to what d) h, subst (λ x. Same x (written_to what d)) one (record { name = refl; parent = refl; controller = refl; gone = refl }))
      | inr n ↦ (e, at_set_other ds i j (written_to what d) n ∙ a, same e)
    ]

-- a file is opened
pub held_push : (held : List HeldFile) (f : HeldFile) (n : ℕ) → ((h : ℕ) (g : HeldFile) → slice_get held h ≡ Some g → g.device < n) → f.device < n → (h : ℕ) (g : HeldFile) → slice_get (held ++ f ∷ []) h ≡ Some g → g.device < n
held_push held f n s lt h g a = elim (at_push held f h g a) [
  | inl q ↦ s h g q.1
  | inr q ↦ subst (λ (x : HeldFile). x.device < n) q.1 lt
]

-- which files a device has

pub has_stays : (control : Control) (d e : Device) → e.parent ≡ d.parent → has_file control e ≡ has_file control d
has_stays Authorized d e p = refl
has_stays Remove d e p = refl
has_stays Default d e p = ap is_none p

-- a live device has a file that can be opened by its name
pub openable_has : (control : Control) (name : List ℕ) (ds : List Device) (i : ℕ) (d : Device) → IsSound ds → Live ds i d → d.name ≡ name → IsOpenable control name → has_file control d ≡ true
openable_has Authorized name ds i d s live n o = refl
openable_has Remove name ds i d s live n o = refl
openable_has Default name ds i d s live n o = by d.parent refl
  where
    by : (p : Option ℕ) → d.parent ≡ p → is_none d.parent ≡ true
    by None e = ap is_none e
    by (Some p) e =
        let u = s.parents i p d live e in
        absurd (none-some u.0.name (sym o ∙ ap parent_of (sym n) ∙ s.named i p d u.0 live.at e u.1.at))

-- each held file is one that its device has
abbrev pub HaveFiles : List HeldFile → List Device → Type 0
HaveFiles held ds = (h : ℕ) (f : HeldFile) (d : Device) → slice_get held h ≡ Some f → slice_get ds f.device ≡ Some d → has_file f.control d ≡ true

pub files_push : (held : List HeldFile) (f : HeldFile) (ds : List Device) → HaveFiles held ds → ((d : Device) → slice_get ds f.device ≡ Some d → has_file f.control d ≡ true) → HaveFiles (held ++ f ∷ []) ds
files_push held f ds s own h g d a at = elim (at_push held f h g a) [
  | inl q ↦ s h g d q.1 at
  | inr q ↦ subst (λ (x : HeldFile). slice_get ds x.device ≡ Some d → has_file x.control d ≡ true) q.1 (own d) at
]

-- moves that leave the devices sound leave the kernel sound
pub kernel_moves : (k l : Kernel) → IsKernel k → Moves k l → IsSound l.devices → IsKernel l
kernel_moves k l s m d = record {
  devices = d;
  held = λ h f a. omega (arith, s.held h f (ap (λ (files : List HeldFile). slice_get files h) (sym m.held) ∙ a), length_begins k.devices l.devices m.devices);
  files = λ h f d a at.
      let was : slice_get k.held h ≡ Some f = ap (λ (files : List HeldFile). slice_get files h) (sym m.held) ∙ a in
      let q = back_at k.devices l.devices m.devices f.device d at (s.held h f was) in
      has_stays f.control q.0 d q.2.stays.parent ∙ s.files h f q.0 was q.1;
}
