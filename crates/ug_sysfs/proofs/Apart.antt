-- Interfaces stay apart, and few.
use Rattle.std.proofs.Common.{◌≡◌, ℕ, ◌+◌, ◌<◌, ◌≤◌, true, false, ◌&&◌, nat_lt, is_none, List, [], ◌∷◌, ◌++◌, length, set, Option, Some, None, refl, sym, ◌∙◌, ap, subst, inl, inr, arith, vec_capacity, length-set, length-append}
use Rattle.std.proofs.lemmas.Bool.{and_parts, cases_eq, ltb-true}
use Rattle.std.specs.List.{slice_get}
use Rattle.ug_kernel.proofs.Places.{at_push}
use Rattle.ug_iface.specs.declared.interface.Interface.{Interface}
use Rattle.ug_iface.specs.Bus.{ungone_of, IfaceStays}
use Rattle.ug_sysfs.specs.Interfaces.{iface_place, iface_of, can_add, gone_there, with_iface_gone, off_there, with_iface_off}
use Rattle.ug_sysfs.specs.Placed.{place_none, of_device}
use Rattle.ug_sysfs.specs.declared.interfaces.Interfaces.TheInside.{Inside}
use Rattle.ug_sysfs.specs.declared.script.NewIface.{NewIface}
use Rattle.ug_sysfs.specs.Apart.{Ungone, AreApart, HoldsInterfaces}
use Rattle.ug_sysfs.specs.Listing.{Differ}
use Rattle.ug_sysfs.specs.IfaceMoves.{none_of, ungone_set, set_cases, was_here, counted_here}

-- those of one device differ
pub apart_differ : (device : ℕ) (xs : List Interface) → AreApart xs → Differ device xs
apart_differ device xs s i j x y a b p q c n =
    let u = of_device device x p in
    let v = of_device device y q in
    s i j x y (record { at = a; here = u.0 }) (record { at = b; here = v.0 }) (u.1 ∙ sym v.1) c n

pub apart_push : (xs : List Interface) (y : Interface) → AreApart xs
    → iface_place y.device y.config y.number xs ≡ None → AreApart (xs ++ y ∷ [])
apart_push xs y s free i j v w p q e c n = elim (at_push xs y i v p.at) [
  | inl a ↦ elim (at_push xs y j w q.at) [
    | inl h ↦ s i j v w (record { at = a.1; here = p.here }) (record { at = h.1; here = q.here }) e c n
    | inr h ↦ absurd (taken i v w p.here a.1 h.1 e c n)
  ]
  | inr a ↦ elim (at_push xs y j w q.at) [
    | inl h ↦ absurd (taken j w v q.here h.1 a.1 (sym e) (sym c) (sym n))
    | inr h ↦ a.0 ∙ sym h.0
  ]
]
  where
    taken : (i : ℕ) (v w : Interface) → v.gone ≡ false → slice_get xs i ≡ Some v → y ≡ w → v.device ≡ w.device → v.config ≡ w.config → v.number ≡ w.number → ⊥
    taken i v w here at same e c n =
        place_none y.device y.config y.number xs i v free at
        (record {
          here = here;
          device_is = e ∙ ap (λ (x : Interface). x.device) (sym same);
          config_is = c ∙ ap (λ (x : Interface). x.config) (sym same);
          number_is = n ∙ ap (λ (x : Interface). x.number) (sym same);
        })

pub apart_set : (xs : List Interface) (i : ℕ) (x y : Interface) → AreApart xs → slice_get xs i ≡ Some x → IfaceStays x y → AreApart (set xs i y)
apart_set xs i x y s at stays j k v w p q d c n =
    let a = back j v p in
    let e = back k w q in
    s j k a.0 e.0 a.1 e.1 (sym a.2.device ∙ d ∙ e.2.device) (sym a.2.config ∙ c ∙ e.2.config) (sym a.2.number ∙ n ∙ e.2.number)
  where
    back : (j : ℕ) (z : Interface) → Ungone (set xs i y) j z → (v : Interface) × Ungone xs j v × IfaceStays v z
    back j z p = elim (set_cases xs i x y j z at p.at) [
      | inl e ↦
          let st : IfaceStays x z = subst (λ (v : Interface). IfaceStays x v) e.1 stays in
          (x, record { at = ap (slice_get xs) e.0 ∙ at; here = was_here x z st p.here }, st)
      | inr e ↦ (z, record { at = e; here = p.here }, record { device = refl; config = refl; number = refl; triple = refl; gone = λ g. g })
    ]

pub few_push : (xs : List Interface) (y : Interface) → ((i : ℕ) → ungone_of i xs ≤ 1024) → ungone_of y.device xs < 1024 → (i : ℕ) → ungone_of i (xs ++ y ∷ []) ≤ 1024
few_push xs y few less i = counted_here xs y few less i (cases_eq y.device i)

pub gone_stays : (x : Interface) → IfaceStays x (record x { gone = true })
gone_stays x = record { device = refl; config = refl; number = refl; triple = refl; gone = λ g. refl }

pub off_keeps : (x : Interface) → IfaceStays x (record x { on = false })
off_keeps x = record { device = refl; config = refl; number = refl; triple = refl; gone = λ g. g }

pub holds_set : (r s : Inside) (i : ℕ) (x y : Interface) → HoldsInterfaces r → slice_get r.all.items i ≡ Some x → IfaceStays x y → s.all.items ≡ set r.all.items i y → s.room ≡ r.room → vec_capacity s.all ≡ vec_capacity r.all → HoldsInterfaces s
holds_set r s i x y h at stays items room capacity = record {
  apart = subst AreApart (sym items) (apart_set r.all.items i x y h.apart at stays);
  few = λ j. subst (λ (xs : List Interface). ungone_of j xs ≤ 1024) (sym items) (omega (arith, h.few j, ungone_set j r.all.items i x y at stays));
  places = omega (arith, h.places, ap length items, length-set r.all.items i y, room, capacity);
}

pub holds_added : (r s : Inside) (device : ℕ) (new : NewIface) → HoldsInterfaces r → can_add device new.name r.all.items ≡ true → 0 < r.room → s.all.items ≡ r.all.items ++ iface_of device new ∷ [] → s.room + 1 ≡ r.room → vec_capacity s.all ≡ vec_capacity r.all → HoldsInterfaces s
holds_added r s device new h can some items room capacity =
    let xs = r.all.items in
    let y = iface_of device new in
    let place = iface_place device new.name.config new.name.number xs in
    let p = and_parts (nat_lt 0 new.name.config) (nat_lt (ungone_of device xs) 1024 && is_none place) can in
    let q = and_parts (nat_lt (ungone_of device xs) 1024) (is_none place) p.1 in
    record {
      apart = subst AreApart (sym items) (apart_push xs y h.apart (none_of place q.1));
      few = λ j. subst (λ (zs : List Interface). ungone_of j zs ≤ 1024) (sym items) (few_push xs y h.few (ltb-true (ungone_of device xs) 1024 q.0) j);
      places = omega (arith, h.places, ap length items, length-append xs (y ∷ []), room, capacity);
    }

pub gone_at_place : (xs : List Interface) (i : ℕ) (x : Interface) → slice_get xs i ≡ Some x → set xs i (record x { gone = true }) ≡ with_iface_gone i xs
gone_at_place xs i x at = ap (λ (o : Option Interface). gone_there i o xs) (sym at)

pub off_at_place : (xs : List Interface) (i : ℕ) (x : Interface) → slice_get xs i ≡ Some x → set xs i (record x { on = false }) ≡ with_iface_off i xs
off_at_place xs i x at = ap (λ (o : Option Interface). off_there i o xs) (sym at)
