-- Interfaces at places.
use Rattle.std.proofs.Common.{◌≡◌, ℕ, zero, suc, ◌+◌, ◌<◌, Bool, true, false, not, ◌&&◌, cond, List, [], ◌∷◌, length, get_or, Option, Some, None, refl, sym, ◌∙◌, ap, arith, nat_eq}
use Rattle.std.proofs.lemmas.Bool.{and_parts, not-true, both_ways, eqb-true, eq-eqb, lt-ltb}
use Rattle.std.proofs.lemmas.List.Quantifiers.{position-Some}
use Rattle.std.proofs.lemmas.Option.{none-some, same_Some, slice_get-get_or}
use Rattle.std.specs.List.{slice_get, position, position_or_len}
use Rattle.ug_kernel.specs.declared.device.Device.{Device}
use Rattle.ug_kernel.specs.Kernel.{Live}
use Rattle.ug_iface.specs.declared.interface.Interface.{Interface}
use Rattle.ug_iface.specs.declared.name.IfaceName.{IfaceName}
use Rattle.ug_sysfs.specs.Devices.{find}
use Rattle.ug_sysfs.specs.Find.{find_some, find_none}
use Rattle.ug_sysfs.specs.Interfaces.{is_of, has_iface_numbers, is_iface, iface_place, place_under, place_named, if_on_live, if_iface_live, live_iface_at, live_iface}

-- ---- the first that passes

found_at : {X : Type 0} (p : X → Bool) (xs : List X) (i : ℕ) → position p xs ≡ Some i
    → (x : X) × (slice_get xs i ≡ Some x) × (p x ≡ true)
found_at p [] i h = absurd (none-some i h)
found_at p (y ∷ ys) i h =
    let s = position-Some p (y ∷ ys) i y h in
    (get_or (y ∷ ys) i y, slice_get-get_or (y ∷ ys) i y s.0, s.1)

within_by : (b : Bool) (n m : ℕ) → (b ≡ false → n < m) → cond (not b) (1 + n) zero < suc m
within_by true n m f = omega arith
within_by false n m f = let lt : n < m = f refl in omega (arith, lt)

place_within : {X : Type 0} (p : X → Bool) (xs : List X) (i : ℕ) (x : X)
    → slice_get xs i ≡ Some x → p x ≡ true → position_or_len p xs < length xs
place_within p [] i x h t = absurd (none-some x h)
place_within {X} p (y ∷ ys) zero x h t =
    within_by (p y) (position_or_len p ys) (length ys)
    (λ fails. absurd (both_ways (p y) fails (ap p (same_Some y x h) ∙ t)))
place_within p (y ∷ ys) (suc i) x h t =
    within_by (p y) (position_or_len p ys) (length ys) (λ fails. place_within p ys i x h t)

none_at : {X : Type 0} (p : X → Bool) (xs : List X) (i : ℕ) (x : X) → position p xs ≡ None
    → slice_get xs i ≡ Some x → p x ≡ true → ⊥
none_at p xs i x h at t =
    let place = position_or_len p xs in
    none-some place
    (sym h
    ∙ ap (λ (b : Bool). cond b (Some place) None)
    (lt-ltb place (length xs) (place_within p xs i x at t)))

-- ---- by numbers

pub record IsIface (device config number : ℕ) (x : Interface) : Type 0 where
  pub here : x.gone ≡ false
  pub device_is : x.device ≡ device
  pub config_is : x.config ≡ config
  pub number_is : x.number ≡ number

pub of_device : (device : ℕ) (x : Interface) → is_of device x ≡ true
    → (x.gone ≡ false) × (x.device ≡ device)
of_device device x h =
    let p = and_parts (not x.gone) (nat_eq x.device device) h in
    (not-true x.gone p.0, eqb-true x.device device p.1)

both_true : (b c : Bool) → b ≡ true → c ≡ true → b && c ≡ true
both_true b c h k = rw h k

pub is_of_device : (device : ℕ) (x : Interface) → x.gone ≡ false → x.device ≡ device
    → is_of device x ≡ true
is_of_device device x here is =
    both_true (not x.gone) (nat_eq x.device device) (ap not here) (eq-eqb x.device device is)

known_iface : (device config number : ℕ) (x : Interface) → is_iface device config number x ≡ true
    → IsIface device config number x
known_iface device config number x h =
    let p = and_parts (is_of device x) (has_iface_numbers config number x) h in
    let q = and_parts (nat_eq x.config config) (nat_eq x.number number) p.1 in
    let r = of_device device x p.0 in
    record {
      here = r.0;
      device_is = r.1;
      config_is = eqb-true x.config config q.0;
      number_is = eqb-true x.number number q.1;
    }

passes_iface : (device config number : ℕ) (x : Interface) → IsIface device config number x
    → is_iface device config number x ≡ true
passes_iface device config number x h =
    both_true (is_of device x) (has_iface_numbers config number x)
    (is_of_device device x h.here h.device_is)
    (both_true (nat_eq x.config config) (nat_eq x.number number)
    (eq-eqb x.config config h.config_is) (eq-eqb x.number number h.number_is))

pub place_some : (device config number : ℕ) (xs : List Interface) (i : ℕ)
    → iface_place device config number xs ≡ Some i
    → (x : Interface) × (slice_get xs i ≡ Some x) × IsIface device config number x
place_some device config number xs i h =
    let p = found_at (is_iface device config number) xs i h in
    (p.0, p.1, known_iface device config number p.0 p.2)

pub place_none : (device config number : ℕ) (xs : List Interface) (i : ℕ) (x : Interface)
    → iface_place device config number xs ≡ None → slice_get xs i ≡ Some x
    → IsIface device config number x → ⊥
place_none device config number xs i x h at is =
    none_at (is_iface device config number) xs i x h at (passes_iface device config number x is)

-- ---- by name

pub record NamedThere (name : IfaceName) (i : ℕ) (ds : List Device)
    (xs : List Interface) : Type 0 where
  pub x : Interface
  pub at : slice_get xs i ≡ Some x
  pub d : Device
  pub live : Live ds x.device d
  pub named : d.name ≡ name.device
  pub here : x.gone ≡ false
  pub config_is : x.config ≡ name.config
  pub number_is : x.number ≡ name.number

pub named_some : (name : IfaceName) (ds : List Device) (xs : List Interface) (i : ℕ)
    → place_named name ds xs ≡ Some i → NamedThere name i ds xs
named_some name ds xs i h = by (find name.device 0 ds) refl h
  where
    by : (o : Option ℕ) → find name.device 0 ds ≡ o → place_under o name xs ≡ Some i
        → NamedThere name i ds xs
    by None e g = absurd (none-some i g)
    by (Some device) e g =
        let f = find_some name.device device ds e in
        let p = place_some device name.config name.number xs i g in
        record {
          x = p.0;
          at = p.1;
          d = f.device;
          live = record {
            at = ap (slice_get ds) p.2.device_is ∙ f.live.at;
            here = f.live.here;
          };
          named = f.named;
          here = p.2.here;
          config_is = p.2.config_is;
          number_is = p.2.number_is;
        }

-- no interface that isn't gone bears the name, on a live device of it
pub named_none : (name : IfaceName) (ds : List Device) (xs : List Interface)
    → place_named name ds xs ≡ None
    → ((i j : ℕ) (d e : Device) → Live ds i d → Live ds j e → d.name ≡ e.name → i ≡ j) → (i : ℕ)
    → NamedThere name i ds xs → ⊥
named_none name ds xs h apart i n = by (find name.device 0 ds) refl h
  where
    by : (o : Option ℕ) → find name.device 0 ds ≡ o → place_under o name xs ≡ None → ⊥
    by None e g = find_none name.device 0 ds e n.x.device n.d n.live n.named
    by (Some device) e g =
        let f = find_some name.device device ds e in
        let same : n.x.device ≡ device =
        apart n.x.device device n.d f.device n.live f.live (n.named ∙ sym f.named) in
        place_none device name.config name.number xs i n.x g n.at
        (record {
          here = n.here;
          device_is = same;
          config_is = n.config_is;
          number_is = n.number_is;
        })

-- ---- by held file

pub record FileThere (held i : ℕ) (files : List ℕ) (xs : List Interface)
    (ds : List Device) : Type 0 where
  pub x : Interface
  pub file : slice_get files held ≡ Some i
  pub at : slice_get xs i ≡ Some x
  pub here : x.gone ≡ false
  pub d : Device
  pub live : Live ds x.device d

pub file_some : (held i : ℕ) (files : List ℕ) (xs : List Interface) (ds : List Device)
    → live_iface held files xs ds ≡ Some i → FileThere held i files xs ds
file_some held i files xs ds h = at_file (slice_get files held) refl h
  where
    at_device : (j : ℕ) (x : Interface) (o : Option Device) → slice_get ds x.device ≡ o
        → if_on_live j o ≡ Some i → (d : Device) × Live ds x.device d × (j ≡ i)
    at_device j x None e h = absurd (none-some i h)
    at_device j x (Some d) e h = pick d.gone refl h
      where
        pick : (b : Bool) → d.gone ≡ b → cond b None (Some j) ≡ Some i
            → (d : Device) × Live ds x.device d × (j ≡ i)
        pick true g h = absurd (none-some i h)
        pick false g h = (d, record { at = e; here = g }, same_Some j i h)

    at_iface : (j : ℕ) (o : Option Interface) → slice_get xs j ≡ o
        → if_iface_live j o ds ≡ Some i → slice_get files held ≡ Some j
        → FileThere held i files xs ds
    at_iface j None e h f = absurd (none-some i h)
    at_iface j (Some x) e h f = pick x.gone refl h
      where
        pick : (b : Bool) → x.gone ≡ b
            → cond b None (if_on_live j (slice_get ds x.device)) ≡ Some i
            → FileThere held i files xs ds
        pick true g h = absurd (none-some i h)
        pick false g h =
            let p = at_device j x (slice_get ds x.device) refl h in
            record {
              x = x;
              file = f ∙ ap Some p.2;
              at = ap (slice_get xs) (sym p.2) ∙ e;
              here = g;
              d = p.0;
              live = p.1;
            }

    at_file : (o : Option ℕ) → slice_get files held ≡ o → live_iface_at o xs ds ≡ Some i
        → FileThere held i files xs ds
    at_file None e h = absurd (none-some i h)
    at_file (Some j) e h = at_iface j (slice_get xs j) refl h e

pub file_none : (held : ℕ) (files : List ℕ) (xs : List Interface) (ds : List Device)
    → live_iface held files xs ds ≡ None → (i : ℕ) → FileThere held i files xs ds → ⊥
file_none held files xs ds h i f =
    let a : live_iface_at (Some i) xs ds ≡ None = rw f.file at h in
    let b : if_iface_live i (Some f.x) ds ≡ None = rw f.at at a in
    let c : cond false None (if_on_live i (slice_get ds f.x.device)) ≡ None = rw f.here at b in
    let d : if_on_live i (Some f.d) ≡ None = rw f.live.at at c in
    let e : cond false None (Some i) ≡ None = rw f.live.here at d in
    none-some i (sym e)
