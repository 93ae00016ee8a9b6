-- The names of a device's interfaces: each once, and no others.
use Rattle.std.proofs.Common.{◌≡◌, ℕ, zero, suc, ◌+◌, Bool, true, false, cond, if◌then◌else◌, List, [], ◌∷◌, length, Some, refl, sym, ◌∙◌, ap, arith, inl, inr}
use Rattle.std.proofs.lemmas.Bool.{both_ways}
use Rattle.std.proofs.lemmas.Option.{none-some, same_Some}
use Rattle.std.specs.List.{slice_get}
use Rattle.ug_types.specs.Elements.{Has, AllDistinct}
use Rattle.ug_iface.specs.declared.interface.Interface.{Interface}
use Rattle.ug_iface.specs.declared.name.IfaceName.{IfaceName}
use Rattle.ug_iface.specs.Bus.{ungone_of}
use Rattle.ug_iface.specs.Calls.{AllOf}
use Rattle.ug_sysfs.specs.Interfaces.{is_of, iface_name, iface_names}

pub all_listed : (device : ℕ) (name : List ℕ) (xs : List Interface) (i : ℕ) (x : Interface)
    → slice_get xs i ≡ Some x → is_of device x ≡ true
    → Has (iface_names device name xs) (iface_name name x)
all_listed device name [] i x h t = absurd (none-some x h)
all_listed device name (y ∷ ys) i x h t =
    pick (is_of device y) refl (λ j g. all_listed device name ys j x g t) i h
  where
    pick : (b : Bool) → is_of device y ≡ b
        → ((j : ℕ) → slice_get ys j ≡ Some x
        → Has (iface_names device name ys) (iface_name name x)) → (i : ℕ)
        → slice_get (y ∷ ys) i ≡ Some x
        → Has (cond b (iface_name name y ∷ iface_names device name ys)
        (iface_names device name ys)) (iface_name name x)
    pick true e rest zero h = inl (ap (iface_name name) (same_Some y x h))
    pick true e rest (suc i) h = inr (rest i h)
    pick false e rest zero h =
        absurd (both_ways (is_of device y) e (ap (is_of device) (same_Some y x h) ∙ t))
    pick false e rest (suc i) h = rest i h

record IsListedAt (device : ℕ) (name : List ℕ) (xs : List Interface) (m : IfaceName) : Type 0 where
  i : ℕ
  x : Interface
  at : slice_get xs i ≡ Some x
  own : is_of device x ≡ true
  is : iface_name name x ≡ m

further : (device : ℕ) (name : List ℕ) (y : Interface) (ys : List Interface) (m : IfaceName)
    → IsListedAt device name ys m → IsListedAt device name (y ∷ ys) m
further device name y ys m l =
    record { i = suc l.i; x = l.x; at = l.at; own = l.own; is = l.is }

listed_from : (device : ℕ) (name : List ℕ) (xs : List Interface) (m : IfaceName)
    → Has (iface_names device name xs) m → IsListedAt device name xs m
listed_from device name [] m h = absurd h
listed_from device name (y ∷ ys) m h =
    pick (is_of device y) refl (listed_from device name ys m) h
  where
    pick : (b : Bool) → is_of device y ≡ b
        → (Has (iface_names device name ys) m → IsListedAt device name ys m)
        → Has (cond b (iface_name name y ∷ iface_names device name ys)
        (iface_names device name ys)) m → IsListedAt device name (y ∷ ys) m
    pick true e rest (inl is) = record { i = zero; x = y; at = refl; own = e; is = is }
    pick true e rest (inr h) = further device name y ys m (rest h)
    pick false e rest h = further device name y ys m (rest h)

pub all_of : (device : ℕ) (name : List ℕ) (xs : List Interface)
    → AllOf name (iface_names device name xs)
all_of device name xs m h =
    let l = listed_from device name xs m h in
    ap (λ (n : IfaceName). n.device) (sym l.is)

-- those of the device that aren't gone differ in configuration or number
abbrev pub Differ : ℕ → List Interface → Type 0
Differ device xs =
    (i j : ℕ) (x y : Interface) → slice_get xs i ≡ Some x → slice_get xs j ≡ Some y
    → is_of device x ≡ true → is_of device y ≡ true → x.config ≡ y.config → x.number ≡ y.number
    → i ≡ j

pub distinct_of : (device : ℕ) (name : List ℕ) (xs : List Interface) → Differ device xs
    → AllDistinct (iface_names device name xs)
distinct_of device name [] d = tt
distinct_of device name (y ∷ ys) d = pick (is_of device y) refl (distinct_of device name ys rest)
  where
    rest : Differ device ys
    rest i j x z a b p q c n =
        let s : suc i ≡ suc j = d (suc i) (suc j) x z a b p q c n in
        omega (arith, s)

    pick : (b : Bool) → is_of device y ≡ b → AllDistinct (iface_names device name ys)
        → AllDistinct (cond b (iface_name name y ∷ iface_names device name ys)
        (iface_names device name ys))
    pick false e more = more
    pick true e more = (
      λ h.
          let l = listed_from device name ys (iface_name name y) h in
          let z : zero ≡ suc l.i =
          d zero (suc l.i) y l.x refl l.at e l.own (ap (λ (n : IfaceName). n.config) (sym l.is))
          (ap (λ (n : IfaceName). n.number) (sym l.is)) in
          absurd (omega (arith, z)),
      more,
    )

pub length_iface_names : (device : ℕ) (name : List ℕ) (xs : List Interface)
    → length (iface_names device name xs) ≡ ungone_of device xs
length_iface_names device name [] = refl
length_iface_names device name (y ∷ ys) = pick (is_of device y) (length_iface_names device name ys)
  where
    pick : (b : Bool) → length (iface_names device name ys) ≡ ungone_of device ys
        → length (cond b (iface_name name y ∷ iface_names device name ys)
        (iface_names device name ys))
        ≡ (if b then 1 else 0) + ungone_of device ys
    pick true h = omega (arith, h)
    pick false h = omega (arith, h)
