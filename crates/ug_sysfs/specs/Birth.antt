-- A plugging bears the device wherever it can be born, and else changes nothing.
use Rattle.std.proofs.Common.{◌≡◌, ℕ, ◌<◌, Bool, true, false, cond, nat_lt, List, [], ◌∷◌, ◌++◌, Option, Some, None, refl, sym, ◌∙◌, ap}
use Rattle.std.proofs.lemmas.Bool.{ltb-true, lt-ltb}
use Rattle.std.proofs.lemmas.Option.{none-some, same_Some}
use Rattle.ug_types.specs.Names.{parent_of}
use Rattle.ug_kernel.specs.declared.device.Device.{Device}
use Rattle.ug_kernel.specs.Kernel.{Live, live_count}
use Rattle.ug_sysfs.specs.declared.script.NewDevice.{NewDevice}
use Rattle.ug_sysfs.specs.Devices.{find, born_as, born_under, placed, plug_at, plugged}
use Rattle.ug_sysfs.specs.Find.{find_some, find_none}

-- a root hub has no parent; else it is a live device that bears the name of the name's parent
abbrev pub IsParent : Option ℕ → List ℕ → List Device → Type 0
IsParent None name ds = parent_of name ≡ None
IsParent (Some p) name ds = (e : Device) × Live ds p e × (parent_of name ≡ Some e.name)

pub record CanBeBorn (d : NewDevice) (ds : List Device) : Type 0 where
  pub few : live_count ds < 65536
  pub free : (i : ℕ) (e : Device) → Live ds i e → e.name ≡ d.name → ⊥
  pub parent : (o : Option ℕ) × IsParent o d.name ds

-- it is the newest device, is live, and has its parent's identity; it starts as its controller's
-- default says
pub record IsBorn (d : NewDevice) (ds es : List Device) : Type 0 where
  pub parent : Option ℕ
  pub who : IsParent parent d.name ds
  pub newest : es ≡ ds ++ born_as d parent ds ∷ []

some_parent : (name : List ℕ) (ds : List Device) (p : List ℕ) → parent_of name ≡ Some p
    → (o : Option ℕ) → IsParent o name ds → (i : ℕ) × (e : Device) × Live ds i e × (e.name ≡ p)
some_parent name ds p h None is = absurd (none-some p (sym is ∙ h))
some_parent name ds p h (Some i) is = (i, is.0, is.1, same_Some is.0.name p (sym is.2 ∙ h))

born_placed : (d : NewDevice) (ds : List Device) (o : Option (List ℕ)) → parent_of d.name ≡ o
    → CanBeBorn d ds → IsBorn d ds (placed d o ds)
born_placed d ds None h can = record { parent = None; who = h; newest = refl }
born_placed d ds (Some p) h can = under (find p 0 ds) refl
  where
    under : (o : Option ℕ) → find p 0 ds ≡ o → IsBorn d ds (born_under d o ds)
    under None none =
        let up = some_parent d.name ds p h can.parent.0 can.parent.1 in
        absurd (find_none p 0 ds none up.0 up.1 up.2 up.3)
    under (Some i) some =
        let f = find_some p i ds some in
        record {
          parent = Some i;
          who = (f.device, f.live, h ∙ ap Some (sym f.named));
          newest = refl;
        }

pub plugged_born : (d : NewDevice) (ds : List Device) → CanBeBorn d ds → IsBorn d ds (plugged d ds)
plugged_born d ds can = rw (lt-ltb (live_count ds) 65536 can.few) (at (find d.name 0 ds) refl)
  where
    at : (o : Option ℕ) → find d.name 0 ds ≡ o → IsBorn d ds (plug_at o d ds)
    at None h = born_placed d ds (parent_of d.name) refl can
    at (Some i) h = let f = find_some d.name i ds h in absurd (can.free i f.device f.live f.named)

pub plugged_not : (d : NewDevice) (ds : List Device) → (CanBeBorn d ds → ⊥) → plugged d ds ≡ ds
plugged_not d ds cannot = roomy (nat_lt (live_count ds) 65536) refl
  where
    under : live_count ds < 65536 → find d.name 0 ds ≡ None → (p : List ℕ)
        → parent_of d.name ≡ Some p → (o : Option ℕ) → find p 0 ds ≡ o → born_under d o ds ≡ ds
    under few free p h None none = refl
    under few free p h (Some i) some =
        let f = find_some p i ds some in
        absurd (cannot
        (record {
          few = few;
          free = find_none d.name 0 ds free;
          parent = (Some i, (f.device, f.live, h ∙ ap Some (sym f.named)));
        }))

    place : live_count ds < 65536 → find d.name 0 ds ≡ None → (o : Option (List ℕ))
        → parent_of d.name ≡ o → placed d o ds ≡ ds
    place few free None h =
        absurd (cannot
        (record { few = few; free = find_none d.name 0 ds free; parent = (None, h) }))
    place few free (Some p) h = under few free p h (find p 0 ds) refl

    at : live_count ds < 65536 → (o : Option ℕ) → find d.name 0 ds ≡ o → plug_at o d ds ≡ ds
    at few None h = place few h (parent_of d.name) refl
    at few (Some i) h = refl

    roomy : (b : Bool) → nat_lt (live_count ds) 65536 ≡ b
        → cond b (plug_at (find d.name 0 ds) d ds) ds ≡ ds
    roomy true h = at (ltb-true (live_count ds) 65536 h) (find d.name 0 ds) refl
    roomy false h = refl
