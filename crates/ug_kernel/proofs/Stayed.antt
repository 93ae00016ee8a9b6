-- What moves leave of a list of devices.
use Rattle.std.proofs.Common.{◌≡◌, ℕ, zero, suc, ◌<◌, ◌≤◌, Bool, true, false, if◌then◌else◌, List, [], ◌∷◌, ◌++◌, length, Some, refl, sym, ◌∙◌, ap, subst, arith}
use Rattle.std.proofs.lemmas.Bool.{both_ways}
use Rattle.std.proofs.lemmas.Option.{slice_get_within, same_Some}
use Rattle.std.specs.List.{slice_get}
use Rattle.ug_kernel.specs.declared.device.Device.{Device}
use Rattle.ug_kernel.specs.Kernel.{Kernel, Live, live_count, Stays, Moved, BeginsWith, Moves}
use Rattle.ug_kernel.specs.Called.{Lived}

pub stays : (d : Device) → Stays d d
stays d = record { name = refl; parent = refl; controller = refl; descriptors = refl; product = refl; serial = refl; connect = refl; born_off = refl; gone = λ h. h }

pub stays_then : (d e f : Device) → Stays d e → Stays e f → Stays d f
stays_then d e f s t = record {
  name = t.name ∙ s.name;
  parent = t.parent ∙ s.parent;
  controller = t.controller ∙ s.controller;
  descriptors = t.descriptors ∙ s.descriptors;
  product = t.product ∙ s.product;
  serial = t.serial ∙ s.serial;
  connect = t.connect ∙ s.connect;
  born_off = t.born_off ∙ s.born_off;
  gone = λ h. t.gone (s.gone h);
}

pub unmoved : (d : Device) → Moved d d
unmoved d = record { stays = stays d; on = refl; default = refl }

pub moved_then : (d e f : Device) → Moved d e → Moved e f → Moved d f
moved_then d e f s t = record { stays = stays_then d e f s.stays t.stays; on = t.on ∙ s.on; default = t.default ∙ s.default }

pub begins : (ds : List Device) → BeginsWith ds ds
begins [] = tt
begins (d ∷ ds) = (unmoved d, begins ds)

pub begins_then : (ds es fs : List Device) → BeginsWith ds es → BeginsWith es fs → BeginsWith ds fs
begins_then [] es fs a b = tt
begins_then (d ∷ ds) [] fs a b = absurd a
begins_then (d ∷ ds) (e ∷ es) [] a b = absurd b
begins_then (d ∷ ds) (e ∷ es) (f ∷ fs) a b = (moved_then d e f a.0 b.0, begins_then ds es fs a.1 b.1)

-- more at the end
pub begins_more : (ds es : List Device) → BeginsWith ds (ds ++ es)
begins_more [] es = tt
begins_more (d ∷ ds) es = (unmoved d, begins_more ds es)

-- one device changes
pub begins_at : (bs : List Device) (d e : Device) (ds : List Device) → Moved d e → BeginsWith (bs ++ d ∷ ds) (bs ++ e ∷ ds)
begins_at [] d e ds s = (s, begins ds)
begins_at (b ∷ bs) d e ds s = (unmoved b, begins_at bs d e ds s)

pub length_begins : (ds es : List Device) → BeginsWith ds es → length ds ≤ length es
length_begins [] es b = omega arith
length_begins (d ∷ ds) [] b = absurd b
length_begins (d ∷ ds) (e ∷ es) b = omega (arith, length_begins ds es b.1)

-- a device that was there is there still
pub stays_at : (ds es : List Device) (i : ℕ) (d : Device) → BeginsWith ds es → slice_get ds i ≡ Some d → (e : Device) × (slice_get es i ≡ Some e) × Moved d e
stays_at [] es i d b h = absurd cc
stays_at (d ∷ ds) [] i d' b h = absurd b
stays_at (d ∷ ds) (e ∷ es) zero d' b h = (e, refl, subst (λ x. Moved x e) (let p : d ≡ d' = cc in p) b.0)
stays_at (d ∷ ds) (e ∷ es) (suc i) d' b h = stays_at ds es i d' b.1 h

-- what is there now was there before
pub back_at : (ds es : List Device) → BeginsWith ds es → (i : ℕ) (e : Device) → slice_get es i ≡ Some e → i < length ds → (d : Device) × (slice_get ds i ≡ Some d) × Moved d e
back_at [] es b i e h lt = absurd (omega arith)
back_at (d ∷ ds) [] b i e h lt = absurd b
back_at (d ∷ ds) (f ∷ es) b zero e h lt = (d, refl, subst (λ x. Moved d x) (let p : f ≡ e = cc in p) b.0)
back_at (d ∷ ds) (f ∷ es) b (suc i) e h lt = back_at ds es b.1 i e h (omega arith)

-- what isn't gone wasn't
pub stayed_here : (d e : Device) → Stays d e → e.gone ≡ false → d.gone ≡ false
stayed_here d e s h = pick d.gone refl
  where
    pick : (b : Bool) → d.gone ≡ b → d.gone ≡ false
    pick true g = absurd (both_ways e.gone h (s.gone g))
    pick false g = g

-- a live device was live before, with the same facts
pub live_back : (ds es : List Device) → BeginsWith ds es → (i : ℕ) (e : Device) → Live es i e → i < length ds → (d : Device) × Live ds i d × Moved d e
live_back ds es b i e l lt =
    let p = back_at ds es b i e l.at lt in
    (p.0, record { at = p.1; here = stayed_here p.0 e p.2.stays l.here }, p.2)

-- a device that lived through a call is live at its effect
pub lived_at : (ds es fs : List Device) (i : ℕ) (d : Device) → BeginsWith ds es → BeginsWith es fs → Lived ds fs i d → (e : Device) × Live es i e × Stays d e
lived_at ds es fs i d a b l =
    let p = stays_at ds es i d a l.entry.at in
    let q = live_back es fs b i l.exit.0 l.exit.1 (slice_get_within es i p.0 p.1) in
    (p.0, record { at = p.1; here = ap (λ (x : Device). x.gone) (same_Some p.0 q.0 (sym p.1 ∙ q.1.at)) ∙ q.1.here }, p.2.stays)

count_one : (d e : Device) → Stays d e → (if e.gone then 0 else 1) ≤ (if d.gone then 0 else 1)
count_one d e s = pick e.gone d.gone refl refl
  where
    pick : (b c : Bool) → e.gone ≡ b → d.gone ≡ c → (if b then 0 else 1) ≤ (if c then 0 else 1)
    pick true c g h = omega arith
    pick false false g h = omega arith
    pick false true g h = absurd (both_ways e.gone g (s.gone h))

-- where none is born, no more are live
pub live_count_begins : (ds es : List Device) → BeginsWith ds es → length es ≡ length ds → live_count es ≤ live_count ds
live_count_begins [] [] b n = omega arith
live_count_begins [] (e ∷ es) b n = absurd (omega arith)
live_count_begins (d ∷ ds) [] b n = absurd b
live_count_begins (d ∷ ds) (e ∷ es) b n = omega (arith, count_one d e b.0.stays, live_count_begins ds es b.1 (omega arith))

pub unmoving : (k : Kernel) → Moves k k
unmoving k = record { devices = begins k.devices; born = λ i d h le. absurd (omega (arith, le, slice_get_within k.devices i d h)); held = refl; log = refl }
