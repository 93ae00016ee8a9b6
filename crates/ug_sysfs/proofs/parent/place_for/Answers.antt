use Rattle.std.proofs.Common.{◌≡◌, ℕ, ◌<◌, Bool, true, false, cond, nat_lt, List, Option, None, Some, refl, sym, ap, subst, ◌∙◌, arith}
use Rattle.std.specs.Option.{is_some}
use Rattle.std.proofs.lemmas.Bool.{cond-false, cond-true, le-ltb, lt-ltb}
use Rattle.std.proofs.lemmas.Option.{none-some, same_Some}
use Rattle.ug_types.specs.Names.{parent_of}
use Rattle.ug_kernel.specs.declared.device.Device.{Device}
use Rattle.ug_kernel.specs.Kernel.{Live, live_count}
use Rattle.ug_sysfs.specs.declared.parent.Parent.TheVariants as parent
use Rattle.ug_sysfs.specs.declared.script.NewDevice.{NewDevice}
use Rattle.ug_sysfs.specs.Devices.{born, born_under, find, placed, plug_at, plugged, sought, sought_at}
use Rattle.ug_sysfs.proofs.Links.{sought_lives}
use Rattle.ug_sysfs.proofs.parent.place_for.Goals as goal

none_found : (o : Option ℕ) → false ≡ is_some o → o ≡ None
none_found None h = refl
none_found (Some i) h = let none : ⊥ = cc in absurd none

-- its name is live
stays : (b : Bool) (o : Option ℕ) (d : NewDevice) (ds : List Device) → true ≡ is_some o → cond b (plug_at o d ds) ds ≡ ds
stays b None d ds h = let none : ⊥ = cc in absurd none
stays true (Some i) d ds h = refl
stays false (Some i) d ds h = refl

-- its parent isn't
missed : (b : Bool) (d : NewDevice) (up : Option (List ℕ)) (ds : List Device) → sought up ds ≡ parent.Missing → cond b (placed d up ds) ds ≡ ds
missed b d None ds h = let none : ⊥ = cc in absurd none
missed b d (Some name) ds h = by b (find name 0 ds) h
  where
    by : (b : Bool) (o : Option ℕ) → sought_at o ≡ parent.Missing → cond b (born_under d o ds) ds ≡ ds
    by true None k = refl
    by false None k = refl
    by b (Some i) k = let none : ⊥ = cc in absurd none

-- without a parent
placed_root : (d : NewDevice) (up : Option (List ℕ)) (ds : List Device) → sought up ds ≡ parent.Nobody → placed d up ds ≡ born d None ds
placed_root d None ds h = refl
placed_root d (Some name) ds h = by (find name 0 ds) h
  where
    by : (o : Option ℕ) → sought_at o ≡ parent.Nobody → born_under d o ds ≡ born d None ds
    by None k = let none : ⊥ = cc in absurd none
    by (Some i) k = let none : ⊥ = cc in absurd none

-- below a live one
placed_below : (d : NewDevice) (up : Option (List ℕ)) (ds : List Device) (i : ℕ) → sought up ds ≡ parent.Live i → placed d up ds ≡ born d (Some i) ds
placed_below d None ds i h = let none : ⊥ = cc in absurd none
placed_below d (Some name) ds i h = by (find name 0 ds) h
  where
    by : (o : Option ℕ) → sought_at o ≡ parent.Live i → born_under d o ds ≡ born d (Some i) ds
    by None k = let none : ⊥ = cc in absurd none
    by (Some j) k = let same : j ≡ i = cc in ap (λ (n : ℕ). born d (Some n) ds) same

-- there is room, and its name is free
placing : (d : NewDevice) (ds : List Device) → live_count ds < 65536 → find d.name 0 ds ≡ None → plugged d ds ≡ placed d (parent_of d.name) ds
placing d ds few free = cond-true _ (plug_at (find d.name 0 ds) d ds) ds (lt-ltb (live_count ds) 65536 few) ∙ ap (λ (o : Option ℕ). plug_at o d ds) free

pub returns-then-live_count-ge-MAX_DEVICES : goal.returns-then-live_count-ge-MAX_DEVICES
returns-then-live_count-ge-MAX_DEVICES c =
    let d : NewDevice = c.args.device.now in
    let ds : List Device = c.args.census.now.devices in
    cond-false _ (plug_at (find d.name 0 ds) d ds) ds (le-ltb (live_count ds) 65536 (omega arith))

pub returns-then-is_some : goal.returns-then-is_some
returns-then-is_some c =
    let d : NewDevice = c.args.device.now in
    let ds : List Device = c.args.census.now.devices in
    stays (nat_lt (live_count ds) 65536) (find d.name 0 ds) d ds (c.if-is_some.ensures ∙ ap is_some c.find.ensures)

pub returns-in-Missing : goal.returns-in-Missing
returns-in-Missing c =
    let d : NewDevice = c.args.device.now in
    let ds : List Device = c.args.census.now.devices in
    let free : find d.name 0 ds ≡ None = sym c.find.ensures ∙ none_found c.find.result c.if-is_some.ensures in
    let room : Bool = nat_lt (live_count ds) 65536 in
    ap (λ (o : Option ℕ). cond room (plug_at o d ds) ds) free
    ∙ missed room d (parent_of d.name) ds (sym c.in-Missing.ensures)

pub returns-in-Nobody : goal.returns-in-Nobody
returns-in-Nobody c =
    let d : NewDevice = c.args.device.now in
    let ds : List Device = c.args.census.now.devices in
    let few : live_count ds < 65536 = omega arith in
    let free : find d.name 0 ds ≡ None = sym c.find.ensures ∙ none_found c.find.result c.if-is_some.ensures in
    (placing d ds few free ∙ placed_root d (parent_of d.name) ds (sym c.find_parent.ensures ∙ c.in-Nobody.is), free, few, (λ p up. absurd (none-some p up)))

pub returns-in-Live : goal.returns-in-Live
returns-in-Live c =
    let d : NewDevice = c.args.device.now in
    let ds : List Device = c.args.census.now.devices in
    let few : live_count ds < 65536 = omega arith in
    let free : find d.name 0 ds ≡ None = sym c.find.ensures ∙ none_found c.find.result c.if-is_some.ensures in
    let found : sought (parent_of d.name) ds ≡ parent.Live c.in-Live.i = sym c.find_parent.ensures ∙ c.in-Live.is in
    (placing d ds few free ∙ placed_below d (parent_of d.name) ds c.in-Live.i found, free, few, (λ p up. subst (λ (n : ℕ). (e : Device) × Live ds n e) (same_Some c.in-Live.i p up) (sought_lives (parent_of d.name) ds c.in-Live.i found)))
