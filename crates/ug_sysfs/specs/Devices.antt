-- Devices by their names, and how they come and go.
use Rattle.std.specs.Prelude.{◌≡◌, ℕ, ◌+◌, Bool, true, false, cond, not, ◌&&◌, ◌||◌, eqb, nat_lt, List, [], ◌∷◌, ◌++◌, length, take, drop, set, Option, Some, None, nat_eq}
use Rattle.std.specs.List.{slice_get}
use Rattle.std.specs.Cmp.Lexicographic.{pointwise}
use Rattle.ug_types.specs.Names.{parent_of}
use Rattle.ug_kernel.specs.declared.device.Device.{Device}
use Rattle.ug_kernel.specs.Kernel.{Live, live_count, hub_of, is_off, default_in}
use Rattle.ug_sysfs.specs.declared.script.NewDevice.{NewDevice}
use Rattle.ug_sysfs.specs.declared.parent.Parent.{Parent}
use Rattle.ug_sysfs.specs.declared.parent.Parent.TheVariants as parent

abbrev pub is_named : List ℕ → Device → Bool
is_named name d = not d.gone && pointwise nat_eq d.name name

-- the first live device of a name, where the list begins at place i
abbrev pub find : List ℕ → ℕ → List Device → Option ℕ
find name i [] = None
find name i (d ∷ ds) = cond (is_named name d) (Some i) (find name (i + 1) ds)

abbrev pub sought_at : Option ℕ → Parent
sought_at None = parent.Missing
sought_at (Some i) = parent.Live i

-- a parent by its name
abbrev pub sought : Option (List ℕ) → List Device → Parent
sought None ds = parent.Nobody
sought (Some name) ds = sought_at (find name 0 ds)

abbrev pub is_unplugged : Option Device → Bool
is_unplugged None = false
is_unplugged (Some d) = d.gone

-- whether a device falls with its parent
abbrev pub falls : Option ℕ → List Device → Bool
falls None ds = false
falls (Some p) ds = is_unplugged (slice_get ds p)

-- the target goes, and each device after it whose parent is gone before it
abbrev pub felled : ℕ → List Device → Device → Device
felled target before d =
    record d { gone = d.gone || (eqb (length before) target || falls d.parent before) }

abbrev pub fall : ℕ → List Device → List Device → List Device
fall target before [] = before
fall target before (d ∷ ds) = fall target (before ++ felled target before d ∷ []) ds

-- the device at a place goes
abbrev pub gone_in : ℕ → Option Device → List Device → List Device
gone_in i None ds = ds
gone_in i (Some d) ds = set ds i (record d { gone = true })

abbrev pub with_gone : ℕ → List Device → List Device
with_gone i ds = gone_in i (slice_get ds i) ds

abbrev pub unplug_at : Option ℕ → List Device → List Device
unplug_at None ds = ds
unplug_at (Some i) ds = fall i (take i ds) (drop i ds)

-- the live device of a name goes, and what is below it
abbrev pub unplugged : List ℕ → List Device → List Device
unplugged name ds = unplug_at (find name 0 ds) ds

-- the controller of what is born under that parent

abbrev pub hub_under : ℕ → Option Device → ℕ
hub_under p None = p
hub_under p (Some e) = hub_of p e.controller

abbrev pub controller_under : Option ℕ → List Device → Option ℕ
controller_under None ds = None
controller_under (Some p) ds = Some (hub_under p (slice_get ds p))

-- and the default of that controller
abbrev pub controller_default : Option ℕ → List Device → Option Bool
controller_default None ds = None
controller_default (Some r) ds = default_in (slice_get ds r)

-- a default that is set is the value that a device starts with
abbrev pub starts_on : Option Bool → Bool → Bool
starts_on None on = on
starts_on (Some v) on = v

-- a new device under that parent, live, with that controller, whose default is this
abbrev pub born_with : NewDevice → Option ℕ → Option ℕ → Option Bool → Device
born_with d parent controller default = record {
  name = d.name;
  parent = parent;
  controller = controller;
  descriptors = d.descriptors;
  product = d.product;
  serial = d.serial;
  connect = d.connect;
  gone = false;
  on = starts_on default d.on;
  default = None;
  born_off = is_off default;
}

abbrev pub born_as : NewDevice → Option ℕ → List Device → Device
born_as d parent ds =
    born_with d parent (controller_under parent ds)
    (controller_default (controller_under parent ds) ds)

abbrev pub born : NewDevice → Option ℕ → List Device → List Device
born d parent ds = ds ++ born_as d parent ds ∷ []

abbrev pub born_under : NewDevice → Option ℕ → List Device → List Device
born_under d None ds = ds
born_under d (Some i) ds = born d (Some i) ds

-- a root hub has no parent; else it is the live device of the parent's name
abbrev pub placed : NewDevice → Option (List ℕ) → List Device → List Device
placed d None ds = born d None ds
placed d (Some name) ds = born_under d (find name 0 ds) ds

abbrev pub plug_at : Option ℕ → NewDevice → List Device → List Device
plug_at None d ds = placed d (parent_of d.name) ds
plug_at (Some i) d ds = ds

-- a device is born, unless its name is live, or its parent isn't, or 65,536 devices are
abbrev pub plugged : NewDevice → List Device → List Device
plugged d ds = cond (nat_lt (live_count ds) 65536) (plug_at (find d.name 0 ds) d ds) ds

-- no two live devices have one name
abbrev pub IsDistinct : List Device → Type 0
IsDistinct ds = (i j : ℕ) (d e : Device) → Live ds i d → Live ds j e → d.name ≡ e.name → i ≡ j
