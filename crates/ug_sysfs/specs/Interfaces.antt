-- Interfaces by their devices, configurations and numbers, and how they come and go.
use Rattle.std.specs.Prelude.{ℕ, Bool, false, true, not, ◌&&◌, cond, nat_eq, nat_lt, is_none, List, [], ◌∷◌, ◌++◌, set, Option, Some, None}
use Rattle.std.specs.List.{slice_get, position}
use Rattle.ug_kernel.specs.declared.device.Device.{Device}
use Rattle.ug_iface.specs.declared.interface.Interface.{Interface}
use Rattle.ug_iface.specs.declared.name.IfaceName.{IfaceName}
use Rattle.ug_iface.specs.Bus.{ungone_of}
use Rattle.ug_sysfs.specs.declared.script.NewIface.{NewIface}
use Rattle.ug_sysfs.specs.declared.script.IfaceMove.{IfaceMove}
use Rattle.ug_sysfs.specs.declared.script.IfaceMove.TheVariants.{Add, Remove}
use Rattle.ug_sysfs.specs.Devices.{find}

-- interfaces with room for more
pub record IfaceList : Type 0 where
  pub interfaces : List Interface
  pub room : ℕ

-- an interface of that device that isn't gone
abbrev pub is_of : ℕ → Interface → Bool
is_of device x = not x.gone && nat_eq x.device device

abbrev pub has_iface_numbers : ℕ → ℕ → Interface → Bool
has_iface_numbers config number x = nat_eq x.config config && nat_eq x.number number

abbrev pub is_iface : ℕ → ℕ → ℕ → Interface → Bool
is_iface device config number x = is_of device x && has_iface_numbers config number x

-- the place of the interface of that device, configuration and number that isn't gone
abbrev pub iface_place : ℕ → ℕ → ℕ → List Interface → Option ℕ
iface_place device config number xs = position (is_iface device config number) xs

abbrev pub place_under : Option ℕ → IfaceName → List Interface → Option ℕ
place_under None name xs = None
place_under (Some device) name xs = iface_place device name.config name.number xs

-- the place of the live interface of that name
abbrev pub place_named : IfaceName → List Device → List Interface → Option ℕ
place_named name ds xs = place_under (find name.device 0 ds) name xs

-- ---- what becomes of them

abbrev pub iface_of : ℕ → NewIface → Interface
iface_of device new =
    record {
      device = device;
      config = new.name.config;
      number = new.name.number;
      triple = new.triple;
      gone = false;
      on = new.on;
    }

-- it has a configuration, there is none of its configuration and number, and fewer than 1,024 of
-- its device
abbrev pub can_add : ℕ → IfaceName → List Interface → Bool
can_add device name xs =
    nat_lt 0 name.config
    && (nat_lt (ungone_of device xs) 1024
    && is_none (iface_place device name.config name.number xs))

abbrev pub added_to : ℕ → NewIface → List Interface → List Interface
added_to device new xs = cond (can_add device new.name xs) (xs ++ iface_of device new ∷ []) xs

abbrev pub added_under : Option ℕ → NewIface → List Interface → List Interface
added_under None new xs = xs
added_under (Some device) new xs = added_to device new xs

abbrev pub gone_there : ℕ → Option Interface → List Interface → List Interface
gone_there i None xs = xs
gone_there i (Some x) xs = set xs i (record x { gone = true })

-- the interface at a place is gone
abbrev pub with_iface_gone : ℕ → List Interface → List Interface
with_iface_gone i xs = gone_there i (slice_get xs i) xs

abbrev pub removed_at : Option ℕ → List Interface → List Interface
removed_at None xs = xs
removed_at (Some i) xs = with_iface_gone i xs

abbrev pub off_there : ℕ → Option Interface → List Interface → List Interface
off_there i None xs = xs
off_there i (Some x) xs = set xs i (record x { on = false })

-- the interface at a place is switched off
abbrev pub with_iface_off : ℕ → List Interface → List Interface
with_iface_off i xs = off_there i (slice_get xs i) xs

-- an interface is added to a live device, or a live one is removed; else nothing changes
abbrev pub iface_moved : IfaceMove → List Device → List Interface → List Interface
iface_moved (Add new) ds xs = added_under (find new.name.device 0 ds) new xs
iface_moved (Remove name) ds xs = removed_at (place_named name ds xs) xs

-- how many interfaces are added, at most
abbrev pub adds_in : IfaceMove → ℕ
adds_in (Add new) = 1
adds_in (Remove name) = 0

-- ---- what is asked of them

abbrev pub iface_name : List ℕ → Interface → IfaceName
iface_name device x = record { device = device; config = x.config; number = x.number }

-- the names of the interfaces of a device that aren't gone
abbrev pub iface_names : ℕ → List ℕ → List Interface → List IfaceName
iface_names device name [] = []
iface_names device name (x ∷ xs) =
    cond (is_of device x) (iface_name name x ∷ iface_names device name xs)
    (iface_names device name xs)

abbrev pub if_on_live : ℕ → Option Device → Option ℕ
if_on_live i None = None
if_on_live i (Some d) = cond d.gone None (Some i)

abbrev pub if_iface_live : ℕ → Option Interface → List Device → Option ℕ
if_iface_live i None ds = None
if_iface_live i (Some x) ds = cond x.gone None (if_on_live i (slice_get ds x.device))

abbrev pub live_iface_at : Option ℕ → List Interface → List Device → Option ℕ
live_iface_at None xs ds = None
live_iface_at (Some i) xs ds = if_iface_live i (slice_get xs i) ds

-- the interface of a held file, where it is live
abbrev pub live_iface : ℕ → List ℕ → List Interface → List Device → Option ℕ
live_iface held files xs ds = live_iface_at (slice_get files held) xs ds
