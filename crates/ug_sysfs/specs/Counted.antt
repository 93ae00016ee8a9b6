-- The places of the live devices are listed, and the children of each.
use Rattle.std.specs.Prelude.{◌≡◌, ℕ, ◌+◌, ◌≤◌, List, length, Some, vec_capacity}
use Rattle.ug_kernel.specs.declared.device.Device.{Device}
use Rattle.ug_kernel.specs.Kernel.{Live}
use Rattle.ug_sysfs.specs.declared.census.Census.TheInside.{Inside}
use Rattle.ug_sysfs.specs.Kin.{HasKin}
use Rattle.ug_sysfs.specs.Living.{Wanes, live_places}

-- a device's parent lives while it lives
abbrev pub HaveLiveParents : List Device → Type 0
HaveLiveParents ds =
    (i p : ℕ) (d : Device) → Live ds i d → d.parent ≡ Some p → (e : Device) × Live ds p e

-- listed is, in the order of their births, who was live at some time or was born since; there is
-- room for what was promised
pub record ListsLive (c : Inside) : Type 0 where
  pub was : List Device
  pub wanes : Wanes was c.roster.devices
  pub listed : c.places.items ≡ live_places 0 was
  pub room : length c.places.items + c.roster.room ≤ vec_capacity c.places
  pub kin : HasKin c.kin.items c.roster.devices
  pub kin_room : length c.kin.items + c.roster.room ≤ vec_capacity c.kin
  pub parents : HaveLiveParents c.roster.devices
