-- Devices that are as the rule of one of them asks.
use Rattle.std.specs.Prelude.{◌≡◌, ◌↔◌, Bool, IsTrue, List, [], ◌∷◌}
use Rattle.ug_types.specs.Elements.{Has}
use Rattle.ug_types.specs.declared.record.DeviceRecord.{DeviceRecord}
use Rattle.ug_types.specs.declared.record.Triple.{Triple}

-- the same interfaces, in whatever order and number, unless the device has none
abbrev pub HasInterfaces : List Triple → List Triple → Type 0
HasInterfaces [] others = Unit {0}
HasInterfaces (triple ∷ triples) others = (t : Triple) → Has (triple ∷ triples) t ↔ Has others t

-- another device is as the rule of a device asks, with its port or without it
pub record IsAlike (with_port : Bool) (device other : DeviceRecord) : Type 0 where
  pub vendor : device.vendor ≡ other.vendor
  pub product : device.product ≡ other.product
  pub serial : device.serial ≡ other.serial
  pub name : device.name ≡ other.name
  pub hash : device.hash ≡ other.hash
  pub parent_hash : device.parent_hash ≡ other.parent_hash
  pub via_port : IsTrue with_port → device.via_port ≡ other.via_port
  pub interfaces : HasInterfaces device.interfaces other.interfaces
  pub connect : device.connect ≡ other.connect
