-- Records whose numbers and texts are those that memory can have.
use Rattle.std.specs.Prelude.{◌<◌, ◌^◌, All}
use Rattle.ug_types.specs.declared.record.DeviceRecord.{DeviceRecord}
use Rattle.ug_types.specs.declared.record.Triple.{Triple}
use Rattle.ug_print.specs.Bytes.{AreBytes}

pub record TripleInRange (triple : Triple) : Type 0 where
  pub class : triple.class < 2 ^ 8
  pub subclass : triple.subclass < 2 ^ 8
  pub protocol : triple.protocol < 2 ^ 8

-- two numbers of 16 bits, interfaces of three bytes each, and texts of bytes
pub record RecordInRange (device : DeviceRecord) : Type 0 where
  pub vendor : device.vendor < 2 ^ 16
  pub product : device.product < 2 ^ 16
  pub serial : AreBytes device.serial
  pub name : AreBytes device.name
  pub hash : AreBytes device.hash
  pub parent_hash : AreBytes device.parent_hash
  pub via_port : AreBytes device.via_port
  pub interfaces : All TripleInRange device.interfaces
  pub connect : AreBytes device.connect
