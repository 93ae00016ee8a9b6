-- Devices with room for more.
use Rattle.std.specs.Prelude.{ℕ, List}
use Rattle.ug_kernel.specs.declared.device.Device.{Device}

pub record Listed : Type 0 where
  pub devices : List Device
  pub room : ℕ
