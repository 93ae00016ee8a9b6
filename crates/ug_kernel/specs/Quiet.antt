-- What calls leave of a kernel: where nothing is written, and at all.
use Rattle.std.specs.Prelude.{◌≡◌, ℕ, Some, slice_get}
use Rattle.ug_kernel.specs.declared.device.Device.{Device}
use Rattle.ug_kernel.specs.declared.device.HeldFile.{HeldFile}
use Rattle.ug_kernel.specs.Kernel.{Kernel, Stays, Moved}
use Rattle.ug_types.specs.Elements.{Has}
use Rattle.ug_kernel.specs.declared.device.Effect.{Effect}

-- each device keeps its place, its facts and its value, and gone never becomes not gone; each held
-- file is what it was; and nothing was written
pub record Quiet (k l : Kernel) : Type 0 where
  pub devices : (i : ℕ) (d : Device) → slice_get k.devices i ≡ Some d
      → (e : Device) × (slice_get l.devices i ≡ Some e) × Moved d e
  pub held : (h : ℕ) (f : HeldFile) → slice_get k.held h ≡ Some f → slice_get l.held h ≡ Some f
  pub log : l.log ≡ k.log

-- the same, but that values may be written, and that the log may have more
pub record Grows (k l : Kernel) : Type 0 where
  pub devices : (i : ℕ) (d : Device) → slice_get k.devices i ≡ Some d
      → (e : Device) × (slice_get l.devices i ≡ Some e) × Stays d e
  pub held : (h : ℕ) (f : HeldFile) → slice_get k.held h ≡ Some f → slice_get l.held h ≡ Some f
  pub log : (e : Effect) → Has k.log e → Has l.log e
