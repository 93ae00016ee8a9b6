-- What calls leave of devices and interfaces: where nothing is written, and at all.
use Rattle.std.specs.Prelude.{◌≡◌, ℕ, false, Some, slice_get}
use Rattle.ug_kernel.specs.Quiet.{Quiet}
use Rattle.ug_iface.specs.declared.interface.Interface.{Interface}
use Rattle.ug_iface.specs.Bus.{Bus, IfaceStays, IfaceMoved}

-- each interface keeps its place, its facts and its value, gone never becomes not gone, each held
-- file is what it was, and nothing was written
pub record Still (b c : Bus) : Type 0 where
  pub kernel : Quiet b.kernel c.kernel
  pub interfaces : (i : ℕ) (x : Interface) → slice_get b.interfaces i ≡ Some x → (y : Interface)
      × (slice_get c.interfaces i ≡ Some y) × IfaceMoved x y
  pub files : (h i : ℕ) → slice_get b.files h ≡ Some i → slice_get c.files h ≡ Some i
  pub log : c.log ≡ b.log

-- off stays off
pub record IfaceKept (x y : Interface) : Type 0 where
  pub stays : IfaceStays x y
  pub off : x.on ≡ false → y.on ≡ false

-- the same, but that interfaces may be switched off
pub record BusGrows (b c : Bus) : Type 0 where
  pub kernel : Quiet b.kernel c.kernel
  pub interfaces : (i : ℕ) (x : Interface) → slice_get b.interfaces i ≡ Some x → (y : Interface)
      × (slice_get c.interfaces i ≡ Some y) × IfaceKept x y
  pub files : (h i : ℕ) → slice_get b.files h ≡ Some i → slice_get c.files h ≡ Some i
