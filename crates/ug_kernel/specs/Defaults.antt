-- What the log says of devices that are born off, and of the defaults of root hubs.
use Rattle.std.specs.Prelude.{◌≡◌, ℕ, Bool, true, cond, nat_eq, List, [], ◌∷◌, ◌++◌, Option, Some, None, slice_get}
use Rattle.ug_types.specs.Elements.{Has}
use Rattle.ug_kernel.specs.declared.control.Write.{Write}
use Rattle.ug_kernel.specs.declared.control.Write.TheVariants.{On}
use Rattle.ug_kernel.specs.declared.device.Device.{Device}
use Rattle.ug_kernel.specs.declared.device.Effect.{Effect}
use Rattle.ug_kernel.specs.Kernel.{Kernel, default_in}
use Rattle.ug_kernel.specs.Called.{default_after}

-- a device that was born while its controller's default was off is on only where the log has an On
-- entry of it
abbrev pub HasOnEntries : Kernel → Type 0
HasOnEntries k =
    (i : ℕ) (d : Device) → slice_get k.devices i ≡ Some d → d.born_off ≡ true → d.on ≡ true
    → Has k.log (record { device = i; write = On })

-- the default of the device at that place after these entries
abbrev pub default_by : ℕ → List Effect → Option Bool → Option Bool
default_by i [] was = was
default_by i (e ∷ es) was =
    default_by i es (cond (nat_eq e.device i) (default_after e.write was) was)

-- the default of the device at that place; none is unset
abbrev pub default_at : ℕ → Kernel → Option Bool
default_at i k = default_in (slice_get k.devices i)

-- the log has more, and each default is what the new entries make of it
pub record Logs (k l : Kernel) : Type 0 where
  pub more : List Effect
  pub log : l.log ≡ k.log ++ more
  pub default : (i : ℕ) → default_at i l ≡ default_by i more (default_at i k)

-- what a write leaves of a default
abbrev pub set_by : Write → Option Bool
set_by what = default_after what None
