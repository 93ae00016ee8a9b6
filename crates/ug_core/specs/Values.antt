-- What the log says of the values of devices.
use Rattle.std.specs.Prelude.{◌≡◌, ℕ, Bool, cond, nat_eq, List, [], ◌∷◌, ◌++◌, Some, slice_get}
use Rattle.ug_kernel.specs.declared.device.Device.{Device}
use Rattle.ug_kernel.specs.declared.device.Effect.{Effect}
use Rattle.ug_kernel.specs.Called.{value_after}
use Rattle.ug_kernel.specs.Kernel.{Kernel}

-- the value of that device's `authorized` after these entries of the log
abbrev pub on_by : ℕ → List Effect → Bool → Bool
on_by i [] was = was
on_by i (e ∷ es) was = on_by i es (cond (nat_eq e.device i) (value_after e.write was) was)

-- The log has more, and the value of each device that was there is what the new entries make of it:
-- nobody else writes.
pub record LogsValues (k l : Kernel) : Type 0 where
  pub more : List Effect
  pub log : l.log ≡ k.log ++ more
  pub value : (i : ℕ) (d : Device) → slice_get k.devices i ≡ Some d
      → (e : Device) × (slice_get l.devices i ≡ Some e) × (e.on ≡ on_by i more d.on)
