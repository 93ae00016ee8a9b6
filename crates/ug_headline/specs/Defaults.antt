-- What is written to the defaults of root hubs, by which the kernel authorises what is born below.
use Rattle.std.specs.Prelude.{◌≡◌, ℕ, List, ◌++◌, Option, Some}
use Rattle.ug_types.specs.Elements.{Has}
use Rattle.ug_kernel.specs.Kernel.{Kernel}
use Rattle.ug_kernel.specs.declared.control.Write.{Write}
use Rattle.ug_kernel.specs.declared.control.Write.TheVariants as write
use Rattle.ug_kernel.specs.declared.device.Effect.{Effect}
use Rattle.ug_store.specs.Disk.{Disk}
use Rattle.ug_core.specs.Chain.{Chain, Happened}
use Rattle.ug_core.specs.Event.{DaemonState, IsStarted}
use Rattle.ug_core.specs.Policy.{Judging}

-- of the effects that the log gained, one on a default is the one of the setting: `hub` is what
-- AuthorizedDefault has written to each root hub, off for none and on for all
pub record WritesSetting (hub : Option Write) (first k : Kernel) : Type 0 where
  pub added : List Effect
  pub log : k.log ≡ first.log ++ added
  pub off : (i : ℕ) → Has added (record { device = i; write = write.DefaultOff })
      → hub ≡ Some write.DefaultOff
  pub on : (i : ℕ) → Has added (record { device = i; write = write.DefaultOn })
      → hub ≡ Some write.DefaultOn

abbrev pub DefaultsAreSetting : Type 0
DefaultsAreSetting =
    (start : Judging) (hub : Option Write) (number : ℕ) (first : Kernel) (o : Option Disk)
    (d : DaemonState) (run : List Happened) (k : Kernel) (p : Option Disk) (e : DaemonState)
    → IsStarted start hub number d → Chain first o d run k p e → WritesSetting hub first k
