-- What a move does to devices and to interfaces.
use Rattle.std.specs.Prelude.{◌≡◌, ℕ, true, List, [], ◌∷◌, ◌++◌, set}
use Rattle.ug_kernel.specs.declared.device.Device.{Device}
use Rattle.ug_kernel.specs.Kernel.{Live}
use Rattle.ug_iface.specs.declared.interface.Interface.{Interface}
use Rattle.ug_iface.specs.Bus.{Bus, IsCalled, LiveIface}
use Rattle.ug_sysfs.specs.declared.script.IfaceMove.TheVariants.{Add, Remove}
use Rattle.ug_sysfs.specs.declared.script.Move.{Move}
use Rattle.ug_sysfs.specs.declared.script.Move.TheVariants as move
use Rattle.ug_sysfs.specs.Below.{IsFelled}
use Rattle.ug_sysfs.specs.Birth.{CanBeBorn, IsBorn}
use Rattle.ug_sysfs.specs.IfaceBirth.{CanBeAdded, IsntThere}
use Rattle.ug_sysfs.specs.Interfaces.{iface_of}

-- A device is born as the newest, with the facts of the line, wherever it can be. A live device of
-- the name goes with those below it. Else nothing changes. A move of an interface changes none.
abbrev pub Does : Move → List Device → List Device → Type 0
Does (move.Plug device) ds es =
    (CanBeBorn device ds → IsBorn device ds es) × (¬ CanBeBorn device ds → es ≡ ds)
Does (move.Unplug name) ds es =
    ((i : ℕ) (d : Device) → Live ds i d → d.name ≡ name → IsFelled i ds es)
    × (((i : ℕ) (d : Device) → Live ds i d → d.name ≡ name → ⊥) → es ≡ ds)
Does (move.Iface change) ds es = es ≡ ds

-- An interface is added to the live device of its name wherever it can be. A live interface of the
-- name goes. Else nothing changes. A move of a device leaves the interfaces as they are.
abbrev pub DoesIfaces : Move → Bus → List Interface → Type 0
DoesIfaces (move.Plug device) b xs = xs ≡ b.interfaces
DoesIfaces (move.Unplug name) b xs = xs ≡ b.interfaces
DoesIfaces (move.Iface (Add new)) b xs =
    ((i : ℕ) → CanBeAdded new b i → xs ≡ b.interfaces ++ iface_of i new ∷ [])
    × (((i : ℕ) → ¬ CanBeAdded new b i) → xs ≡ b.interfaces)
DoesIfaces (move.Iface (Remove name)) b xs =
    ((j : ℕ) (x : Interface) (l : LiveIface b j x) → IsCalled name l.d x
    → xs ≡ set b.interfaces j (record x { gone = true }))
    × (IsntThere name b → xs ≡ b.interfaces)

-- it does what it can, and leaves all files and what was written as they are
pub record DoesMove (action : Move) (b c : Bus) : Type 0 where
  pub devices : Does action b.kernel.devices c.kernel.devices
  pub interfaces : DoesIfaces action b c.interfaces
  pub files : (c.kernel.held ≡ b.kernel.held) × (c.files ≡ b.files)
  pub written : (c.kernel.log ≡ b.kernel.log) × (c.log ≡ b.log)

-- one after another
abbrev pub DoMoves : List Move → Bus → Bus → Type 0
DoMoves [] b d = d ≡ b
DoMoves (action ∷ actions) b d = (c : Bus) × DoesMove action b c × DoMoves actions c d
