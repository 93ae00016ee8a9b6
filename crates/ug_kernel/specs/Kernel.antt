-- The kernel as plain data: devices, held files and the log of effects. And what it does by itself.
use Rattle.std.specs.Prelude.{◌≡◌, ℕ, ◌+◌, ◌<◌, ◌≤◌, Bool, true, false, Option, if◌then◌else◌, List, [], ◌∷◌, length, Some, None, is_none, slice_get}
use Rattle.ug_types.specs.Names.{parent_of}
use Rattle.ug_kernel.specs.declared.control.Control.{Control}
use Rattle.ug_kernel.specs.declared.control.Control.TheVariants.{Authorized, Remove, Default}
use Rattle.ug_kernel.specs.declared.device.Device.{Device}
use Rattle.ug_kernel.specs.declared.device.HeldFile.{HeldFile}
use Rattle.ug_kernel.specs.declared.device.Effect.{Effect}

-- a place in the list of devices is an identity, and one in the list of held files is the file's
-- number
pub record Kernel : Type 0 where
  pub devices : List Device
  pub held : List HeldFile
  pub log : List Effect

-- the device of an identity, which isn't gone
pub record Live (ds : List Device) (i : ℕ) (d : Device) : Type 0 where
  pub at : slice_get ds i ≡ Some d
  pub here : d.gone ≡ false

abbrev pub live_count : List Device → ℕ
live_count [] = 0
live_count (d ∷ ds) = (if d.gone then 0 else 1) + live_count ds

-- the controller of what is born below that device: itself, where it is a root hub, and else its
-- own
abbrev pub hub_of : ℕ → Option ℕ → ℕ
hub_of p None = p
hub_of p (Some r) = r

-- what holds of the devices: live names are distinct; a parent is born before its child, lives
-- while its child lives, and bears the name of its child's parent; what has no parent is a root
-- hub; each controller is the root hub that the parents lead to; and not too many are live
pub record IsSound (ds : List Device) : Type 0 where
  pub names : (i j : ℕ) (d e : Device) → Live ds i d → Live ds j e → d.name ≡ e.name → i ≡ j
  pub below : (i p : ℕ) (d : Device) → slice_get ds i ≡ Some d → d.parent ≡ Some p → p < i
  pub parents : (i p : ℕ) (d : Device) → Live ds i d → d.parent ≡ Some p
      → (e : Device) × Live ds p e
  pub named : (i p : ℕ) (d e : Device) → slice_get ds i ≡ Some d → d.parent ≡ Some p
      → slice_get ds p ≡ Some e → parent_of d.name ≡ Some e.name
  pub roots : (i : ℕ) (d : Device) → slice_get ds i ≡ Some d → d.parent ≡ None
      → parent_of d.name ≡ None
  pub hubs : (i : ℕ) (d : Device) → slice_get ds i ≡ Some d → d.parent ≡ None → d.controller ≡ None
  pub controllers : (i p : ℕ) (d e : Device) → slice_get ds i ≡ Some d → d.parent ≡ Some p
      → slice_get ds p ≡ Some e → d.controller ≡ Some (hub_of p e.controller)
  pub few : live_count ds ≤ 65536

-- whether a device has that file: a root hub alone has an `authorized_default`
abbrev pub has_file : Control → Device → Bool
has_file Authorized d = true
has_file Remove d = true
has_file Default d = is_none d.parent

-- and a held file is one of a device that was born, and that has it
pub record IsKernel (k : Kernel) : Type 0 where
  pub devices : IsSound k.devices
  pub held : (h : ℕ) (f : HeldFile) → slice_get k.held h ≡ Some f → f.device < length k.devices
  pub files : (h : ℕ) (f : HeldFile) (d : Device) → slice_get k.held h ≡ Some f
      → slice_get k.devices f.device ≡ Some d → has_file f.control d ≡ true

-- the file can be opened by that name: a default is a root hub's
abbrev pub IsOpenable : Control → List ℕ → Type 0
IsOpenable Authorized name = Unit {0}
IsOpenable Remove name = Unit {0}
IsOpenable Default name = parent_of name ≡ None

-- e is what became of the device d: its facts stay, and how it was born, and gone never becomes not
-- gone
pub record Stays (d e : Device) : Type 0 where
  pub name : e.name ≡ d.name
  pub parent : e.parent ≡ d.parent
  pub controller : e.controller ≡ d.controller
  pub descriptors : e.descriptors ≡ d.descriptors
  pub product : e.product ≡ d.product
  pub serial : e.serial ≡ d.serial
  pub connect : e.connect ≡ d.connect
  pub born_off : e.born_off ≡ d.born_off
  pub gone : d.gone ≡ true → e.gone ≡ true

-- a move leaves the authorised value too, and the default
pub record Moved (d e : Device) : Type 0 where
  pub stays : Stays d e
  pub on : e.on ≡ d.on
  pub default : e.default ≡ d.default

-- the devices es begin with the devices ds, as moves left them
abbrev pub BeginsWith : List Device → List Device → Type 0
BeginsWith [] es = Unit {0}
BeginsWith (d ∷ ds) [] = ⊥
BeginsWith (d ∷ ds) (e ∷ es) = Moved d e × BeginsWith ds es

abbrev pub is_off : Option Bool → Bool
is_off None = false
is_off (Some true) = false
is_off (Some false) = true

-- the default of the device at a place; none is unset
abbrev pub default_in : Option Device → Option Bool
default_in None = None
default_in (Some d) = d.default

-- a device is born below a root hub of that default: it is marked where that is off, and where that
-- is set its value is that
pub record StartsBelow (default : Option Bool) (d : Device) : Type 0 where
  pub born_off : d.born_off ≡ is_off default
  pub on : (v : Bool) → default ≡ Some v → d.on ≡ v

-- how a device starts, by its controller
abbrev pub StartsUnder : List Device → Device → Option ℕ → Type 0
StartsUnder ds d None = d.born_off ≡ false
StartsUnder ds d (Some r) = StartsBelow (default_in (slice_get ds r)) d

-- and its own default is unset
abbrev pub StartsUnset : List Device → Device → Type 0
StartsUnset ds d = (d.default ≡ None) × StartsUnder ds d d.controller

-- what the kernel does by itself: devices are born and go
pub record Moves (k l : Kernel) : Type 0 where
  pub devices : BeginsWith k.devices l.devices
  pub born : (i : ℕ) (d : Device) → slice_get l.devices i ≡ Some d → length k.devices ≤ i
      → StartsUnset l.devices d
  pub held : l.held ≡ k.held
  pub log : l.log ≡ k.log
