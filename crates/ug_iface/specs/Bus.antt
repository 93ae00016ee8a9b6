-- Devices and their interfaces as plain data, and what they do by themselves.
use Rattle.std.specs.Prelude.{◌≡◌, ℕ, ◌+◌, ◌<◌, ◌≤◌, not, ◌&&◌, nat_eq, if◌then◌else◌, true, false, List, [], ◌∷◌, length, Some, slice_get}
use Rattle.ug_kernel.specs.declared.device.Device.{Device}
use Rattle.ug_kernel.specs.Kernel.{Kernel, Live, IsKernel, Moves}
use Rattle.ug_iface.specs.declared.interface.Interface.{Interface}
use Rattle.ug_iface.specs.declared.name.IfaceName.{IfaceName}

-- a place in the list of interfaces is an identity, and one in the list of files is a held file,
-- which has the identity of its interface; the log has the identity of each interface that was
-- switched off
pub record Bus : Type 0 where
  pub kernel : Kernel
  pub interfaces : List Interface
  pub files : List ℕ
  pub log : List ℕ

-- the interface of an identity, which isn't gone, and whose device isn't
pub record LiveIface (b : Bus) (i : ℕ) (x : Interface) : Type 0 where
  pub at : slice_get b.interfaces i ≡ Some x
  pub here : x.gone ≡ false
  pub d : Device
  pub device : Live b.kernel.devices x.device d

-- what it is called, where its device is d
pub record IsCalled (name : IfaceName) (d : Device) (x : Interface) : Type 0 where
  pub device : d.name ≡ name.device
  pub config : x.config ≡ name.config
  pub number : x.number ≡ name.number

-- how many interfaces of a device aren't gone
abbrev pub ungone_of : ℕ → List Interface → ℕ
ungone_of i [] = 0
ungone_of i (x ∷ xs) = (if not x.gone && nat_eq x.device i then 1 else 0) + ungone_of i xs

-- live interfaces of one device differ in configuration or number, and at most 1,024 aren't gone;
-- an interface is of a device that was born, and of a configuration from 1 on; and a held file is
-- of an interface that was made
pub record IsSoundBus (b : Bus) : Type 0 where
  pub kernel : IsKernel b.kernel
  pub apart : (i j : ℕ) (x y : Interface) → LiveIface b i x → LiveIface b j y
      → x.device ≡ y.device → x.config ≡ y.config → x.number ≡ y.number → i ≡ j
  pub born : (i : ℕ) (x : Interface) → slice_get b.interfaces i ≡ Some x
      → (d : Device) × (slice_get b.kernel.devices x.device ≡ Some d)
  pub configured : (i : ℕ) (x : Interface) → slice_get b.interfaces i ≡ Some x
      → 0 < x.config
  pub few : (i : ℕ) → ungone_of i b.interfaces ≤ 1024
  pub files : (h i : ℕ) → slice_get b.files h ≡ Some i → i < length b.interfaces

-- y is what became of the interface x: its facts stay, and gone never becomes not gone
pub record IfaceStays (x y : Interface) : Type 0 where
  pub device : y.device ≡ x.device
  pub config : y.config ≡ x.config
  pub number : y.number ≡ x.number
  pub triple : y.triple ≡ x.triple
  pub gone : x.gone ≡ true → y.gone ≡ true

-- a move leaves its value too
pub record IfaceMoved (x y : Interface) : Type 0 where
  pub stays : IfaceStays x y
  pub on : y.on ≡ x.on

-- the device of that identity, if it was born before, wasn't gone
abbrev pub IsUngone : Kernel → ℕ → Type 0
IsUngone k i = (d : Device) → slice_get k.devices i ≡ Some d → d.gone ≡ false

-- these interfaces are new, each of a device that wasn't gone
abbrev pub AreNew : Kernel → List Interface → Type 0
AreNew k [] = Unit {0}
AreNew k (y ∷ ys) = IsUngone k y.device × AreNew k ys

-- ys are the interfaces xs, as moves left them, and new ones
abbrev pub IfacesBegin : Kernel → List Interface → List Interface → Type 0
IfacesBegin k [] ys = AreNew k ys
IfacesBegin k (x ∷ xs) [] = ⊥
IfacesBegin k (x ∷ xs) (y ∷ ys) = IfaceMoved x y × IfacesBegin k xs ys

-- what devices and interfaces do by themselves: they come and go
pub record MovesBus (b c : Bus) : Type 0 where
  pub kernel : Moves b.kernel c.kernel
  pub interfaces : IfacesBegin b.kernel b.interfaces c.interfaces
  pub files : c.files ≡ b.files
  pub log : c.log ≡ b.log
