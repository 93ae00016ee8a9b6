-- What a pass says of devices and interfaces: who was switched off, and who is off.
use Rattle.std.specs.Prelude.{◌<◌, ◌-◌, ◌^◌, ◌≡◌, ℕ, true, false, ◌⊎◌, List, [], ◌∷◌, ◌++◌, Some, slice_get, Option}
use Rattle.ug_types.specs.Elements.{Has, AllDistinct}
use Rattle.ug_kernel.specs.declared.control.Control.TheVariants.{Authorized}
use Rattle.ug_kernel.specs.declared.device.Device.{Device}
use Rattle.ug_kernel.specs.Kernel.{Kernel, Live}
use Rattle.ug_iface.specs.declared.interface.Interface.{Interface}
use Rattle.ug_iface.specs.declared.name.IfaceName.{IfaceName}
use Rattle.ug_iface.specs.Bus.{Bus, IsSoundBus}
use Rattle.ug_iface.specs.Calls.{AllOf}
use Rattle.ug_iface.specs.Called.{LivedIface}
use Rattle.ug_iface.specs.Grows.{Still, BusGrows}
use Rattle.ug_iface.specs.Named.{is_named_off}
use Rattle.ug_iface.specs.Settle.{Aim}
use Rattle.ug_kernel.specs.declared.calls.Wrote.TheVariants as wrote
use Rattle.ug_iface.specs.declared.settle.IfaceEntry.{IfaceEntry}
use Rattle.ug_iface.specs.declared.settle.IfaceEntry.TheVariants as entry
use Rattle.ug_iface.specs.declared.settle.Passed.{Passed}
use Rattle.ug_iface.specs.declared.settle.Passed.TheVariants as passed

-- the held file is the `authorized` of the device of that identity, which has that name
pub record IsHeldOf (k : Kernel) (device : List ℕ) (held i : ℕ) : Type 0 where
  pub d : Device
  pub file : slice_get k.held held ≡ Some (record { device = i; control = Authorized })
  pub at : slice_get k.devices i ≡ Some d
  pub named : d.name ≡ device

abbrev pub IsGoneDevice : ℕ → Bus → Type 0
IsGoneDevice i c = (d : Device) → Live c.kernel.devices i d → ⊥

-- ---- one interface of a pass

-- the interface j is one of the device i, has these numbers, and some rule names it
pub record IsNamedOff (aim : Aim) (i : ℕ) (name : IfaceName) (c : Bus) (j : ℕ) : Type 0 where
  pub x : Interface
  pub at : slice_get c.interfaces j ≡ Some x
  pub device : x.device ≡ i
  pub config : x.config ≡ name.config
  pub number : x.number ≡ name.number
  pub named : is_named_off aim.rules aim.device x.triple ≡ true

-- what may be told of it, and which identities were switched off: nothing; that it is unsettled; or
-- an intent and directly behind it the write, with its failure. A write that was done switched one
-- off, and one that failed may have
pub data IsIfaceTold (aim : Aim) (i : ℕ) (name : IfaceName) (c : Bus) : List IfaceEntry → List ℕ
    → Type 0 where
  Silent : IsIfaceTold aim i name c [] []
  Failing : (count : ℕ) → IsIfaceTold aim i name c (entry.Fault aim.number name count ∷ []) []
  Refused : IsIfaceTold aim i name c (entry.Memory aim.number name ∷ []) []
  Done : (j : ℕ) → IsNamedOff aim i name c j → IsIfaceTold aim i name c
      (entry.Intent aim.number name ∷ entry.Wrote aim.number name wrote.Done ∷ []) (j ∷ [])
  Gone : IsIfaceTold aim i name c
      (entry.Intent aim.number name ∷ entry.Wrote aim.number name wrote.Gone ∷ []) []
  Failed : (count : ℕ) → IsIfaceTold aim i name c
      (entry.Intent aim.number name ∷ entry.Wrote aim.number name wrote.Failed
      ∷ entry.Fault aim.number name count ∷ []) []
  Failed_off : (count j : ℕ) → IsNamedOff aim i name c j → IsIfaceTold aim i name c
      (entry.Intent aim.number name ∷ entry.Wrote aim.number name wrote.Failed
      ∷ entry.Fault aim.number name count ∷ []) (j ∷ [])

-- it is told to be unsettled
abbrev pub TellsUnsettled : ℕ → IfaceName → List IfaceEntry → Type 0
TellsUnsettled number name es =
    ((count : ℕ) × Has es (entry.Fault number name count)) ⊎ Has es (entry.Memory number name)

pub record IsOff (c : Bus) (j : ℕ) : Type 0 where
  pub x : Interface
  pub at : slice_get c.interfaces j ≡ Some x
  pub off : x.on ≡ false

-- each interface of that name that lived through and that some rule names is off, or told to be
-- unsettled
abbrev pub AreOff : Aim → IfaceName → Bus → Bus → List IfaceEntry → Type 0
AreOff aim name b c es =
    (k : ℕ) (y : Interface) → LivedIface b c name k y
    → is_named_off aim.rules aim.device y.triple ≡ true
    → IsOff c k ⊎ TellsUnsettled aim.number name es

-- ---- the pass

-- what is told of interfaces in their order, with the identities that were switched off, up to an
-- interface at which the device is gone
pub data AreTold (aim : Aim) (i : ℕ) (c : Bus) : List IfaceName → List IfaceEntry → List ℕ
    → Type 0 where
  Over : (names : List IfaceName) → AreTold aim i c names [] []
  First : (name : IfaceName) (names : List IfaceName) (es fs : List IfaceEntry) (js ks : List ℕ)
      → IsIfaceTold aim i name c es js → AreTold aim i c names fs ks
      → AreTold aim i c (name ∷ names) (es ++ fs) (js ++ ks)

-- where the listing failed or memory was refused for it, nothing was done
abbrev pub DidNothing : Passed → List IfaceEntry → Bus → Bus → Type 0
DidNothing passed.Done es b c = Unit {0}
DidNothing passed.Gone es b c = Unit {0}
DidNothing (passed.Fault count) es b c = (es ≡ []) × Still b c
DidNothing passed.Memory es b c = (es ≡ []) × Still b c

-- of the interfaces of the device i, each name once: those that were switched off are named by some
-- rule, and each write stands directly behind its intent; where the pass is done, each that lived
-- through and is named is off, or told to be unsettled; where it says that the device is gone, that
-- is so
pub record PassSays (aim : Aim) (i : ℕ) (b c : Bus) (end : Passed)
    (es : List IfaceEntry) : Type 0 where
  pub sound : IsSoundBus c
  pub grows : BusGrows b c
  pub more : List ℕ
  pub log : c.log ≡ b.log ++ more
  pub names : List IfaceName
  pub named : AllOf aim.device.via_port names
  pub distinct : AllDistinct names
  pub told : AreTold aim i c names es more
  pub off : end ≡ passed.Done → (name : IfaceName) → name.device ≡ aim.device.via_port
      → AreOff aim name b c es
  pub gone : end ≡ passed.Gone → IsGoneDevice i c
  pub nothing : DidNothing end es b c

-- where devices and interfaces are told at the end, they were told at the start; and where they
-- were sound and the held file was the `authorized` of a device of that name, this is so, with any
-- moves and any calls that fail
abbrev pub IsPass : {S : Type 0} → (S → Option Bus) → S → Aim → List IfaceEntry → Passed
    → List IfaceEntry → S → Type 0
IsPass bus s aim es end out t =
    (c : Bus) → bus t ≡ Some c
    → (b : Bus) × (bus s ≡ Some b)
    × (IsSoundBus b → (i : ℕ) → IsHeldOf b.kernel aim.device.via_port aim.held i
    → (added : List IfaceEntry) × (out ≡ es ++ added) × PassSays aim i b c end added)

-- where no call failed and memory wasn't refused, each interface of the device that lived through
-- and that some rule names is off
abbrev pub IsComplete : {S : Type 0} → (S → Option Bus) → (S → ℕ) → S → Aim → List IfaceEntry
    → Passed → List IfaceEntry → S → Type 0
IsComplete bus faults s aim es end out t =
    faults t ≡ faults s → faults s < 2 ^ 64 - 1 → (end ≡ passed.Memory → ⊥)
    → ((added : List IfaceEntry) (name : IfaceName) → out ≡ es ++ added
    → Has added (entry.Memory aim.number name) → ⊥)
    → (c : Bus) → bus t ≡ Some c
    → (b : Bus) × (bus s ≡ Some b)
    × (IsSoundBus b → (i : ℕ) → IsHeldOf b.kernel aim.device.via_port aim.held i
    → (name : IfaceName) (k : ℕ) (y : Interface) → name.device ≡ aim.device.via_port
    → LivedIface b c name k y → y.device ≡ i
    → is_named_off aim.rules aim.device y.triple ≡ true → IsOff c k)
