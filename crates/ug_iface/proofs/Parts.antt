-- What is proved of the parts of a pass.
use Rattle.std.proofs.Common.{◌≡◌, ℕ, Bool, true, false, ◌⊎◌, List, ◌++◌, Some, slice_get}
use Rattle.ug_types.specs.Elements.{Has}
use Rattle.ug_types.specs.declared.record.Triple.{Triple}
use Rattle.ug_iface.specs.declared.interface.Interface.{Interface}
use Rattle.ug_iface.specs.declared.name.IfaceName.{IfaceName}
use Rattle.ug_iface.specs.declared.look.Look.{Look}
use Rattle.ug_iface.specs.declared.look.Look.TheVariants as look
use Rattle.ug_iface.specs.declared.settle.IfaceEntry.{IfaceEntry}
use Rattle.ug_iface.specs.declared.settle.Passed.{Passed}
use Rattle.ug_iface.specs.declared.settle.Passed.TheVariants as passed
use Rattle.ug_iface.specs.Bus.{Bus, IsSoundBus}
use Rattle.ug_iface.specs.Called.{LivedIface, NoIfaceLived}
use Rattle.ug_iface.specs.Grows.{Still, BusGrows}
use Rattle.ug_iface.specs.Settle.{Aim}
use Rattle.ug_iface.specs.Laws.{IsGoneDevice, IsIfaceTold, AreOff, AreTold}

-- the file is of an interface of the device i that has these numbers, this type and this value; and
-- an interface of that name which lived all the while is this one
pub record IsFound (name : IfaceName) (i : ℕ) (b c : Bus) (file : ℕ) (triple : Triple)
    (on : Bool) : Type 0 where
  pub j : ℕ
  pub x : Interface
  pub held : slice_get c.files file ≡ Some j
  pub at : slice_get c.interfaces j ≡ Some x
  pub device : x.device ≡ i
  pub config : x.config ≡ name.config
  pub number : x.number ≡ name.number
  pub triple_is : x.triple ≡ triple
  pub value : x.on ≡ on
  pub only : (k : ℕ) (y : Interface) → LivedIface b c name k y → k ≡ j

abbrev pub LookSays : IfaceName → ℕ → Bus → Bus → Look → Type 0
LookSays name i b c (look.Here file triple on) = IsFound name i b c file.0 triple on
LookSays name i b c look.Absent = NoIfaceLived name b c
LookSays name i b c look.Gone = IsGoneDevice i c
LookSays name i b c (look.Failed count) = Unit {0}
LookSays name i b c look.Memory = Unit {0}

-- nothing is written, and the answer says that
pub record Looked (name : IfaceName) (i : ℕ) (b c : Bus) (r : Look) : Type 0 where
  pub sound : IsSoundBus c
  pub still : Still b c
  pub says : LookSays name i b c r

pub record IfaceSettled (aim : Aim) (i : ℕ) (name : IfaceName) (b c : Bus) (there : Bool)
    (es : List IfaceEntry) : Type 0 where
  pub sound : IsSoundBus c
  pub grows : BusGrows b c
  pub more : List ℕ
  pub log : c.log ≡ b.log ++ more
  pub told : IsIfaceTold aim i name c es more
  pub off : there ≡ true → AreOff aim name b c es
  pub gone : there ≡ false → IsGoneDevice i c

-- of the interfaces of the device i: those that were switched off are named by some rule, and each
-- write stands directly behind its intent; where the pass is done, each that lived through and is
-- named is off, or told to be unsettled; where it says that the device is gone, it is
pub record SwitchesOff (aim : Aim) (i : ℕ) (names : List IfaceName) (b c : Bus) (end : Passed)
    (es : List IfaceEntry) : Type 0 where
  pub sound : IsSoundBus c
  pub grows : BusGrows b c
  pub more : List ℕ
  pub log : c.log ≡ b.log ++ more
  pub told : AreTold aim i c names es more
  pub ends : (end ≡ passed.Done) ⊎ (end ≡ passed.Gone)
  pub off : end ≡ passed.Done → (name : IfaceName) → Has names name → AreOff aim name b c es
  pub gone : end ≡ passed.Gone → IsGoneDevice i c
