-- What a binding says: the answer's attributes are those of the very device behind its held file.
use Rattle.std.specs.Prelude.{◌≡◌, ℕ, ◌-◌, ◌^◌, ◌<◌, Bool, true, false, ◌||◌, List, [], Option, Some, None, slice_get}
use Rattle.ug_types.specs.declared.record.Attrs.{Attrs}
use Rattle.ug_kernel.specs.declared.device.Device.{Device}
use Rattle.ug_kernel.specs.declared.control.Control.TheVariants.{Authorized}
use Rattle.ug_kernel.specs.declared.control.Attr.TheVariants as attr
use Rattle.ug_kernel.specs.declared.calls.FailedCall.{FailedCall}
use Rattle.ug_kernel.specs.declared.calls.ReadOut.{ReadOut}
use Rattle.ug_kernel.specs.declared.calls.ReadOut.TheVariants as out
use Rattle.ug_kernel.specs.Kernel.{Kernel, IsKernel, Moves}
use Rattle.ug_kernel.specs.Called.{Lived, NoneLived, IsOpened, IsAlive, read_of}
use Rattle.ug_kernel.specs.Quiet.{Quiet}
use Rattle.ug_kernel.specs.declared.identity.Binding.{Binding}
use Rattle.ug_kernel.specs.declared.identity.Binding.TheVariants as bound
use Rattle.ug_kernel.specs.declared.identity.Bound.{Bound}

-- a file that is absent or too long counts as empty
abbrev pub file_bytes : ReadOut → List ℕ
file_bytes (out.Bytes bytes) = bytes
file_bytes answer = []

abbrev pub is_too_long : ReadOut → Bool
is_too_long out.TooLong = true
is_too_long answer = false

-- whether a file is too long that a device's hash is made of
abbrev pub is_core_long : Device → Bool
is_core_long d =
    is_too_long (read_of attr.Descriptors d) || is_too_long (read_of attr.Product d)
    || is_too_long (read_of attr.Serial d)

-- a device's four files
abbrev pub attrs_of : Device → Attrs
attrs_of d = record {
  descriptors = file_bytes (read_of attr.Descriptors d);
  product = file_bytes (read_of attr.Product d);
  serial = file_bytes (read_of attr.Serial d);
  connect = file_bytes (read_of attr.Connect d);
  too_long =
      is_too_long (read_of attr.Descriptors d) || is_too_long (read_of attr.Product d)
      || is_too_long (read_of attr.Serial d) || is_too_long (read_of attr.Connect d);
}

-- the files of a parent that its children's records need
abbrev pub parent_attrs_of : Device → Attrs
parent_attrs_of d = record {
  descriptors = file_bytes (read_of attr.Descriptors d);
  product = file_bytes (read_of attr.Product d);
  serial = file_bytes (read_of attr.Serial d);
  connect = [];
  too_long = is_core_long d;
}

-- these are the files of the parent of that identity, and none where there is no parent
abbrev pub IsParentRead : Kernel → Option ℕ → Option Attrs → Type 0
IsParentRead l None attrs = attrs ≡ None
IsParentRead l (Some p) attrs =
    (e : Device) × (slice_get l.devices p ≡ Some e) × (attrs ≡ Some (parent_attrs_of e))

-- Between two kernels are an opening of the held file by that name, at which the device of that
-- identity was live, and the same moment or a later one, at which it was live and had that value;
-- nothing was written since the opening. Which calls these were isn't said.
pub record LivedUntilProbe (name : List ℕ) (k l : Kernel) (held i : ℕ) (on : Bool) : Type 0 where
  pub before : Kernel
  pub opening : Kernel
  pub probing : Kernel
  pub start : Moves k before
  pub opened : IsOpened name Authorized held before opening
  pub is : opened.i ≡ i
  pub reads : Quiet opening probing
  pub alive : IsAlive held on probing
  pub end : Quiet probing l

-- the held file is a new one, of a device of that name; the attributes, the parent's and the value
-- are that device's; it was live where the file was opened, and then or later had that value; no
-- other device of the name lived through the binding
pub record IsBoundBy (Parents : Kernel → Option ℕ → Option Attrs → Type 0) (name : List ℕ)
    (k l : Kernel)
    (b : Bound) : Type 0 where
  pub i : ℕ
  pub d : Device
  pub device : slice_get l.devices i ≡ Some d
  pub file : slice_get l.held b.held.0 ≡ Some (record { device = i; control = Authorized })
  pub fresh : slice_get k.held b.held.0 ≡ None
  pub named : d.name ≡ name
  pub own : b.attrs ≡ attrs_of d
  pub core_long : b.core_long ≡ is_core_long d
  pub parents : Parents l d.parent b.parent
  pub value : d.on ≡ b.on
  pub lived : LivedUntilProbe name k l b.held.0 i b.on
  pub only : (j : ℕ) (e : Device) → Lived k.devices l.devices j e → e.name ≡ name → j ≡ i

-- what an answer says of the kernel from the binding's start to its end
abbrev pub SaysBy : (Kernel → Option ℕ → Option Attrs → Type 0) → List ℕ → Kernel → Kernel → Binding
    → Type 0
SaysBy Parents name k l (bound.Bound b) = IsBoundBy Parents name k l b
SaysBy Parents name k l bound.Absent = NoneLived name k l
SaysBy Parents name k l bound.Vanished = NoneLived name k l
SaysBy Parents name k l (bound.Failed failed) = Unit {0}
SaysBy Parents name k l bound.Memory = Unit {0}

-- a binding writes nothing, and its answer says that
pub record IsBindingBy (Parents : Kernel → Option ℕ → Option Attrs → Type 0) (name : List ℕ)
    (k l : Kernel)
    (answer : Binding) : Type 0 where
  pub sound : IsKernel l
  pub quiet : Quiet k l
  pub says : SaysBy Parents name k l answer

-- where the parent's files were read
abbrev pub IsBound : List ℕ → Kernel → Kernel → Bound → Type 0
IsBound name k l b = IsBoundBy IsParentRead name k l b

abbrev pub BindSays : List ℕ → Kernel → Kernel → Binding → Type 0
BindSays name k l answer = SaysBy IsParentRead name k l answer

abbrev pub IsBinding : List ℕ → Kernel → Kernel → Binding → Type 0
IsBinding name k l answer = IsBindingBy IsParentRead name k l answer

-- where a kernel is told at the end, one was told at the start, and where that was sound this was a
-- binding
abbrev pub TellsBinding : {S : Type 0} → (S → Option Kernel) → S → List ℕ → Binding → S → Type 0
TellsBinding told s name answer t =
    (l : Kernel) → told t ≡ Some l
    → (k : Kernel) × (told s ≡ Some k) × (IsKernel k → IsBinding name k l answer)

-- the numbers of a fault: those of the last call and of all faults, and it is a new one
pub record IsFault (faults calls_after faults_after : ℕ) (failed : FailedCall) : Type 0 where
  pub number : failed.call ≡ calls_after
  pub total : failed.count ≡ faults_after
  pub rises : faults < 2 ^ 64 - 1 → faults < faults_after

-- a failed answer has the numbers of a fault
abbrev pub TellsFault : ℕ → ℕ → ℕ → Binding → Type 0
TellsFault faults calls_after faults_after (bound.Failed failed) =
    IsFault faults calls_after faults_after failed
TellsFault faults calls_after faults_after answer = Unit {0}
