-- What a call does, and what its answer says of the kernel from the call's start to its end.
use Rattle.std.specs.Prelude.{◌≡◌, ℕ, nat_le, Bool, true, false, if◌then◌else◌, ◌⊎◌, List, [], ◌∷◌, ◌++◌, length, Option, Some, None, slice_get}
use Rattle.ug_types.specs.Elements.{Has, AllDistinct}
use Rattle.ug_kernel.specs.declared.device.Device.{Device}
use Rattle.ug_kernel.specs.declared.device.HeldFile.{HeldFile}
use Rattle.ug_kernel.specs.declared.control.Control.{Control}
use Rattle.ug_kernel.specs.declared.control.Attr.{Attr}
use Rattle.ug_kernel.specs.declared.control.Attr.TheVariants as attr
use Rattle.ug_kernel.specs.declared.control.Write.{Write}
use Rattle.ug_kernel.specs.declared.control.Write.TheVariants as write
use Rattle.ug_kernel.specs.declared.calls.Listing.{Listing}
use Rattle.ug_kernel.specs.declared.calls.Listing.TheVariants as listing
use Rattle.ug_kernel.specs.declared.calls.Opened.{Opened}
use Rattle.ug_kernel.specs.declared.calls.Opened.TheVariants as opened
use Rattle.ug_kernel.specs.declared.calls.ReadOut.{ReadOut}
use Rattle.ug_kernel.specs.declared.calls.ReadOut.TheVariants as out
use Rattle.ug_kernel.specs.declared.calls.Probe.{Probe}
use Rattle.ug_kernel.specs.declared.calls.Probe.TheVariants as probe
use Rattle.ug_kernel.specs.declared.calls.Wrote.{Wrote}
use Rattle.ug_kernel.specs.declared.calls.Wrote.TheVariants as wrote
use Rattle.ug_kernel.specs.Calls.{Call, Names, Open, Read, Ask_alive, Put, Close, Answer}
use Rattle.ug_kernel.specs.Kernel.{Kernel, Live, IsKernel, has_file, Moves}

-- a device that lived from ds to es
pub record Lived (ds es : List Device) (i : ℕ) (d : Device) : Type 0 where
  pub entry : Live ds i d
  pub exit : (e : Device) × Live es i e

-- no device of the name that has that file lived through
abbrev pub NoneHas : Control → List ℕ → Kernel → Kernel → Type 0
NoneHas control name k l =
    (i : ℕ) (d : Device) → Lived k.devices l.devices i d → d.name ≡ name → has_file control d ≡ true
    → ⊥

-- no device of the name lived through
abbrev pub NoneLived : List ℕ → Kernel → Kernel → Type 0
NoneLived name k l = (i : ℕ) (d : Device) → Lived k.devices l.devices i d → d.name ≡ name → ⊥

-- what reading a file gives: its bytes, unless it is absent or over its limit
abbrev pub within_limit : ℕ → List ℕ → ReadOut
within_limit limit bytes = if nat_le (length bytes) limit then out.Bytes bytes else out.TooLong

abbrev pub text_within : Option (List ℕ) → ReadOut
text_within None = out.Absent
text_within (Some bytes) = within_limit 4096 bytes

abbrev pub read_of : Attr → Device → ReadOut
read_of attr.Descriptors d = within_limit 131072 d.descriptors
read_of attr.Product d = text_within d.product
read_of attr.Serial d = text_within d.serial
read_of attr.Connect d = text_within d.connect

-- the value of `authorized` after a write
abbrev pub value_after : Write → Bool → Bool
value_after write.On was = true
value_after write.Off was = false
value_after write.Remove was = was
value_after write.DefaultOff was = was
value_after write.DefaultOn was = was

-- the value of `authorized_default` after it
abbrev pub default_after : Write → Option Bool → Option Bool
default_after write.On was = was
default_after write.Off was = was
default_after write.Remove was = was
default_after write.DefaultOff was = Some false
default_after write.DefaultOn was = Some true

-- a device after a write
abbrev pub written_to : Write → Device → Device
written_to write d =
    record d { on = value_after write d.on; default = default_after write d.default }

-- the held file is of the device of that identity
pub record Holds (k : Kernel) (held i : ℕ) (d : Device) : Type 0 where
  pub file : HeldFile
  pub at : slice_get k.held held ≡ Some file
  pub is : file.device ≡ i
  pub device : slice_get k.devices i ≡ Some d

-- a file of that control is opened by name: it is the next held file, of a device of that name that
-- has it and is live at the effect
pub record IsOpened (name : List ℕ) (control : Control) (held : ℕ) (k l : Kernel) : Type 0 where
  pub i : ℕ
  pub d : Device
  pub live : Live k.devices i d
  pub named : d.name ≡ name
  pub has : has_file control d ≡ true
  pub next : held ≡ length k.held
  pub more : l.held ≡ k.held ++ record { device = i; control = control } ∷ []
  pub devices : l.devices ≡ k.devices
  pub log : l.log ≡ k.log

-- a write has its effect on the held file's device, which is live at the effect: one entry is
-- added, and the value or the default is set
pub record IsWritten (held : ℕ) (write : Write) (k l : Kernel) : Type 0 where
  pub i : ℕ
  pub d : Device
  pub holds : Holds k held i d
  pub live : Live k.devices i d
  pub log : l.log ≡ k.log ++ record { device = i; write = write } ∷ []
  pub now : slice_get l.devices i ≡ Some (written_to write d)
  pub others : (j : ℕ) → (j ≡ i → ⊥) → slice_get l.devices j ≡ slice_get k.devices j
  pub number : length l.devices ≡ length k.devices
  pub files : l.held ≡ k.held

abbrev pub does_open : List ℕ → Control → Opened → Kernel → Kernel → Type 0
does_open name control (opened.Token held) k l = IsOpened name control held.0 k l
does_open name control answer k l = l ≡ k

abbrev pub does_put : ℕ → Write → Wrote → Kernel → Kernel → Type 0
does_put held write wrote.Done k l = IsWritten held write k l
does_put held write wrote.Gone k l = l ≡ k
does_put held write wrote.Failed k l = (l ≡ k) ⊎ IsWritten held write k l

-- the effect of a call, by its answer
abbrev pub DoesCall : (call : Call) → Answer call → Kernel → Kernel → Type 0
DoesCall (Open name control) answer k l = does_open name control answer.answer k l
DoesCall (Put held write) answer k l = does_put held write answer.answer k l
DoesCall Names answer k l = l ≡ k
DoesCall (Read name attr) answer k l = l ≡ k
DoesCall (Ask_alive held) answer k l = l ≡ k
DoesCall (Close held) answer k l = l ≡ k

-- the device of a held file is gone
abbrev pub IsGoneAt : ℕ → Kernel → Type 0
IsGoneAt held l = (i : ℕ) (d : Device) → Holds l held i d → Live l.devices i d → ⊥

-- the device of a held file is live, and has that value
pub record IsAlive (held : ℕ) (on : Bool) (k : Kernel) : Type 0 where
  pub i : ℕ
  pub d : Device
  pub holds : Holds k held i d
  pub live : Live k.devices i d
  pub value : d.on ≡ on

abbrev pub says_listing : Listing → Kernel → Kernel → Type 0
says_listing (listing.Names names) k l =
    ((i : ℕ) (d : Device) → Lived k.devices l.devices i d → Has names d.name) × AllDistinct names
says_listing listing.Failed k l = Unit {0}
says_listing listing.Memory k l = Unit {0}

abbrev pub says_open : Control → List ℕ → Opened → Kernel → Kernel → Type 0
says_open control name opened.Absent k l = NoneHas control name k l
says_open control name answer k l = Unit {0}

-- what was read is the file of each device of the name that lived through the call
abbrev pub IsFile : List ℕ → Attr → ReadOut → Kernel → Kernel → Type 0
IsFile name attr answer k l =
    (i : ℕ) (d : Device) → Lived k.devices l.devices i d → d.name ≡ name → answer ≡ read_of attr d

abbrev pub says_read : List ℕ → Attr → ReadOut → Kernel → Kernel → Type 0
says_read name attr out.Failed k l = Unit {0}
says_read name attr out.Memory k l = Unit {0}
says_read name attr (out.Bytes bytes) k l = IsFile name attr (out.Bytes bytes) k l
says_read name attr out.Absent k l = IsFile name attr out.Absent k l
says_read name attr out.TooLong k l = IsFile name attr out.TooLong k l

abbrev pub says_probe : ℕ → Probe → Kernel → Kernel → Type 0
says_probe held (probe.Alive on) k l = IsAlive held on k
says_probe held probe.Gone k l = IsGoneAt held l
says_probe held probe.Failed k l = Unit {0}

abbrev pub says_put : ℕ → Wrote → Kernel → Kernel → Type 0
says_put held wrote.Done k l = (on : Bool) × IsAlive held on k
says_put held wrote.Gone k l = IsGoneAt held l
says_put held wrote.Failed k l = Unit {0}

-- what an answer says of the kernel at the call's start and at its end
abbrev pub SaysAnswer : (call : Call) → Answer call → Kernel → Kernel → Type 0
SaysAnswer Names answer k l = says_listing answer.answer k l
SaysAnswer (Open name control) answer k l = says_open control name answer.answer k l
SaysAnswer (Read name attr) answer k l = says_read name attr answer.answer k l
SaysAnswer (Ask_alive held) answer k l = says_probe held answer.answer k l
SaysAnswer (Put held write) answer k l = says_put held answer.answer k l
SaysAnswer (Close held) answer k l = Unit {0}

-- a call: moves, its effect, and moves
pub record Called (call : Call) (answer : Answer call) (k l : Kernel) : Type 0 where
  pub before : Kernel
  pub after : Kernel
  pub moves_before : Moves k before
  pub effect : DoesCall call answer before after
  pub moves_after : Moves after l
  pub says : SaysAnswer call answer k l
  pub sound_before : IsKernel before
  pub sound_after : IsKernel after
  pub sound : IsKernel l

-- what a call tells: a kernel was told before it, and where that is sound the call is one of the
-- kernel's
pub record Follows (call : Call) (answer : Answer call) (told : Option Kernel)
    (l : Kernel) : Type 0 where
  pub kernel : Kernel
  pub was : told ≡ Some kernel
  pub called : IsKernel kernel → Called call answer kernel l
