-- The opening of a second file of the device behind a held file, and what it says: the file is that
-- very device's.
use Rattle.std.specs.Prelude.{◌≡◌, ℕ, List, Option, Some, slice_get}
use Rattle.ug_kernel.specs.declared.control.Held.{Held}
use Rattle.ug_kernel.specs.declared.device.Device.{Device}
use Rattle.ug_kernel.specs.declared.control.Control.{Control}
use Rattle.ug_kernel.specs.declared.control.Control.TheVariants.{Authorized}
use Rattle.ug_kernel.specs.declared.calls.Opened.{Opened}
use Rattle.ug_kernel.specs.declared.calls.Opened.TheVariants as opened
use Rattle.ug_kernel.specs.declared.calls.Probe.{Probe}
use Rattle.ug_kernel.specs.declared.calls.Probe.TheVariants as probe
use Rattle.ug_kernel.specs.declared.calls.FailedCall.{FailedCall}
use Rattle.ug_kernel.specs.Calls.{Open, Ask_alive, Close}
use Rattle.ug_kernel.specs.Along.{failure_of}
use Rattle.ug_kernel.specs.Kernel.{Kernel, IsKernel}
use Rattle.ug_kernel.specs.Called.{IsGoneAt}
use Rattle.ug_kernel.specs.Quiet.{Quiet}
use Rattle.ug_kernel.specs.Tree.{Prog, Return, Ask}
use Rattle.ug_kernel.specs.Bound.{IsFault}
use Rattle.ug_kernel.specs.declared.removal.RemoveHold.{RemoveHold}
use Rattle.ug_kernel.specs.declared.removal.RemoveHold.TheVariants as hold

-- the opened file is closed, and that is all
abbrev pub closing_file : Held → RemoveHold → Prog RemoveHold
closing_file file answer = Ask (Close file.0) (λ closed. Return answer)

abbrev pub after_hold_probe : Held → Probe → FailedCall → Prog RemoveHold
after_hold_probe file (probe.Alive on) failed = Return (hold.Ready file)
after_hold_probe file probe.Gone failed = closing_file file hold.Gone
after_hold_probe file probe.Failed failed = closing_file file (hold.Failed failed)

abbrev pub after_hold_open : ℕ → Opened → FailedCall → Prog RemoveHold
after_hold_open held (opened.Token file) failed =
    Ask (Ask_alive held) (λ t. after_hold_probe file t.answer (failure_of t))
after_hold_open held opened.Absent failed = Return hold.Gone
after_hold_open held opened.Failed failed = Return (hold.Failed failed)
after_hold_open held opened.Memory failed = Return hold.Memory

-- the calls, in order: the second file is opened by name, and the held file is probed
unfoldable pub holding : Control → List ℕ → ℕ → Prog RemoveHold
holding control name held =
    Ask (Open name control) (λ t. after_hold_open held t.answer (failure_of t))

-- the held file is the `authorized` of the device of that identity, which has that name
pub record IsAuthorizedFile (k : Kernel) (name : List ℕ) (held i : ℕ) : Type 0 where
  pub d : Device
  pub file : slice_get k.held held ≡ Some (record { device = i; control = Authorized })
  pub device : slice_get k.devices i ≡ Some d
  pub named : d.name ≡ name

-- the answer has the file of that device, or the device of the held file is gone
abbrev pub HoldSays : Control → ℕ → ℕ → Kernel → RemoveHold → Type 0
HoldSays control held i l (hold.Ready file) =
    slice_get l.held file.0 ≡ Some (record { device = i; control = control })
HoldSays control held i l hold.Gone = IsGoneAt held l
HoldSays control held i l (hold.Failed failed) = Unit {0}
HoldSays control held i l hold.Memory = Unit {0}

-- nothing is written, and the answer says that of the device of that identity
pub record IsHold (control : Control) (held i : ℕ) (k l : Kernel)
    (answer : RemoveHold) : Type 0 where
  pub sound : IsKernel l
  pub quiet : Quiet k l
  pub says : HoldSays control held i l answer

-- where a kernel is told at the end, one was told at the start; and where that was sound and the
-- held file was the `authorized` of a device of that name, this is so
abbrev pub HoldsFile : {S : Type 0} → (S → Option Kernel) → Control → S → List ℕ → ℕ → RemoveHold
    → S → Type 0
HoldsFile told control s name held answer t =
    (l : Kernel) → told t ≡ Some l
    → (k : Kernel) × (told s ≡ Some k)
    × (IsKernel k → (i : ℕ) → IsAuthorizedFile k name held i → IsHold control held i k l answer)

-- a failed answer has the numbers of a fault
abbrev pub TellsHoldFault : ℕ → ℕ → ℕ → RemoveHold → Type 0
TellsHoldFault faults calls_after faults_after (hold.Failed failed) =
    IsFault faults calls_after faults_after failed
TellsHoldFault faults calls_after faults_after answer = Unit {0}
