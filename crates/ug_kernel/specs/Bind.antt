-- The calls that bind a name, in order: open, read, read the parent's, probe.
use Rattle.std.specs.Prelude.{ℕ, List, Option, Some, None, Result, Ok, Err}
use Rattle.ug_types.specs.declared.record.Attrs.{Attrs}
use Rattle.ug_kernel.specs.declared.control.Control.TheVariants.{Authorized}
use Rattle.ug_kernel.specs.declared.calls.Opened.{Opened}
use Rattle.ug_kernel.specs.declared.calls.Opened.TheVariants as opened
use Rattle.ug_kernel.specs.declared.calls.Probe.{Probe}
use Rattle.ug_kernel.specs.declared.calls.Probe.TheVariants as probe
use Rattle.ug_kernel.specs.declared.calls.FailedCall.{FailedCall}
use Rattle.ug_kernel.specs.Calls.{Open, Ask_alive, Close}
use Rattle.ug_kernel.specs.Along.{failure_of}
use Rattle.ug_kernel.specs.Tree.{Prog, Return, Ask, then}
use Rattle.ug_kernel.specs.Files.{reading_own, reading_parent}
use Rattle.ug_kernel.specs.declared.files.OwnFiles.{OwnFiles}
use Rattle.ug_kernel.specs.declared.files.Stop.{Stop}
use Rattle.ug_kernel.specs.declared.files.Stop.TheVariants as stop
use Rattle.ug_kernel.specs.declared.identity.Binding.{Binding}
use Rattle.ug_kernel.specs.declared.identity.Binding.TheVariants as bound

abbrev pub binding_of : Stop → Binding
binding_of stop.Vanished = bound.Vanished
binding_of (stop.Fault failed) = bound.Failed failed
binding_of stop.Memory = bound.Memory

-- the held file is closed, and that is all
abbrev pub closing : ℕ → Binding → Prog Binding
closing held answer = Ask (Close held) (λ closed. Return answer)

abbrev pub after_probe : ℕ → OwnFiles → Option Attrs → Probe → FailedCall → Prog Binding
after_probe held own parent (probe.Alive on) failed =
    Return (bound.Bound (record {
      held = record { 0 = held };
      attrs = own.attrs;
      core_long = own.core_long;
      parent = parent;
      on = on;
    }))
after_probe held own parent probe.Gone failed = closing held bound.Vanished
after_probe held own parent probe.Failed failed = closing held (bound.Failed failed)

abbrev pub asking_alive : ℕ → OwnFiles → Option Attrs → Prog Binding
asking_alive held own parent =
    Ask (Ask_alive held) (λ t. after_probe held own parent t.answer (failure_of t))

abbrev pub after_parent : ℕ → OwnFiles → Result Attrs Stop → Prog Binding
after_parent held own (Ok parent) = asking_alive held own (Some parent)
after_parent held own (Err why) = Return (binding_of why)

abbrev pub to_parent : ℕ → OwnFiles → Option (List ℕ) → Prog Binding
to_parent held own None = asking_alive held own None
to_parent held own (Some parent) = then (reading_parent parent held) (after_parent held own)

abbrev pub after_own : ℕ → Option (List ℕ) → Result OwnFiles Stop → Prog Binding
after_own held parent (Ok own) = to_parent held own parent
after_own held parent (Err why) = Return (binding_of why)

abbrev pub after_open : List ℕ → Option (List ℕ) → Opened → FailedCall → Prog Binding
after_open name parent (opened.Token held) failed =
    then (reading_own name held.0) (after_own held.0 parent)
after_open name parent opened.Absent failed = Return bound.Absent
after_open name parent opened.Failed failed = Return (bound.Failed failed)
after_open name parent opened.Memory failed = Return bound.Memory

-- a name, with its parent's
unfoldable pub binding : List ℕ → Option (List ℕ) → Prog Binding
binding name parent =
    Ask (Open name Authorized) (λ t. after_open name parent t.answer (failure_of t))

-- The parent's files are read only where its held file isn't found alive. A failure of that probe
-- isn't told.
abbrev pub after_asking : ℕ → OwnFiles → List ℕ → Probe → Prog Binding
after_asking held own parent (probe.Alive on) = asking_alive held own None
after_asking held own parent probe.Gone =
    then (reading_parent parent held) (after_parent held own)
after_asking held own parent probe.Failed =
    then (reading_parent parent held) (after_parent held own)

abbrev pub asking_parent : ℕ → OwnFiles → List ℕ → ℕ → Prog Binding
asking_parent held own parent kept =
    Ask (Ask_alive kept) (λ t. after_asking held own parent t.answer)

abbrev pub after_own_under : ℕ → List ℕ → ℕ → Result OwnFiles Stop → Prog Binding
after_own_under held parent kept (Ok own) = asking_parent held own parent kept
after_own_under held parent kept (Err why) = Return (binding_of why)

abbrev pub after_open_under : List ℕ → List ℕ → ℕ → Opened → FailedCall → Prog Binding
after_open_under name parent kept (opened.Token held) failed =
    then (reading_own name held.0) (after_own_under held.0 parent kept)
after_open_under name parent kept opened.Absent failed = Return bound.Absent
after_open_under name parent kept opened.Failed failed = Return (bound.Failed failed)
after_open_under name parent kept opened.Memory failed = Return bound.Memory

-- a name whose parent's `authorized` file is held
unfoldable pub binding_under : List ℕ → List ℕ → ℕ → Prog Binding
binding_under name parent kept =
    Ask (Open name Authorized) (λ t. after_open_under name parent kept t.answer (failure_of t))
