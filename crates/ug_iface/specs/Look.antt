-- The calls by which an interface is looked at.
use Rattle.std.specs.Prelude.{ℕ}
use Rattle.ug_types.specs.declared.record.Triple.{Triple}
use Rattle.ug_kernel.specs.declared.calls.Probe.{Probe}
use Rattle.ug_kernel.specs.declared.calls.Probe.TheVariants as probe
use Rattle.ug_iface.specs.declared.name.IfaceName.{IfaceName}
use Rattle.ug_iface.specs.declared.calls.IfaceHeld.{IfaceHeld}
use Rattle.ug_iface.specs.declared.calls.IfaceOpened.{IfaceOpened}
use Rattle.ug_iface.specs.declared.calls.IfaceOpened.TheVariants as opened
use Rattle.ug_iface.specs.declared.calls.IfaceRead.{IfaceRead}
use Rattle.ug_iface.specs.declared.calls.IfaceRead.TheVariants as read
use Rattle.ug_iface.specs.declared.look.Look.{Look}
use Rattle.ug_iface.specs.declared.look.Look.TheVariants as look
use Rattle.ug_iface.specs.Calls.{Open, Read, Ask_device, Ask, Close}
use Rattle.ug_iface.specs.Tree.{IfaceProg, Return, Make}

-- the opened file is closed, and that is all
abbrev pub closing_iface : IfaceHeld → Look → IfaceProg Look
closing_iface file answer = Make (Close file.0) (λ closed. Return answer)

abbrev pub after_ask : IfaceHeld → Triple → Probe → ℕ → IfaceProg Look
after_ask file triple (probe.Alive on) count = Return (look.Here file triple on)
after_ask file triple probe.Gone count = closing_iface file look.Absent
after_ask file triple probe.Failed count = closing_iface file (look.Failed count)

abbrev pub asking_iface : IfaceHeld → Triple → IfaceProg Look
asking_iface file triple = Make (Ask file.0) (λ t. after_ask file triple t.answer t.count)

abbrev pub after_device : IfaceHeld → Triple → Probe → ℕ → IfaceProg Look
after_device file triple (probe.Alive on) count = asking_iface file triple
after_device file triple probe.Gone count = closing_iface file look.Gone
after_device file triple probe.Failed count = closing_iface file (look.Failed count)

abbrev pub asking_device : ℕ → IfaceHeld → Triple → IfaceProg Look
asking_device held file triple =
    Make (Ask_device held) (λ t. after_device file triple t.answer t.count)

abbrev pub after_iface_read : ℕ → IfaceHeld → IfaceRead → ℕ → IfaceProg Look
after_iface_read held file (read.Is triple) count = asking_device held file triple
after_iface_read held file read.Absent count = closing_iface file look.Absent
after_iface_read held file read.Failed count = closing_iface file (look.Failed count)

abbrev pub reading_iface : IfaceName → ℕ → IfaceHeld → IfaceProg Look
reading_iface name held file = Make (Read name) (λ t. after_iface_read held file t.answer t.count)

abbrev pub after_iface_open : IfaceName → ℕ → IfaceOpened → ℕ → IfaceProg Look
after_iface_open name held (opened.Token file) count = reading_iface name held file
after_iface_open name held opened.Absent count = Return look.Absent
after_iface_open name held opened.Failed count = Return (look.Failed count)
after_iface_open name held opened.Memory count = Return look.Memory

-- the calls, in order: its file is opened by name, its type is read by name, and then device and
-- interface are probed
abbrev pub looking : IfaceName → ℕ → IfaceProg Look
looking name held = Make (Open name) (λ t. after_iface_open name held t.answer t.count)
