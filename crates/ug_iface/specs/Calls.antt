-- The calls of the interfaces' files, and what each may be answered.
use Rattle.std.specs.Prelude.{◌≡◌, ℕ, ◌≤◌, Bool, true, false, List, length}
use Rattle.ug_types.specs.Elements.{Has, AllDistinct}
use Rattle.ug_kernel.specs.Calls.{ToldAnswer, Closing, Counted, is_probe_failed, failed_put}
use Rattle.ug_kernel.specs.declared.calls.Probe.{Probe}
use Rattle.ug_kernel.specs.declared.calls.Wrote.{Wrote}
use Rattle.ug_iface.specs.declared.name.IfaceName.{IfaceName}
use Rattle.ug_iface.specs.declared.calls.IfaceListing.{IfaceListing}
use Rattle.ug_iface.specs.declared.calls.IfaceListing.TheVariants as listing
use Rattle.ug_iface.specs.declared.calls.IfaceOpened.{IfaceOpened}
use Rattle.ug_iface.specs.declared.calls.IfaceOpened.TheVariants as opened
use Rattle.ug_iface.specs.declared.calls.IfaceRead.{IfaceRead}
use Rattle.ug_iface.specs.declared.calls.IfaceRead.TheVariants as read

pub data IfaceCall : Type 0 where
  -- the interfaces of a device
  Names_of : (name : List ℕ) → IfaceCall
  Open : (name : IfaceName) → IfaceCall
  Read : (name : IfaceName) → IfaceCall
  -- this goes to a held file of a device
  Ask_device : (held : ℕ) → IfaceCall
  -- and these go to a held file of an interface
  Ask : (held : ℕ) → IfaceCall
  Put_off : (held : ℕ) → IfaceCall
  Close : (held : ℕ) → IfaceCall

abbrev pub IfaceAnswer : IfaceCall → Type 0
IfaceAnswer (Names_of name) = ToldAnswer IfaceListing
IfaceAnswer (Open name) = ToldAnswer IfaceOpened
IfaceAnswer (Read name) = ToldAnswer IfaceRead
IfaceAnswer (Ask_device held) = ToldAnswer Probe
IfaceAnswer (Ask held) = ToldAnswer Probe
IfaceAnswer (Put_off held) = ToldAnswer Wrote
IfaceAnswer (Close held) = Closing

abbrev pub failed_iface_listing : IfaceListing → Bool
failed_iface_listing listing.Failed = true
failed_iface_listing answer = false

abbrev pub failed_iface_open : IfaceOpened → Bool
failed_iface_open opened.Failed = true
failed_iface_open answer = false

abbrev pub failed_iface_read : IfaceRead → Bool
failed_iface_read read.Failed = true
failed_iface_read answer = false

-- each call is counted, and each failure; closing isn't
abbrev pub CountsIface : (call : IfaceCall) → IfaceAnswer call → ℕ → ℕ → ℕ → ℕ → Type 0
CountsIface (Names_of name) a c f d g = Counted failed_iface_listing a c f d g
CountsIface (Open name) a c f d g = Counted failed_iface_open a c f d g
CountsIface (Read name) a c f d g = Counted failed_iface_read a c f d g
CountsIface (Ask_device held) a c f d g = Counted is_probe_failed a c f d g
CountsIface (Ask held) a c f d g = Counted is_probe_failed a c f d g
CountsIface (Put_off held) a c f d g = Counted failed_put a c f d g
CountsIface (Close held) a c f d g = (d ≡ c) × (g ≡ f)

-- no more names than interfaces of a device may be live
abbrev pub HasFewIfaces : IfaceListing → Type 0
HasFewIfaces (listing.Names names) = length names ≤ 1024
HasFewIfaces listing.Absent = Unit {0}
HasFewIfaces listing.Failed = Unit {0}
HasFewIfaces listing.Memory = Unit {0}

abbrev pub AllOf : List ℕ → List IfaceName → Type 0
AllOf device names = (name : IfaceName) → Has names name → name.device ≡ device

-- each name is of an interface of that device
abbrev pub AreOf : List ℕ → IfaceListing → Type 0
AreOf device (listing.Names names) = AllOf device names
AreOf device listing.Absent = Unit {0}
AreOf device listing.Failed = Unit {0}
AreOf device listing.Memory = Unit {0}

-- no name stands twice
abbrev pub AreDistinctIfaces : IfaceListing → Type 0
AreDistinctIfaces (listing.Names names) = AllDistinct names
AreDistinctIfaces listing.Absent = Unit {0}
AreDistinctIfaces listing.Failed = Unit {0}
AreDistinctIfaces listing.Memory = Unit {0}
