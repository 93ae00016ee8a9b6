-- The order of calls: what is asked, step by step, and where it ends; and that of a binding.
use Rattle.std.specs.Prelude.{◌≡◌, ℕ, Bool, true, false, List, [], ◌∷◌, Option, Some, None, is_some, ◌⊎◌}
use Rattle.ug_types.specs.Names.{parent_of}
use Rattle.ug_kernel.specs.declared.control.Attr.{Attr}
use Rattle.ug_kernel.specs.declared.control.Attr.TheVariants as attr
use Rattle.ug_kernel.specs.declared.control.Control.{Control}
use Rattle.ug_kernel.specs.declared.control.Control.TheVariants.{Authorized}
use Rattle.ug_kernel.specs.declared.control.Write.{Write}
use Rattle.ug_kernel.specs.declared.calls.Opened.{Opened}
use Rattle.ug_kernel.specs.declared.calls.Opened.TheVariants as opened
use Rattle.ug_kernel.specs.declared.calls.Probe.{Probe}
use Rattle.ug_kernel.specs.declared.calls.Probe.TheVariants as probe
use Rattle.ug_kernel.specs.declared.calls.ReadOut.{ReadOut}
use Rattle.ug_kernel.specs.declared.calls.ReadOut.TheVariants as out
use Rattle.ug_kernel.specs.declared.calls.Wrote.{Wrote}
use Rattle.ug_kernel.specs.declared.calls.Wrote.TheVariants as wrote
use Rattle.ug_kernel.specs.Along.{Made, Along}
use Rattle.ug_kernel.specs.Calls.{Call, Names, Open, Read, Ask_alive, Put, Close, Answer}
use Rattle.ug_kernel.specs.declared.identity.Binding.{Binding}
use Rattle.ug_kernel.specs.declared.identity.Binding.TheVariants as bound

-- What a call does. To which of the open files a probe, a write and a closing go isn't said.
pub data Act : Type 0 where
  To_list : Act
  To_open : (name : List ℕ) → (control : Control) → Act
  To_read : (name : List ℕ) → (attr : Attr) → Act
  To_probe : Act
  To_write : (what : Write) → Act
  To_close : Act

abbrev pub act_of : Call → Act
act_of Names = To_list
act_of (Open name control) = To_open name control
act_of (Read name attr) = To_read name attr
act_of (Ask_alive held) = To_probe
act_of (Put held what) = To_write what
act_of (Close held) = To_close

-- Whether more is asked behind an answer: the file was opened; it was read, or is too long, or, but
-- for the descriptors, isn't there; the device is alive; the write was done.

abbrev pub open_leads : Opened → Bool
open_leads (opened.Token held) = true
open_leads opened.Absent = false
open_leads opened.Failed = false
open_leads opened.Memory = false

abbrev pub absent_leads : Attr → Bool
absent_leads attr.Descriptors = false
absent_leads attr.Product = true
absent_leads attr.Serial = true
absent_leads attr.Connect = true

abbrev pub read_leads : ReadOut → Attr → Bool
read_leads (out.Bytes bytes) attr = true
read_leads out.TooLong attr = true
read_leads out.Absent attr = absent_leads attr
read_leads out.Failed attr = false
read_leads out.Memory attr = false

abbrev pub probe_leads : Probe → Bool
probe_leads (probe.Alive on) = true
probe_leads probe.Gone = false
probe_leads probe.Failed = false

abbrev pub write_leads : Wrote → Bool
write_leads wrote.Done = true
write_leads wrote.Gone = false
write_leads wrote.Failed = false

abbrev pub leads_on : (call : Call) → Answer call → Bool
leads_on Names answer = true
leads_on (Open name control) answer = open_leads answer.answer
leads_on (Read name attr) answer = read_leads answer.answer attr
leads_on (Ask_alive held) answer = probe_leads answer.answer
leads_on (Put held what) answer = write_leads answer.answer
leads_on (Close held) answer = true

-- nothing more is asked: files are closed, and that is all
abbrev pub OnlyCloses : List Made → Type 0
OnlyCloses [] = Unit {0}
OnlyCloses (m ∷ ms) = (act_of m.call ≡ To_close) × OnlyCloses ms

-- The calls do just this, in this order. Where an answer doesn't lead on they end there, but for
-- closings; and behind the last of them the rest is of that kind.
abbrev pub GoBy : List Act → (List Made → Type 0) → List Made → Type 0
GoBy [] rest calls = rest calls
GoBy (act ∷ acts) rest [] = ⊥
GoBy (act ∷ acts) rest (m ∷ calls) =
    (act_of m.call ≡ act)
    × (((leads_on m.call m.answer ≡ true) × GoBy acts rest calls)
    ⊎ ((leads_on m.call m.answer ≡ false) × OnlyCloses calls))

-- the first call is a probe, and its answer says of which kind the others are; behind one that
-- failed there are closings alone
abbrev pub BehindProbe : (Bool → List Made → Type 0) → (List Made → Type 0) → Probe → List Made
    → Type 0
BehindProbe alive gone (probe.Alive on) calls = alive on calls
BehindProbe alive gone probe.Gone calls = gone calls
BehindProbe alive gone probe.Failed calls = OnlyCloses calls

abbrev pub ByAnswer : (Bool → List Made → Type 0) → (List Made → Type 0) → (call : Call)
    → Answer call → List Made → Type 0
ByAnswer alive gone (Ask_alive held) answer calls = BehindProbe alive gone answer.answer calls
ByAnswer alive gone Names answer calls = ⊥
ByAnswer alive gone (Open name control) answer calls = ⊥
ByAnswer alive gone (Read name attr) answer calls = ⊥
ByAnswer alive gone (Put held what) answer calls = ⊥
ByAnswer alive gone (Close held) answer calls = ⊥

abbrev pub GoByProbe : (Bool → List Made → Type 0) → (List Made → Type 0) → List Made
    → Type 0
GoByProbe alive gone [] = ⊥
GoByProbe alive gone (m ∷ calls) = ByAnswer alive gone m.call m.answer calls

-- a binding

-- what is read of a parent
abbrev pub parent_acts : Option (List ℕ) → List Act
parent_acts None = []
parent_acts (Some parent) =
    To_read parent attr.Descriptors
    ∷ To_read parent attr.Product
    ∷ To_read parent attr.Serial
    ∷ []

-- a device's own files, before what is read else
abbrev pub own_acts : List ℕ → List Act → List Act
own_acts name rest =
    To_open name Authorized
    ∷ To_read name attr.Descriptors
    ∷ To_read name attr.Product
    ∷ To_read name attr.Serial
    ∷ To_read name attr.Connect
    ∷ rest

-- before its probe
abbrev pub bind_acts : List ℕ → List Act
bind_acts name = own_acts name (parent_acts (parent_of name))

-- it is bound with the value that was found, and nothing is called behind that
abbrev pub IsBoundOn : Binding → Bool → List Made → Type 0
IsBoundOn (bound.Bound b) on calls = (b.on ≡ on) × (calls ≡ [])
IsBoundOn bound.Absent on calls = ⊥
IsBoundOn bound.Vanished on calls = ⊥
IsBoundOn (bound.Failed failed) on calls = ⊥
IsBoundOn bound.Memory on calls = ⊥

-- The calls of a binding: the acts before its probe, in their order, and the probe; where that
-- finds the device alive, it is bound.
pub record BindsInOrder {S : Type 0} (gives : S → (call : Call) → Answer call → S → Type 0) (s : S)
    (name : List ℕ) (r : Binding) (t : S) : Type 0 where
  pub made : List Made
  pub along : Along gives s made t
  pub order : GoBy (bind_acts name) (GoByProbe (IsBoundOn r) OnlyCloses) made

-- where the parent is held

-- whether a bound device has the attributes of its parent
abbrev pub HasParentFiles : Bool → Binding → Type 0
HasParentFiles has (bound.Bound b) = is_some b.parent ≡ has
HasParentFiles has bound.Absent = Unit {0}
HasParentFiles has bound.Vanished = Unit {0}
HasParentFiles has (bound.Failed failed) = Unit {0}
HasParentFiles has bound.Memory = Unit {0}

-- The parent's files are read, and told, just where its held file isn't found alive; then comes the
-- last probe.
abbrev pub BehindAsked : List ℕ → Binding → Probe → List Made → Type 0
BehindAsked name r (probe.Alive on) calls =
    HasParentFiles false r × GoByProbe (IsBoundOn r) OnlyCloses calls
BehindAsked name r probe.Gone calls =
    HasParentFiles true r
    × GoBy (parent_acts (parent_of name)) (GoByProbe (IsBoundOn r) OnlyCloses) calls
BehindAsked name r probe.Failed calls =
    HasParentFiles true r
    × GoBy (parent_acts (parent_of name)) (GoByProbe (IsBoundOn r) OnlyCloses) calls

-- the first call is the probe of that file
abbrev pub ByAsked : List ℕ → ℕ → Binding → (call : Call) → Answer call → List Made → Type 0
ByAsked name kept r (Ask_alive held) answer calls =
    (held ≡ kept) × BehindAsked name r answer.answer calls
ByAsked name kept r Names answer calls = ⊥
ByAsked name kept r (Open of control) answer calls = ⊥
ByAsked name kept r (Read of attr) answer calls = ⊥
ByAsked name kept r (Put held what) answer calls = ⊥
ByAsked name kept r (Close held) answer calls = ⊥

abbrev pub GoByAsked : List ℕ → ℕ → Binding → List Made → Type 0
GoByAsked name kept r [] = ⊥
GoByAsked name kept r (m ∷ calls) = ByAsked name kept r m.call m.answer calls

pub record BindsUnderInOrder {S : Type 0} (gives : S → (call : Call) → Answer call → S → Type 0)
    (s : S)
    (name : List ℕ) (kept : ℕ) (r : Binding) (t : S) : Type 0 where
  pub made : List Made
  pub along : Along gives s made t
  pub order : GoBy (own_acts name []) (GoByAsked name kept r) made
