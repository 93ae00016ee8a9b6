-- The order of the calls in one name's part of a sweep, and behind the probe of an order. To which
-- of the open files a call goes, `IsAbout` says.
use Rattle.std.specs.Prelude.{◌≡◌, ℕ, Bool, true, false, List, [], ◌∷◌, ◌++◌, Option, Some, None}
use Rattle.ug_types.specs.Elements.{Has}
use Rattle.ug_kernel.specs.declared.control.Write.{Write}
use Rattle.ug_kernel.specs.declared.control.Write.TheVariants as write
use Rattle.ug_types.specs.Names.{parent_of}
use Rattle.ug_kernel.specs.Along.{Made}
use Rattle.ug_kernel.specs.Calls.{Call, Names, Open, Read, Ask_alive, Put, Close, Answer}
use Rattle.ug_kernel.specs.declared.calls.Probe.{Probe}
use Rattle.ug_kernel.specs.declared.calls.Probe.TheVariants as probe
use Rattle.ug_kernel.specs.CallOrder.{Act, To_open, To_probe, To_write, To_close, OnlyCloses, GoBy, GoByProbe, bind_acts, own_acts, parent_acts}
use Rattle.ug_audit.specs.declared.entry.Entry.{Entry}
use Rattle.ug_audit.specs.declared.entry.Entry.TheVariants as entry
use Rattle.ug_audit.specs.declared.entry.Fault.TheVariants as fault
use Rattle.ug_table.specs.Bring.{wants, is_to_go, default_due}
use Rattle.ug_table.specs.Done.{control_of}
use Rattle.ug_table.specs.declared.standing.Known.{Known}

-- the writes

-- a file that is opened for one write: before that the device is probed again, and behind it the
-- file is closed
abbrev pub once_acts : List ℕ → Write → List Act
once_acts name what =
    To_open name (control_of what) ∷ To_probe ∷ To_write what ∷ To_close ∷ []

-- to the default of a root hub, where it is still to be made
abbrev pub default_acts : List ℕ → Option Write → List Act
default_acts name None = []
default_acts name (Some what) = once_acts name what

-- of the value that is wanted, where another was found
abbrev pub value_acts : Bool → Bool → List Act
value_acts true true = []
value_acts true false = To_write write.On ∷ []
value_acts false true = To_write write.Off ∷ []
value_acts false false = []

-- of the removal, where a rejected device wasn't removed yet
abbrev pub removal_acts : List ℕ → Bool → List Act
removal_acts name true = once_acts name write.Remove
removal_acts name false = []

-- those of a verdict, on a device that was found with that value
abbrev pub verdict_acts : List ℕ → Known → Bool → List Act
verdict_acts name known on =
    value_acts (wants known.verdict) on ++ removal_acts name (is_to_go known)

-- and all in a sweep
abbrev pub write_acts : Option Write → List ℕ → Known → Bool → List Act
write_acts hub name known on =
    default_acts name (default_due hub name known) ++ verdict_acts name known on

-- a new name

-- the standing that the first verdict among entries makes
abbrev pub told_known : List Entry → Option Known
told_known [] = None
told_known (entry.Judged number name held verdict cause ∷ es) = Some (record {
  number = number;
  held = held;
  verdict = verdict;
  removed = false;
  defaulted = false;
})
told_known (e ∷ es) = told_known es

-- behind the probe that ends its binding: the writes of the verdict that is told; or there was no
-- memory for it, as is told
abbrev pub GoByVerdict : Option Write → List ℕ → List Entry → Option Known → Bool → List Made
    → Type 0
GoByVerdict hub name entries (Some known) on calls =
    GoBy (write_acts hub name known on) OnlyCloses calls
GoByVerdict hub name entries None on calls =
    Has entries (entry.Unsettled name fault.Memory) × OnlyCloses calls

-- behind the probe of the parent's held file: the parent's files are read just where it wasn't
-- found alive, a failed probe included
abbrev pub GoBehindParent : List ℕ → (List Made → Type 0) → Probe → List Made → Type 0
GoBehindParent name rest (probe.Alive on) calls = rest calls
GoBehindParent name rest probe.Gone calls = GoBy (parent_acts (parent_of name)) rest calls
GoBehindParent name rest probe.Failed calls = GoBy (parent_acts (parent_of name)) rest calls

-- the call is that probe
abbrev pub ProbesParent : List ℕ → ℕ → (List Made → Type 0) → (call : Call) → Answer call
    → List Made → Type 0
ProbesParent name kept rest (Ask_alive held) answer calls =
    (held ≡ kept) × GoBehindParent name rest answer.answer calls
ProbesParent name kept rest Names answer calls = ⊥
ProbesParent name kept rest (Open of control) answer calls = ⊥
ProbesParent name kept rest (Read of attr) answer calls = ⊥
ProbesParent name kept rest (Put held what) answer calls = ⊥
ProbesParent name kept rest (Close held) answer calls = ⊥

abbrev pub GoByParent : List ℕ → ℕ → (List Made → Type 0) → List Made → Type 0
GoByParent name kept rest [] = ⊥
GoByParent name kept rest (m ∷ calls) = ProbesParent name kept rest m.call m.answer calls

-- before the probe that ends a binding: the name's own files, and its parent's; where that has a
-- held file, it is probed in between
abbrev pub GoByFiles : List ℕ → Option ℕ → (List Made → Type 0) → List Made → Type 0
GoByFiles name None rest calls = GoBy (bind_acts name) rest calls
GoByFiles name (Some kept) rest calls = GoBy (own_acts name []) (GoByParent name kept rest) calls

abbrev pub GoAsNew : Option Write → List ℕ → Option ℕ → List Entry → List Made → Type 0
GoAsNew hub name kept entries calls =
    let behind = GoByVerdict hub name entries (told_known entries) in
    GoByFiles name kept (GoByProbe behind OnlyCloses) calls

-- a name without a standing is bound; or, where the listing didn't succeed, nothing is asked
abbrev pub GoWhereBound : Bool → Option Write → List ℕ → Option ℕ → List Entry → List Made → Type 0
GoWhereBound true hub name kept entries calls = GoAsNew hub name kept entries calls
GoWhereBound false hub name kept entries calls = calls ≡ []

-- The part of a name whose parent has that held file, or none, and that has that standing before
-- it, or none: a known device is probed, and written to by its verdict; where it is gone its file
-- is closed, and then the name has none.
abbrev pub GoInOrder : Bool → Option Write → List ℕ → Option ℕ → Option Known → List Entry
    → List Made → Type 0
GoInOrder binds hub name kept (Some known) entries calls =
    GoByProbe (λ on. GoBy (write_acts hub name known on) OnlyCloses)
    (GoBy (To_close ∷ []) (GoWhereBound binds hub name kept entries)) calls
GoInOrder binds hub name kept None entries calls =
    GoWhereBound binds hub name kept entries calls
