-- What a sweep does, in the words of devices and journal.
use Rattle.std.specs.Prelude.{◌≡◌, ℕ, ◌+◌, ◌<◌, Bool, true, false, is_none, map, List, [], ◌∷◌, ◌++◌, Option, Some, None, ◌⊎◌, slice_get}
use Rattle.ug_types.specs.Elements.{Has, AllDistinct}
use Rattle.std.specs.Ordering.{is_lt}
use Rattle.ug_types.specs.Names.{parent_of, sweep_cmp}
use Rattle.ug_types.specs.declared.record.Attrs.{Attrs}
use Rattle.ug_types.specs.declared.record.Judged.{Judged}
use Rattle.ug_kernel.specs.declared.control.Held.{Held}
use Rattle.ug_types.specs.declared.verdict.Target.{Target}
use Rattle.ug_types.specs.declared.verdict.Target.TheVariants as target
use Rattle.ug_types.specs.declared.verdict.Cause.{Cause}
use Rattle.ug_kernel.specs.declared.device.Device.{Device}
use Rattle.ug_kernel.specs.declared.device.Effect.{Effect}
use Rattle.ug_kernel.specs.declared.control.Control.TheVariants.{Authorized, Default}
use Rattle.ug_kernel.specs.declared.control.Write.{Write}
use Rattle.ug_kernel.specs.declared.control.Write.TheVariants as write
use Rattle.ug_kernel.specs.declared.calls.Wrote.{Wrote}
use Rattle.ug_kernel.specs.declared.calls.Wrote.TheVariants as wrote
use Rattle.ug_kernel.specs.Kernel.{Kernel, IsKernel}
use Rattle.ug_kernel.specs.Called.{Lived}
use Rattle.ug_kernel.specs.Quiet.{Grows}
use Rattle.ug_kernel.specs.Defaults.{default_at, set_by}
use Rattle.ug_record.specs.Records.{child_hash_of, judged_of}
use Rattle.ug_kernel.specs.Bound.{attrs_of, is_core_long, IsParentRead, LivedUntilProbe}
use Rattle.ug_audit.specs.declared.entry.Entry.{Entry}
use Rattle.ug_audit.specs.declared.entry.Entry.TheVariants as entry
use Rattle.ug_audit.specs.declared.entry.Fault.{Fault}
use Rattle.ug_audit.specs.declared.entry.Fault.TheVariants as fault
use Rattle.ug_kernel.specs.declared.control.Control.{Control}
use Rattle.ug_table.specs.Done.{control_of, IsOnce, is_done}
use Rattle.ug_table.specs.Bring.{wants, CallsFor, default_write, NeedsMemory}
use Rattle.ug_table.specs.Standings.{known_of}
use Rattle.ug_table.specs.State.{State, Answers, Laters, Terms, terms_for}
use Rattle.ug_table.specs.Sweep.{names_of}
use Rattle.ug_table.specs.declared.standing.Standing.{Standing}

-- what is known of the device d from its own files and its parent's
abbrev pub IsRecordOf : Kernel → Device → Judged → Type 0
IsRecordOf k d judged =
    (parent : Option Attrs) × IsParentRead k d.parent parent
    × (judged ≡ judged_of d.name (attrs_of d) parent)

-- the held file is that very device's `authorized`, the name is its, and the record is that of its
-- files and its parent's
pub record IsDevice (k : Kernel) (i : ℕ) (name : List ℕ) (held : Held) (judged : Judged) : Type 0
  where
    pub d : Device
    pub device : slice_get k.devices i ≡ Some d
    pub file : slice_get k.held held.0 ≡ Some (record { device = i; control = Authorized })
    pub named : d.name ≡ name
    pub of : IsRecordOf k d judged

-- the device of that identity is gone
abbrev pub IsGone : Kernel → ℕ → Type 0
IsGone k i = (d : Device) × (slice_get k.devices i ≡ Some d) × (d.gone ≡ true)

-- Between the kernels start and now are an opening of that held file by that name, at which the
-- device of that identity was live, and the same moment or a later one, at which it was live and
-- had that value, with no write in between. Where the device was there at the start, it is the
-- value that it had then.
pub record IsProbed (start now : Kernel) (name : List ℕ) (held i : ℕ) (on : Bool) : Type 0 where
  pub first : Kernel
  pub last : Kernel
  pub since : Grows start first
  pub lived : LivedUntilProbe name first last held i on
  pub until : Grows last now
  pub met : (d : Device) → slice_get start.devices i ≡ Some d → d.on ≡ on

abbrev pub numbers_of : List Standing → List ℕ
numbers_of ss = map (λ s. s.number) ss

-- the log has a write to that file of the device of that held file
abbrev pub HasDone : Control → Kernel → Held → Type 0
HasDone control k held =
    (i : ℕ) → slice_get k.held held.0 ≡ Some (record { device = i; control = Authorized })
    → (what : Write) × (control_of what ≡ control) × Has k.log (record { device = i; write = what })

-- whether the part of the first name has come to its end where that of the second begins
abbrev pub Tries : Type 0
Tries = List ℕ → List ℕ → Bool

-- in a sweep, where the first comes before the second
abbrev pub swept_before : Tries
swept_before a b = is_lt (sweep_cmp a b)

-- where one name alone is settled
abbrev pub none_before : Tries
none_before a b = false

-- each name comes before those behind it
abbrev pub AreInOrder : List (List ℕ) → Type 0
AreInOrder [] = Unit {0}
AreInOrder (name ∷ names) =
    ((other : List ℕ) → Has names other → swept_before name other ≡ true) × AreInOrder names

-- the standing's hash is the one that the children of its device see: of that device's own files
abbrev pub HasHash : Kernel → Standing → Type 0
HasHash k s = (i : ℕ) (d : Device)
    → slice_get k.held s.held.0 ≡ Some (record { device = i; control = Authorized })
    → slice_get k.devices i ≡ Some d → s.hash ≡ child_hash_of (attrs_of d) (is_core_long d)

-- each standing is of a device, and has the hash that its children see; its number was given out,
-- no name and no number has two, and they are in sweep order; and what one is marked with was done
pub record Stand (k : Kernel) (ss : List Standing) (next : ℕ) : Type 0 where
  pub devices : (s : Standing) → Has ss s → (i : ℕ) × IsDevice k i s.name s.held s.judged
  pub hashes : (s : Standing) → Has ss s → HasHash k s
  pub numbers : (s : Standing) → Has ss s → s.number < next
  pub names : AllDistinct (names_of ss)
  pub order : AreInOrder (names_of ss)
  pub distinct : AllDistinct (numbers_of ss)
  pub done : (control : Control) → (s : Standing) → Has ss s → is_done control s ≡ true
      → HasDone control k s.held

-- each device whose standing is marked as one whose default was written has the default that is
-- written to root hubs
abbrev pub AreDefaulted : Option Write → Kernel → List Standing → Type 0
AreDefaulted hub k ss =
    (s : Standing) → Has ss s → s.defaulted ≡ true → (i : ℕ)
    → slice_get k.held s.held.0 ≡ Some (record { device = i; control = Authorized })
    → (what : Write) → default_write hub ≡ Some what → default_at i k ≡ set_by what

-- an entry that tells no verdict, no write and no end of a standing
abbrev pub TellsNeither : Entry → Type 0
TellsNeither (entry.Judged number name held verdict cause) = ⊥
TellsNeither (entry.Intent number name what) = ⊥
TellsNeither (entry.Wrote number name what outcome) = ⊥
TellsNeither (entry.Gone number name) = ⊥
TellsNeither e = Unit {0}

-- whether a write of that outcome may have had its effect, and whether it may not
abbrev pub MayHave : Wrote → Type 0
MayHave wrote.Done = Unit {0}
MayHave wrote.Gone = ⊥
MayHave wrote.Failed = Unit {0}

abbrev pub MayHaveNot : Wrote → Type 0
MayHaveNot wrote.Done = ⊥
MayHaveNot wrote.Gone = Unit {0}
MayHaveNot wrote.Failed = Unit {0}

-- the number has that verdict: by a standing from before, or by an entry since
abbrev pub HasVerdict : List Standing → List Entry → ℕ → List ℕ → Held → Target → Type 0
HasVerdict before entries number name held verdict =
    ((s : Standing) × Has before s × (s.number ≡ number) × (s.name ≡ name) × (s.held ≡ held)
    × (s.verdict ≡ verdict))
    ⊎ ((cause : Cause) × Has entries (entry.Judged number name held verdict cause))

-- the two entries of a write
abbrev pub wrote_entries : ℕ → List ℕ → Write → Wrote → List Entry
wrote_entries number name what outcome =
    entry.Intent number name what ∷ entry.Wrote number name what outcome ∷ []

-- the standing is one of those, its marks aside
abbrev pub IsOne : List Standing → Standing → Type 0
IsOne ss s =
    (b : Standing) × Has ss b × (s.number ≡ b.number) × (s.name ≡ b.name) × (s.held ≡ b.held)
    × (s.judged ≡ b.judged) × (s.verdict ≡ b.verdict) × (s.cause ≡ b.cause) × (s.hash ≡ b.hash)

-- a standing at the end was there before, or its verdict was told since
abbrev pub IsTold : List Standing → List Entry → Standing → Type 0
IsTold before entries s =
    IsOne before s ⊎ Has entries (entry.Judged s.number s.name s.held s.verdict s.cause)

-- the verdict stands
abbrev pub Stands : List Standing → ℕ → List ℕ → Held → Target → Cause → Type 0
Stands ss number name held verdict cause =
    (s : Standing) × Has ss s × (s.number ≡ number) × (s.name ≡ name) × (s.held ≡ held)
    × (s.verdict ≡ verdict) × (s.cause ≡ cause)

-- a write to that file that was done is told of the number
abbrev pub TellsDone : Control → List Entry → ℕ → Type 0
TellsDone control entries number =
    (name : List ℕ) × (what : Write) × (control_of what ≡ control)
    × Has entries (entry.Wrote number name what wrote.Done)

-- the number was marked with that file before, or a write to it that was done is told of it
abbrev pub WasDone : Control → List Standing → List Entry → ℕ → Type 0
WasDone control before entries number =
    ((b : Standing) × Has before b × (b.number ≡ number) × (is_done control b ≡ true))
    ⊎ TellsDone control entries number

-- the standing is marked with that file just where its number was so
abbrev pub IsDoneMarked : Control → List Standing → List Entry → Standing → Type 0
IsDoneMarked control before entries s =
    ((is_done control s ≡ true) × WasDone control before entries s.number)
    ⊎ ((is_done control s ≡ false) × (WasDone control before entries s.number → ⊥))

-- where it goes to a file that is written once, no write to that file was done before this one
abbrev pub IsFirst : List Standing → List Entry → ℕ → Write → Type 0
IsFirst before entries number what =
    IsOnce (control_of what) → WasDone (control_of what) before entries number → ⊥

-- These standings are left of those from before by entries since. Each was there before or its
-- verdict was told, and its number isn't told gone; and each from before, and each verdict that was
-- told, is there, or its number is told gone. Each is marked just with what was done.
pub record AreLeft (before : List Standing) (entries : List Entry) (ss : List Standing) : Type 0
  where
    pub told : (s : Standing) → Has ss s → IsTold before entries s
    pub kept : (b : Standing) → Has before b → IsOne ss b ⊎ Has entries (entry.Gone b.number b.name)
    pub judged : (number : ℕ) (name : List ℕ) (held : Held) (verdict : Target) (cause : Cause)
        → Has entries (entry.Judged number name held verdict cause)
        → Stands ss number name held verdict cause ⊎ Has entries (entry.Gone number name)
    pub ended : (s : Standing) (name : List ℕ) → Has ss s → Has entries (entry.Gone s.number name)
        → ⊥
    pub done : (control : Control) → IsOnce control → (s : Standing) → Has ss s
        → IsDoneMarked control before entries s

-- the name is told as unsettled
abbrev pub IsNamed : List Entry → List ℕ → Type 0
IsNamed entries name = (why : Fault) × Has entries (entry.Unsettled name why)

-- the standing is marked as settled just where its name isn't told
abbrev pub IsMarked : List Entry → Standing → Type 0
IsMarked entries s =
    ((s.settled ≡ true) × (IsNamed entries s.name → ⊥))
    ⊎ ((s.settled ≡ false) × IsNamed entries s.name)

-- in the part of that name a standing is marked as is told, where its own part has come to its end,
-- and else is as it was
abbrev pub IsMarkedIn : Tries → List ℕ → List Standing → List Entry → Standing → Type 0
IsMarkedIn tried name before entries s =
    ((tried s.name name ≡ true) × IsMarked entries s) ⊎ ((tried s.name name ≡ false) × Has before s)

abbrev pub AreMarkedIn : Tries → List ℕ → List Standing → List Entry → List Standing → Type 0
AreMarkedIn tried name before entries ss =
    (s : Standing) → Has ss s → IsMarkedIn tried name before entries s

-- The entries since a sweep began, in order, with what they say of the log, of the judge and of the
-- next number. Each verdict is the judge's on the record of the very device of the held file, under
-- the next number, beside the standings that are left at that moment, each of its very device, and
-- marked as is told where its own part has come to its end, else as it was; and the value that the
-- judge is given is the one that the device had when the sweep began, if it was there then. Whether
-- it was present at the start is one answer for the sweep. Each entry that was added to the log is
-- that of a write that is told, with its intent directly before it, to the very device of its
-- number, and is what the verdict of that number calls for, a removal only where none was done
-- before. A number that is told gone had a verdict, and its device is gone.
pub data Account {J : Type 0} (answer : Answers J) (later : Laters J) (terms : Terms)
    (tried : Tries) (start k : Kernel) (before : List Standing) (log0 : List Effect) (judge0 : J)
    (next0 : ℕ) : List Entry
    → List Effect → J → ℕ → Type 0 where
  Start : Account answer later terms tried start k before log0 judge0 next0 [] log0 judge0 next0
  Note : (es : List Entry) (log : List Effect) (judge : J) (next : ℕ) (e : Entry) → TellsNeither e
      → Account answer later terms tried start k before log0 judge0 next0 es log judge next
      → Account answer later terms tried start k before log0 judge0 next0 (es ++ e ∷ []) log judge
      next
  Judge : (es : List Entry) (log : List Effect) (judge : J) (next i : ℕ) (name : List ℕ)
      (held : Held) (judged : Judged) (on : Bool) (ss : List Standing)
      → IsDevice k i name held judged → IsProbed start k name held.0 i on → Stand k ss next
      → AreLeft before es ss → AreMarkedIn tried name before es ss
      → Account answer later terms tried start k before log0 judge0 next0 es log judge next
      → Account answer later terms tried start k before log0 judge0 next0 (es ++ entry.Judged next
      name held (answer judge judged (is_none (parent_of name)) terms.present on ss).0
      (answer judge judged (is_none (parent_of name)) terms.present on ss).1 ∷ []) log (later judge
      judged (is_none (parent_of name)) terms.present on ss) (next + 1)
  Had : (es : List Entry) (log : List Effect) (judge : J) (next i number : ℕ) (name : List ℕ)
      (held : Held) (judged : Judged) (verdict : Target) (what : Write) (outcome : Wrote)
      → IsDevice k i name held judged → HasVerdict before es number name held verdict
      → CallsFor terms.hub name verdict what → IsFirst before es number what → MayHave outcome
      → Account answer later terms tried start k before log0 judge0 next0 es log judge next
      → Account answer later terms tried start k before log0 judge0 next0
      (es ++ wrote_entries number name what outcome)
      (log ++ record { device = i; write = what } ∷ []) judge next
  Had_not : (es : List Entry) (log : List Effect) (judge : J) (next i number : ℕ) (name : List ℕ)
      (held : Held) (judged : Judged) (verdict : Target) (what : Write) (outcome : Wrote)
      → IsDevice k i name held judged → HasVerdict before es number name held verdict
      → CallsFor terms.hub name verdict what → IsFirst before es number what → MayHaveNot outcome
      → Account answer later terms tried start k before log0 judge0 next0 es log judge next
      → Account answer later terms tried start k before log0 judge0 next0
      (es ++ wrote_entries number name what outcome) log judge next
  Went : (es : List Entry) (log : List Effect) (judge : J) (next i number : ℕ) (name : List ℕ)
      (held : Held) (judged : Judged) (verdict : Target)
      → IsDevice k i name held judged → IsGone k i → HasVerdict before es number name held verdict
      → Account answer later terms tried start k before log0 judge0 next0 es log judge next
      → Account answer later terms tried start k before log0 judge0 next0
      (es ++ entry.Gone number name ∷ []) log judge next

-- the device has a standing
pub record HasStanding (k : Kernel) (ss : List Standing) (i : ℕ) : Type 0 where
  pub s : Standing
  pub has : Has ss s
  pub file : slice_get k.held s.held.0 ≡ Some (record { device = i; control = Authorized })

-- the device was judged under that number
pub record IsJudged (k : Kernel) (entries : List Entry) (number i : ℕ) : Type 0 where
  pub name : List ℕ
  pub held : Held
  pub verdict : Target
  pub cause : Cause
  pub has : Has entries (entry.Judged number name held verdict cause)
  pub file : slice_get k.held held.0 ≡ Some (record { device = i; control = Authorized })

-- the numbers that are told gone
abbrev pub gone_of : List Entry → List ℕ
gone_of [] = []
gone_of (entry.Gone number name ∷ entries) = number ∷ gone_of entries
gone_of (e ∷ entries) = gone_of entries

-- From the state w over the kernel k to the state v over the kernel l. The standings at the end are
-- those that are left. No number is told gone twice. No device is judged twice, and none that had a
-- standing before.
pub record IsFair {J : Type 0} (answer : Answers J) (later : Laters J) (terms : Terms)
    (tried : Tries) (k : Kernel) (w : State J) (l : Kernel) (v : State J) : Type 0 where
  pub sound : IsKernel l
  pub grows : Grows k l
  pub rest : List Entry
  pub entries : v.entries ≡ w.entries ++ rest
  pub stand : Stand l v.standings v.next
  pub account : Account answer later terms tried k l w.standings k.log w.judge w.next rest l.log
      v.judge v.next
  pub left : AreLeft w.standings rest v.standings
  pub gone : AllDistinct (gone_of rest)
  pub once : (i a b : ℕ) → IsJudged l rest a i → IsJudged l rest b i → a ≡ b
  pub unjudged : (i a : ℕ) → HasStanding l w.standings i → IsJudged l rest a i → ⊥

-- the device has a standing, and its value is the one that the verdict wants; where it is rejected,
-- the log has its removal; and where it is a root hub whose default is written, that is marked, and
-- the log has it
pub record IsAsJudged (hub : Option Write) (k : Kernel) (ss : List Standing) (i : ℕ) : Type 0 where
  pub standing : HasStanding k ss i
  pub d : Device
  pub device : slice_get k.devices i ≡ Some d
  pub value : d.on ≡ wants standing.s.verdict
  pub removal : standing.s.verdict ≡ target.Reject
      → Has k.log (record { device = i; write = write.Remove })
  pub marked : (what : Write) → parent_of standing.s.name ≡ None → default_write hub ≡ Some what
      → standing.s.defaulted ≡ true
  pub default : (what : Write) → parent_of standing.s.name ≡ None → default_write hub ≡ Some what
      → (w : Write) × (control_of w ≡ Default) × Has k.log (record { device = i; write = w })

-- the listing is told as one that didn't succeed
abbrev pub IsUnlisted : List Entry → Type 0
IsUnlisted entries = (why : Fault) × Has entries (entry.UnsettledAll why)

-- each device that lived through is as judged, or its name is told, or it has no standing and the
-- listing is told
abbrev pub IsSettled : Option Write → Kernel → Kernel → List Standing → List Entry → Type 0
IsSettled hub k l ss entries = (i : ℕ) (d : Device) → Lived k.devices l.devices i d
    → IsAsJudged hub l ss i
    ⊎ (IsNamed entries d.name ⊎ (IsUnlisted entries × (HasStanding l ss i → ⊥)))

-- where no listing is told so, one has succeeded; else whether one has is as before
abbrev pub IsListed : List Entry → Bool → Bool → Type 0
IsListed entries before after =
    ((IsUnlisted entries → ⊥) × (after ≡ true)) ⊎ (IsUnlisted entries × (after ≡ before))

-- a device that had a standing before and lived through is named for want of memory only where it
-- was still to be removed, or its default was still to be written
abbrev pub IsSpared : Option Write → Kernel → Kernel → List Standing → List Entry → Type 0
IsSpared hub k l before entries =
    (i : ℕ) (d : Device) → Lived k.devices l.devices i d → (h : HasStanding k before i)
    → Has entries (entry.Unsettled d.name fault.Memory) → NeedsMemory hub h.s.name (known_of h.s)

-- the sweep is fair, where devices were present at the start just if no listing had succeeded
-- before it; each device is settled or named; and so say the marks
pub record Swept {J : Type 0} (answer : Answers J) (later : Laters J) (k : Kernel) (w : State J)
    (l : Kernel) (v : State J) : Type 0 where
  pub fair : IsFair answer later (terms_for w) swept_before k w l v
  pub settled : IsSettled w.hub k l v.standings fair.rest
  pub listed : IsListed fair.rest w.listed v.listed
  pub marks : (s : Standing) → Has v.standings s → IsMarked fair.rest s
  pub spared : IsSpared w.hub k l w.standings fair.rest
  pub defaults : AreDefaulted w.hub k w.standings → AreDefaulted w.hub l v.standings

-- where a kernel is told at the end of a sweep, one was told at its start; and where that is sound
-- and the standings are of its devices, that is so
abbrev pub Sweeps : {S J : Type 0} → (S → Option Kernel) → Answers J → Laters J → S → State J → S
    → State J → Type 0
Sweeps told answer later s w t v =
    (l : Kernel) → told t ≡ Some l
    → (k : Kernel) × (told s ≡ Some k)
    × (IsKernel k → Stand k w.standings w.next → Swept answer later k w l v)
