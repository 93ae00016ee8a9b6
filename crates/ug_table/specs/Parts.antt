-- A sweep's calls, in parts: the listing, and a part for each name; and which failed calls its
-- `unsettled` entries tell.
use Rattle.std.specs.Prelude.{◌≡◌, ℕ, ◌+◌, length, ◌^◌, ◌<◌, ◌≤◌, Bool, true, false, not, map, List, [], ◌∷◌, ◌++◌, Option, Some, None, Result, Err, ◌⊎◌, if◌then◌else◌, nat_eq, cond}
use Rattle.std.specs.List.{filter}
use Rattle.ug_types.specs.Elements.{Has, AllDistinct}
use Rattle.ug_types.specs.Names.{parent_of}
use Rattle.ug_types.specs.Sweep.{in_sweep_order}
use Rattle.ug_kernel.specs.declared.control.Control.{Control}
use Rattle.ug_kernel.specs.declared.control.Control.TheVariants.{Authorized, Remove, Default}
use Rattle.ug_types.specs.declared.refusal.Refusal.{Refusal}
use Rattle.ug_types.specs.declared.refusal.Refusal.TheVariants as refusal
use Rattle.ug_kernel.specs.declared.control.Write.{Write}
use Rattle.ug_kernel.specs.declared.control.Write.TheVariants as write
use Rattle.ug_kernel.specs.declared.calls.Listing.{Listing}
use Rattle.ug_kernel.specs.declared.calls.Listing.TheVariants as listing
use Rattle.ug_kernel.specs.declared.calls.Opened.{Opened}
use Rattle.ug_kernel.specs.declared.calls.Opened.TheVariants as opened
use Rattle.ug_kernel.specs.declared.calls.Probe.{Probe}
use Rattle.ug_kernel.specs.declared.calls.Probe.TheVariants as probe
use Rattle.ug_kernel.specs.declared.calls.Wrote.{Wrote}
use Rattle.ug_kernel.specs.Calls.{Call, Names, Open, Read, Ask_alive, Put, Close, Closing, ToldAnswer, Answer}
use Rattle.ug_kernel.specs.Kernel.{Kernel, IsKernel}
use Rattle.ug_kernel.specs.declared.calls.FailedCall.{FailedCall}
use Rattle.ug_kernel.specs.Along.{Made, made_with, count_calls, Along, failure, failures, AreNumbered, Rises, failure_of}
use Rattle.ug_audit.specs.declared.entry.Entry.{Entry}
use Rattle.ug_audit.specs.declared.entry.Entry.TheVariants as entry
use Rattle.ug_audit.specs.declared.entry.Fault.{Fault}
use Rattle.ug_audit.specs.declared.entry.Fault.TheVariants as fault
use Rattle.ug_table.specs.State.{State}
use Rattle.ug_table.specs.Standings.{standing_of, lists, farewells}
use Rattle.ug_table.specs.Sweep.{names_of}
use Rattle.ug_table.specs.Laws.{Stand, wrote_entries}
use Rattle.ug_table.specs.declared.standing.Standing.{Standing}
use Rattle.ug_table.specs.declared.standing.Known.{Known}
use Rattle.ug_kernel.specs.declared.control.Held.{Held}
use Rattle.ug_table.specs.Done.{control_of}
use Rattle.ug_table.specs.Bring.{is_to_go, default_due}
use Rattle.ug_table.specs.PartOrder.{GoInOrder}
use Rattle.ug_table.specs.Ending.{ending_calls, kept_file}

-- the failed call that an `unsettled` entry tells
abbrev pub call_told : Fault → List FailedCall
call_told (fault.Call failed) = failed ∷ []
call_told fault.Memory = []

-- The failed call that a reply tells: one behind the order's probe, or that probe, which is the
-- first call of its event.
abbrev pub told_in_reply : Result (Unit {0}) Refusal → List FailedCall
told_in_reply (Err (refusal.DeviceFault call count)) = record { call = call; count = count } ∷ []
told_in_reply (Err (refusal.ProbeFault count)) = record { call = 1; count = count } ∷ []
told_in_reply made_with = []

abbrev pub failure_in : Entry → List FailedCall
failure_in (entry.Unsettled name why) = call_told why
failure_in (entry.UnsettledAll why) = call_told why
failure_in (entry.Reply made_with) = told_in_reply made_with
failure_in e = []

-- the failed calls that entries tell, in their order
abbrev pub failures_told : List Entry → List FailedCall
failures_told [] = []
failures_told (e ∷ es) = failure_in e ++ failures_told es

-- the name of an `unsettled` entry that has one
abbrev pub name_in : Entry → List (List ℕ)
name_in (entry.Unsettled name why) = name ∷ []
name_in e = []

abbrev pub unsettled_names : List Entry → List (List ℕ)
unsettled_names [] = []
unsettled_names (e ∷ es) = name_in e ++ unsettled_names es

-- a file that a call opened, and which of the device's files it is
pub record OpenFile : Type 0 where
  pub held : ℕ
  pub control : Control

abbrev pub open_file : ℕ → Control → OpenFile
open_file held control = record { held = held; control = control }

abbrev pub opened_by : Control → Opened → List OpenFile
opened_by control (opened.Token held) = open_file held.0 control ∷ []
opened_by control opened.Absent = []
opened_by control opened.Failed = []
opened_by control opened.Memory = []

-- the first of these files that has that number is closed
abbrev pub close_file : ℕ → List OpenFile → List OpenFile
close_file held [] = []
close_file held (f ∷ files) = if nat_eq f.held held then files else f ∷ close_file held files

-- the files that are open after a call
abbrev pub files_left : (call : Call) → Answer call → List OpenFile → List OpenFile
files_left (Open name control) answer files = opened_by control answer.answer ++ files
files_left (Close held) answer files = close_file held files
files_left Names answer files = files
files_left (Read name attr) answer files = files
files_left (Ask_alive held) answer files = files
files_left (Put held what) answer files = files

-- and after these calls
abbrev pub files_after : List OpenFile → List Made → List OpenFile
files_after files [] = files
files_after files (m ∷ ms) = files_after (files_left m.call m.answer files) ms

-- The call is about the name, whose open files these are: it goes to the name, or reads its
-- parent's files, or goes to one of these. What is probed is an `authorized` file, and what is
-- written is the file that the write goes to.
abbrev pub IsAbout : List ℕ → List OpenFile → Call → Type 0
IsAbout name files Names = ⊥
IsAbout name files (Open other control) = other ≡ name
IsAbout name files (Read other attr) = (other ≡ name) ⊎ (parent_of name ≡ Some other)
IsAbout name files (Ask_alive held) = Has files (open_file held Authorized)
IsAbout name files (Put held what) = Has files (open_file held (control_of what))
IsAbout name files (Close held) = (control : Control) × Has files (open_file held control)

-- each of the calls is; a file that one of them opened is the name's until it is closed
abbrev pub AreAbout : List ℕ → List OpenFile → List Made → Type 0
AreAbout name files [] = Unit {0}
AreAbout name files (m ∷ ms) =
    IsAbout name files m.call × AreAbout name (files_left m.call m.answer files) ms

abbrev pub IsClosing : Call → Type 0
IsClosing (Close held) = Unit {0}
IsClosing Names = ⊥
IsClosing (Open name control) = ⊥
IsClosing (Read name attr) = ⊥
IsClosing (Ask_alive held) = ⊥
IsClosing (Put held what) = ⊥

-- behind a call that failed there are closings alone
abbrev pub EndsAtFailure : List FailedCall → List Made → Type 0
EndsAtFailure before [] = Unit {0}
EndsAtFailure before (m ∷ ms) =
    ((before ≡ []) ⊎ IsClosing m.call) × EndsAtFailure (before ++ failure m.call m.answer) ms

-- the last call was a probe that found the device alive, with that value
abbrev pub FoundAlive : Option Made → Bool → Type 0
FoundAlive last on =
    (held : ℕ) × (t : ToldAnswer Probe) × (last ≡ Some (made_with (Ask_alive held) t))
    × (t.answer ≡ probe.Alive on)

-- the last call opened that file, of that control
abbrev pub OpenedFile : Control → Option Made → ℕ → Type 0
OpenedFile control last file =
    (name : List ℕ) × (t : ToldAnswer Opened) × (held : Held)
    × (last ≡ Some (made_with (Open name control) t)) × (t.answer ≡ opened.Token held)
    × (held.0 ≡ file)

-- the last two calls, the last one first; and the last one again if it probed, where no more than
-- the default was written since
pub record Behind : Type 0 where
  pub last : Option Made
  pub earlier : Option Made
  pub found : Option Made

-- a write to a file that was opened just before, and behind it a probe found the device alive
abbrev pub IsOnceDue : Control → Behind → ℕ → Type 0
IsOnceDue control behind held =
    ((on : Bool) × FoundAlive behind.last on) × OpenedFile control behind.earlier held

-- A write of a value stands directly behind a probe of its file that found the other value, but for
-- a write to the default between them. A removal, and a write to a default, stands directly behind
-- a probe that found the device alive, and that directly behind the opening of its file.
abbrev pub IsWriteDue : Behind → ℕ → Write → Type 0
IsWriteDue behind held write.On =
    (t : ToldAnswer Probe) × (behind.found ≡ Some (made_with (Ask_alive held) t))
    × (t.answer ≡ probe.Alive false)
IsWriteDue behind held write.Off =
    (t : ToldAnswer Probe) × (behind.found ≡ Some (made_with (Ask_alive held) t))
    × (t.answer ≡ probe.Alive true)
IsWriteDue behind held write.Remove = IsOnceDue Remove behind held
IsWriteDue behind held write.DefaultOff = IsOnceDue Default behind held
IsWriteDue behind held write.DefaultOn = IsOnceDue Default behind held

abbrev pub IsDue : Behind → Call → Type 0
IsDue behind (Put held what) = IsWriteDue behind held what
IsDue behind Names = Unit {0}
IsDue behind (Open name control) = Unit {0}
IsDue behind (Read name attr) = Unit {0}
IsDue behind (Ask_alive held) = Unit {0}
IsDue behind (Close held) = Unit {0}

-- whether the call opens a default, or goes to one
abbrev pub is_default : Control → Bool
is_default Authorized = false
is_default Remove = false
is_default Default = true

abbrev pub opens : Call → Bool
opens (Open name control) = is_default control
opens Names = false
opens (Read name attr) = false
opens (Ask_alive held) = false
opens (Put held what) = false
opens (Close held) = false

abbrev pub opens_default : Option Made → Bool
opens_default None = false
opens_default (Some m) = opens m.call

-- the probe of a value, where it still counts behind a call more
abbrev pub found_by : Call → Made → Option Made → Option Made → Option Made
found_by (Ask_alive held) m last found = cond (opens_default last) found (Some m)
found_by (Open name control) m last found = cond (is_default control) found None
found_by (Put held what) m last found = cond (is_default (control_of what)) found None
found_by (Close held) m last found = found
found_by Names m last found = None
found_by (Read name attr) m last found = None

-- a call more
abbrev pub behind_more : Behind → Made → Behind
behind_more behind m =
    record
    { last = Some m; earlier = behind.last; found = found_by m.call m behind.last behind.found }

abbrev pub AreDue : Behind → List Made → Type 0
AreDue behind [] = Unit {0}
AreDue behind (m ∷ ms) = IsDue behind m.call × AreDue (behind_more behind m) ms

-- a write with its outcome
pub record PutMade : Type 0 where
  pub write : Write
  pub outcome : Wrote

abbrev pub put_of : (call : Call) → Answer call → List PutMade
put_of (Put held what) answer = record { write = what; outcome = answer.answer } ∷ []
put_of Names answer = []
put_of (Open name control) answer = []
put_of (Read name attr) answer = []
put_of (Ask_alive held) answer = []
put_of (Close held) answer = []

-- the writes among calls, in their order
abbrev pub puts_of : List Made → List PutMade
puts_of [] = []
puts_of (m ∷ ms) = put_of m.call m.answer ++ puts_of ms

-- each kind of write stands at most once
abbrev pub AtMostOneEach : List PutMade → Type 0
AtMostOneEach puts = AllDistinct (map (λ (p : PutMade). p.write) puts)

-- an entry that tells of a write
abbrev pub write_in : Entry → List Entry
write_in (entry.Intent number name what) = entry.Intent number name what ∷ []
write_in (entry.Wrote number name what outcome) = entry.Wrote number name what outcome ∷ []
write_in e = []

abbrev pub writes_in : List Entry → List Entry
writes_in [] = []
writes_in (e ∷ es) = write_in e ++ writes_in es

-- two entries for each write of the name, and no more
abbrev pub TellsWrites : List ℕ → List PutMade → List Entry → Type 0
TellsWrites name [] es = es ≡ []
TellsWrites name (p ∷ ps) es =
    (number : ℕ) × (rest : List Entry) × (es ≡ wrote_entries number name p.write p.outcome ++ rest)
    × TellsWrites name ps rest

-- an `unsettled` entry bears the name, and is the last; and none is a reply
abbrev pub IsLast : List ℕ → Entry → List Entry → Type 0
IsLast name (entry.Unsettled other why) rest = (other ≡ name) × (rest ≡ [])
IsLast name (entry.UnsettledAll why) rest = ⊥
IsLast name (entry.Reply made_with) rest = ⊥
IsLast name e rest = Unit {0}

abbrev pub EndsUnsettled : List ℕ → List Entry → Type 0
EndsUnsettled name [] = Unit {0}
EndsUnsettled name (e ∷ es) = IsLast name e es × EndsUnsettled name es

-- an entry of that name
abbrev pub Bears : List ℕ → Entry → Type 0
Bears name (entry.Judged number other held verdict cause) = other ≡ name
Bears name (entry.Intent number other what) = other ≡ name
Bears name (entry.Wrote number other what outcome) = other ≡ name
Bears name (entry.Gone number other) = other ≡ name
Bears name (entry.Unsettled other why) = other ≡ name
Bears name e = ⊥

abbrev pub AllBear : List ℕ → List Entry → Type 0
AllBear name [] = Unit {0}
AllBear name (e ∷ es) = Bears name e × AllBear name es

-- the number of a standing
abbrev pub number_of : Option Known → Option ℕ
number_of None = None
number_of (Some known) = Some known.number

-- The entries bear the numbers of the standings of a name, which begin with the first and end with
-- the last of these: a verdict gives a number to a name that has none, a write is that of the
-- number, and `gone` ends it.
abbrev pub AreOfNumber : Option ℕ → List Entry → Option ℕ → Type 0
AreOfNumber now [] end = end ≡ now
AreOfNumber now (entry.Judged number name held verdict cause ∷ es) end =
    (now ≡ None) × AreOfNumber (Some number) es end
AreOfNumber now (entry.Intent number name what ∷ es) end =
    (now ≡ Some number) × AreOfNumber now es end
AreOfNumber now (entry.Wrote number name what outcome ∷ es) end =
    (now ≡ Some number) × AreOfNumber now es end
AreOfNumber now (entry.Gone number name ∷ es) end = (now ≡ Some number) × AreOfNumber None es end
AreOfNumber now (e ∷ es) end = AreOfNumber now es end

-- the numbers that verdicts give out
abbrev pub numbers_given : List Entry → List ℕ
numbers_given [] = []
numbers_given (entry.Judged number name held verdict cause ∷ es) = number ∷ numbers_given es
numbers_given (e ∷ es) = numbers_given es

-- a call that found the device of a standing gone
abbrev pub FoundGone : Option Known → Made → Type 0
FoundGone stands m =
    (known : Known) × (t : ToldAnswer Probe) × (stands ≡ Some known)
    × (m ≡ made_with (Ask_alive known.held.0) t) × (t.answer ≡ probe.Gone)

-- the name has no standing, or the first call finds that its device is gone
abbrev pub IsBoundAnew : Option Known → List Made → Type 0
IsBoundAnew stands calls =
    (stands ≡ None) ⊎ ((m : Made) × (later : List Made) × (calls ≡ m ∷ later) × FoundGone stands m)

abbrev pub known_files : Option Known → List OpenFile
known_files None = []
known_files (Some known) = open_file known.held.0 Authorized ∷ []

-- an opening of that file of the name found no memory
abbrev pub FoundNoRoom : Control → List ℕ → List Made → Type 0
FoundNoRoom control name calls =
    (t : ToldAnswer Opened) × Has calls (made_with (Open name control) t)
    × (t.answer ≡ opened.Memory)

-- The device of a standing is still to be removed, and there was no memory to open its `remove`; or
-- its default is still to be written, and there was none to open that.
abbrev pub LacksRoom : Option Write → List ℕ → Option Known → List Made → Type 0
LacksRoom hub name stands calls =
    (known : Known) × (stands ≡ Some known)
    × (((is_to_go known ≡ true) × FoundNoRoom Remove name calls)
    ⊎ ((what : Write) × (default_due hub name known ≡ Some what) × FoundNoRoom Default name calls))

-- One name's part of a sweep, from the standings before it to those after it: its calls, but for
-- the probe of its parent's held file, are about the name, and are over with one that fails; all
-- are made in the order of a part, in which a name without a standing is bound or isn't; the files
-- that are open after them are those that the name's standing holds; its entries tell that failure,
-- and no other; what is told of want of memory is of a new device, or of one that is still to be
-- removed; each write is due and told, and there is one of each kind at most; there are few calls;
-- each entry bears the name, and the number of its standing; one number at most is given out; and
-- the standings of other names stay.
pub record Part (hub : Option Write) (binds : Bool) (name : List ℕ) (before after : List Standing)
    (calls : List Made) (entries : List Entry) : Type 0 where
  pub about : AreAbout name (known_files (standing_of name before))
      (ending_calls name (kept_file name before) calls)
  pub leaves : files_after (known_files (standing_of name before)) calls
      ≡ known_files (standing_of name after)
  pub ends : EndsAtFailure [] (ending_calls name (kept_file name before) calls)
  pub told : failures_told entries ≡ failures (ending_calls name (kept_file name before) calls)
  pub last : EndsUnsettled name entries
  pub memory : Has entries (entry.Unsettled name fault.Memory)
      → IsBoundAnew (standing_of name before) calls
      ⊎ LacksRoom hub name (standing_of name before) calls
  pub due : AreDue (record { last = None; earlier = None; found = None }) calls
  pub single : AtMostOneEach (puts_of calls)
  pub writes : TellsWrites name (puts_of calls) (writes_in entries)
  pub few : count_calls calls ≤ 15
  pub order : GoInOrder binds hub name (kept_file name before) (standing_of name before) entries
      calls
  pub bears : AllBear name entries
  pub numbers : AreOfNumber (number_of (standing_of name before)) entries
      (number_of (standing_of name after))
  pub given : length (numbers_given entries) ≤ 1
  pub others : (other : List ℕ) → (other ≡ name → ⊥)
      → standing_of other after ≡ standing_of other before

-- A part for each name, in this order: all their calls, and those whose failure ends one.
abbrev pub InParts : Option Write → Bool → List (List ℕ) → List Standing → List Standing → List Made
    → List Made → List Entry → Type 0
InParts hub binds [] before after calls ending entries =
    (after ≡ before) × (calls ≡ []) × (ending ≡ []) × (entries ≡ [])
InParts hub binds (name ∷ names) before after calls ending entries =
    (mid : List Standing) × (now later others : List Made) × (first rest : List Entry)
    × (calls ≡ now ++ later) × (ending ≡ ending_calls name (kept_file name before) now ++ others)
    × (entries ≡ first ++ rest) × Part hub binds name before mid now first
    × InParts hub binds names mid after later others rest

-- these calls close those files, in order
abbrev pub AreClosings : List Held → List Made → Type 0
AreClosings [] calls = calls ≡ []
AreClosings (file ∷ files) calls =
    (shut : Closing) × (rest : List Made) × (calls ≡ made_with (Close file.0) shut ∷ rest)
    × AreClosings files rest

-- the files that the standings of other names than these hold
abbrev pub unlisted_files : List (List ℕ) → List Standing → List Held
unlisted_files names ss = map (λ s. s.held) (filter (λ s. not (lists names s.name)) ss)

-- the names that were listed have parts, in which a new one is bound, and `gone` stands for each
-- standing of another, whose file is closed
abbrev pub BeginsListed : List (List ℕ) → List Standing → List Entry → List Standing
    → List (List ℕ) → List Made → Bool → Type 0
BeginsListed listed ss entries left names shut binds =
    (binds ≡ true) × (names ≡ in_sweep_order listed) × (entries ≡ farewells names ss)
    × (left ≡ filter (λ s. lists names s.name) ss) × AreClosings (unlisted_files names ss) shut

-- the names that stand have parts, in which none is bound, and `unsettled *` tells why
abbrev pub BeginsUnlisted : Fault → List Standing → List Entry → List Standing → List (List ℕ)
    → List Made → Bool → Type 0
BeginsUnlisted why ss entries left names shut binds =
    (binds ≡ false) × (names ≡ names_of ss) × (entries ≡ entry.UnsettledAll why ∷ [])
    × (left ≡ ss) × (shut ≡ [])

-- what the answer to the listing leads to; where it has names, memory can be short for what is
-- noted of them
abbrev pub AfterListing : Listing → FailedCall → List Standing → List Entry → List Standing
    → List (List ℕ) → List Made → Bool → Type 0
AfterListing (listing.Names listed) failed ss entries left names shut binds =
    BeginsListed listed ss entries left names shut binds
    ⊎ BeginsUnlisted fault.Memory ss entries left names shut binds
AfterListing listing.Failed failed ss entries left names shut binds =
    BeginsUnlisted (fault.Call failed) ss entries left names shut binds
AfterListing listing.Memory failed ss entries left names shut binds =
    BeginsUnlisted fault.Memory ss entries left names shut binds

-- how many names a listing brought
abbrev pub count_listed : Listing → ℕ
count_listed (listing.Names listed) = length listed
count_listed answer = 0

-- A sweep's calls are the listing, the closing of what isn't listed, and then the names' parts; and
-- so are its entries. The next number rises by those that are given out, which are no more than the
-- names that were listed.
pub record GoesInParts {S J : Type 0} (gives : S → (call : Call) → Answer call → S → Type 0) (s : S)
    (w : State J) (t : S) (v : State J) : Type 0 where
  pub listed : ToldAnswer Listing
  pub later : List Made
  pub along : Along gives s (made_with Names listed ∷ later) t
  pub head : List Entry
  pub rest : List Entry
  pub entries : v.entries ≡ w.entries ++ (head ++ rest)
  pub left : List Standing
  pub names : List (List ℕ)
  pub shut : List Made
  pub made : List Made
  pub ending : List Made
  pub cut : later ≡ shut ++ made
  pub binds : Bool
  pub begins : AfterListing listed.answer (failure_of listed) w.standings head left names shut binds
  pub parts : InParts w.hub binds names left v.standings made ending rest
  pub next : v.next ≡ w.next + length (numbers_given rest)
  pub given : length (numbers_given rest) ≤ count_listed listed.answer

-- In a sweep in parts each call that failed is told with its number and the count of faults after
-- it, but for the probes of parents' held files, and no other is; and calls are numbered on, so
-- that both numbers rise.
pub record TellsFaults {S J : Type 0} (gives : S → (call : Call) → Answer call → S → Type 0)
    (calls faults : S → ℕ) (s : S) (w : State J) (t : S) (v : State J) : Type 0 where
  pub goes : GoesInParts gives s w t v
  pub exact : failures_told (goes.head ++ goes.rest)
      ≡ failures (made_with Names goes.listed ∷ (goes.shut ++ goes.ending))
  pub numbered : AreNumbered (calls s) (made_with Names goes.listed ∷ goes.later)
  pub rises : calls s < 2 ^ 64 → Rises (calls s) (faults s) (failures_told (goes.head ++ goes.rest))

-- where a kernel is told at the end of a sweep, one was told at its start; and where that is sound
-- and the standings are of its devices, each name has at most one `unsettled` entry
abbrev pub NamesOnce : {S J : Type 0} → (S → Option Kernel) → S → State J → S → State J → Type 0
NamesOnce told s w t v =
    (l : Kernel) → told t ≡ Some l
    → (k : Kernel) × (told s ≡ Some k) × (IsKernel k → Stand k w.standings w.next
    → (rest : List Entry) × (v.entries ≡ w.entries ++ rest) × AllDistinct (unsettled_names rest))
