-- What an event does, in the words of devices, files and journal.
use Rattle.std.specs.Prelude.{◌≡◌, ℕ, ◌+◌, ◌≤◌, ◌<◌, ◌^◌, length, Bool, true, false, List, [], ◌∷◌, ◌++◌, Option, Some, None, IsSome, Ok, Err, ◌⊎◌}
use Rattle.ug_types.specs.Elements.{Has, AllDistinct}
use Rattle.ug_types.specs.Principals.{Named}
use Rattle.ug_types.specs.Parameters.{parameter_of, parameter_with, value_word}
use Rattle.ug_types.specs.declared.parameter.ParameterName.{ParameterName}
use Rattle.ug_types.specs.declared.refusal.Refusal.{Refusal}
use Rattle.ug_types.specs.declared.refusal.Refusal.TheVariants as refusal
use Rattle.ug_types.specs.declared.rule.After.{After}
use Rattle.ug_types.specs.declared.rule.After.TheVariants as after
use Rattle.ug_types.specs.declared.rule.Rule.{Rule}
use Rattle.ug_types.specs.declared.saved.Saved.{Saved}
use Rattle.ug_types.specs.declared.record.Judged.TheVariants as judged
use Rattle.ug_types.specs.declared.verdict.Target.{Target}
use Rattle.ug_types.specs.declared.verdict.Target.TheVariants as target
use Rattle.ug_kernel.specs.declared.calls.Probe.{Probe}
use Rattle.ug_kernel.specs.declared.calls.Probe.TheVariants as probe
use Rattle.ug_kernel.specs.Calls.{Call, Names, Ask_alive, Answer, ToldAnswer}
use Rattle.ug_kernel.specs.Kernel.{Kernel, IsKernel}
use Rattle.ug_kernel.specs.Quiet.{Quiet}
use Rattle.ug_kernel.specs.Along.{Made, made_with, Along, failures, AreNumbered, Rises}
use Rattle.ug_kernel.specs.Tree.{Runs}
use Rattle.ug_kernel.specs.declared.sysfs.Sysfs
use Rattle.ug_audit.specs.declared.entry.Entry.{Entry}
use Rattle.ug_audit.specs.declared.entry.Entry.TheVariants as entry
use Rattle.ug_proto.specs.declared.reply.Reply.{Reply}
use Rattle.ug_proto.specs.declared.reply.Reply.TheVariants as replies
use Rattle.ug_policy.specs.Edits.{folder_behind}
use Rattle.ug_policy.specs.Rules.{IsNumbered, ids, most_rules}
use Rattle.ug_policy.specs.declared.entry.Mark.TheVariants as mark
use Rattle.ug_proto.specs.declared.request.Request.{Request}
use Rattle.ug_proto.specs.declared.request.Request.TheVariants as request
use Rattle.ug_proto.specs.Privileges.{needs}
use Rattle.ug_proto.specs.Requests.{request_read}
use Rattle.ug_rule.specs.Faults.{kind_number}
use Rattle.ug_rule.specs.Rules.{rule_read}
use Rattle.ug_rule.specs.declared.fault.Fault.{Fault}
use Rattle.ug_store.specs.DiskCalls.{DiskCall, DiskTold}
use Rattle.ug_store.specs.Store.{RunsDisk, TellsSaveFault}
use Rattle.ug_store.specs.declared.disk.RuleDisk
use Rattle.ug_table.specs.State.{State, Kept, terms_for, with_kept}
use Rattle.ug_table.specs.Several.{GoesInNames, SettledNames, before_among}
use Rattle.ug_table.specs.Laws.{Stand, Swept, Tries, swept_before}
use Rattle.ug_table.specs.Marks.{LeavesMarks, has_number}
use Rattle.ug_table.specs.Orders.{with_verdict, verdict_entry, ProbedOne, GoesAsOrder, OrderedOne}
use Rattle.ug_table.specs.Parts.{AllBear, failures_told, told_in_reply, unsettled_names, numbers_given, GoesInParts}
use Rattle.ug_table.specs.Standings.{numbered}
use Rattle.ug_table.specs.declared.standing.Settled.{Settled}
use Rattle.ug_table.specs.declared.standing.Settled.TheVariants as settled
use Rattle.ug_table.specs.declared.standing.Standing.{Standing}
use Rattle.ug_core.specs.Bindings.{BindsJudged}
use Rattle.ug_core.specs.Answering.{acting, answered_with, asking, deed_after, replying}
use Rattle.ug_core.specs.Changes.{CanChange, change_asked, change_lines, changed_by, is_saved, change_lines_of, ordered_mark, parameter_at}
use Rattle.ug_core.specs.Storing.{TellsStored, noted_store, refused_by, stored_with, storing, with_changes}
use Rattle.ug_ruleset.specs.RuleFile.{FitsFile, IsSaveable}
use Rattle.ug_ruleset.specs.RulePlaces.{IsOpen, has_folder_rule, has_rule}
use Rattle.ug_ruleset.specs.declared.edit.Edit.TheVariants.{Insert}
use Rattle.ug_core.specs.DeviceRows.{device_rows}
use Rattle.ug_ruleset.specs.RuleRows.{rule_rows}
use Rattle.ug_core.specs.Policy.{Judging, policy_answer, policy_later}
use Rattle.ug_core.specs.Privileges.{denied_of, is_granted}
use Rattle.ug_core.specs.Event.{DaemonState, ready, trying, handling}
use Rattle.ug_core.specs.Hinting.{MeetsPiece}
use Rattle.ug_core.specs.Durable.{KeepsFile, WritesEvent}
use Rattle.ug_core.specs.Pending.{TriesSave}
use Rattle.ug_core.specs.Values.{LogsValues}
use Rattle.ug_core.specs.declared.changes.Change.{Change}
use Rattle.ug_core.specs.declared.changes.Change.TheVariants.{Rules}
use Rattle.ug_core.specs.declared.choosing.Choice.{Choice}
use Rattle.ug_core.specs.declared.storing.Stored.{Stored}
use Rattle.ug_core.specs.declared.storing.Stored.TheVariants as stored
use Rattle.ug_types.specs.declared.event.Event.{Event}
use Rattle.ug_types.specs.declared.event.Event.TheVariants.{Sweep, Order, Hint}

-- ---- the last stage of an event, from the state that the stage before it left

-- over kernels from k to l: a sweep that is fair and leaves each device settled or named; or, where
-- names are due, their settling, which is as fair, leaves the devices of these names so, and lists
-- nothing
abbrev pub SettlesDue : Option (List (List ℕ)) → Kernel → State Judging → Kernel → State Judging
    → Type 0
SettlesDue None k w l v = Swept policy_answer policy_later k w l v
SettlesDue (Some names) k w l v =
    SettledNames policy_answer policy_later (terms_for w) names k w l v × (v.listed ≡ w.listed)

-- the parts that have come to their end where another begins
abbrev pub tried_in : Option (List (List ℕ)) → Tries
tried_in None = swept_before
tried_in (Some names) = before_among names

-- so it is, values change by its writes in the log alone, and the last entry is noted
pub record Handled (k : Kernel) (d : DaemonState) (l : Kernel) (e : DaemonState) : Type 0 where
  pub swept : State Judging
  pub law : SettlesDue d.due k d.sweep l swept
  pub values : LogsValues k l
  pub entries : e.sweep ≡ record swept { entries = swept.entries ++ entry.End d.event ∷ [] }
  pub hub : e.sweep.hub ≡ d.sweep.hub
  pub access : e.access ≡ d.access
  pub pending : e.pending ≡ d.pending
  pub stream : e.stream ≡ d.stream
  pub due : e.due ≡ None
  pub event : e.event ≡ d.event + 1
  pub reply : e.reply ≡ d.reply
  pub watch : e.watch ≡ d.watch

-- where a kernel is told after the event, one was told before it; and where that is sound and the
-- standings are of its devices, this is so
abbrev pub Handles : {S : Type 0} → (S → Option Kernel) → S → DaemonState → S → DaemonState → Type 0
Handles told s d t e =
    (l : Kernel) → told t ≡ Some l
    → (k : Kernel) × (told s ≡ Some k)
    × (IsKernel k → Stand k d.sweep.standings d.sweep.next → Handled k d l e)

-- the calls and entries are those of a listing and of the parts behind it, or of the parts of the
-- names that are due; and of these calls it is told whether they failed
abbrev pub PartsOfDue : {S : Type 0} → (S → (call : Call) → Answer call → S → Type 0) → (S → ℕ)
    → (S → ℕ) → Option (List (List ℕ)) → S → State Judging → S → State Judging → List Made
    → List Made → List Entry → Type 0
PartsOfDue gives calls faults None s w t v made telling rest =
    (goes : GoesInParts gives s w t v) × (made ≡ made_with Names goes.listed ∷ goes.later)
    × (telling ≡ made_with Names goes.listed ∷ (goes.shut ++ goes.ending))
    × (rest ≡ goes.head ++ goes.rest)
PartsOfDue gives calls faults (Some names) s w t v made telling rest =
    (goes : GoesInNames gives calls faults (terms_for w) names s w t v) × (made ≡ goes.made)
    × (telling ≡ goes.ending) × (rest ≡ goes.rest)

-- what the last stage calls and notes
pub record GoesAsDue {S : Type 0} (gives : S → (call : Call) → Answer call → S → Type 0)
    (calls faults : S → ℕ) (due : Option (List (List ℕ))) (s : S) (w : State Judging) (t : S)
    (v : State Judging) : Type 0 where
  pub made : List Made
  pub along : Along gives s made t
  pub telling : List Made
  pub rest : List Entry
  pub entries : v.entries ≡ w.entries ++ rest
  pub parts : PartsOfDue gives calls faults due s w t v made telling rest

-- The calls are in parts. Each that failed, but for the probes of parents' held files, is told with
-- its number and the count of faults after it, and no other is; and calls are numbered on.
pub record TellsSweep {S : Type 0} (gives : S → (call : Call) → Answer call → S → Type 0)
    (calls faults : S → ℕ) (s : S) (d : DaemonState) (t : S) (e : DaemonState) : Type 0 where
  pub swept : State Judging
  pub goes : GoesAsDue gives calls faults d.due s d.sweep t swept
  pub exact : failures_told goes.rest ≡ failures goes.telling
  pub numbered : AreNumbered (calls s) goes.made
  pub rises : calls s < 2 ^ 64 → Rises (calls s) (faults s) (failures_told goes.rest)
  pub entries : e.sweep ≡ record swept { entries = swept.entries ++ entry.End d.event ∷ [] }

-- where a kernel is told after the event, one was told before it; and where that is sound and the
-- standings are of its devices, each name has at most one `unsettled` entry
abbrev pub NamesOnceIn : {S : Type 0} → (S → Option Kernel) → S → DaemonState → S → DaemonState
    → Type 0
NamesOnceIn told s d t e =
    (l : Kernel) → told t ≡ Some l
    → (k : Kernel) × (told s ≡ Some k) × (IsKernel k → Stand k d.sweep.standings d.sweep.next
    → AllDistinct (unsettled_names e.sweep.entries))

-- ---- the order of an event, from the state that the stage before it left

-- The facts for which a request of one who may make it is refused without a call. Of several the
-- first in the order of usbguard(1) counts: a rule that can't be read, before a place that isn't
-- there, before one that has a rule of the folder behind it, before a list that is full; a name
-- before its value. A rule of the folder isn't removed.
pub data Refuses (d : DaemonState) : Request → Refusal → Type 0 where
  Bad_rule : (place : After) (permanent : Bool) (text : List ℕ) (bad : Fault)
      → rule_read text ≡ Err bad
      → Refuses d (request.AppendRule place permanent text)
      (refusal.BadRule (kind_number bad.kind) bad.place)
  No_device : (number : ℕ) (verdict : Target) (permanent : Bool)
      → numbered number d.sweep.standings ≡ None
      → Refuses d (request.Device number verdict permanent) (refusal.NoDevice number)
  No_place : (id : ℕ) (permanent : Bool) (text : List ℕ) (rule : Rule) → rule_read text ≡ Ok rule
      → has_rule id d.sweep.judge.rules ≡ false
      → Refuses d (request.AppendRule (after.Rule id) permanent text) (refusal.NoRule id)
  Before_folder : (id : ℕ) (text : List ℕ) (rule : Rule) → rule_read text ≡ Ok rule
      → Has (ids d.sweep.judge.rules) id → folder_behind id d.sweep.judge.rules ≡ true
      → Refuses d (request.AppendRule (after.Rule id) true text) (refusal.FolderRule id)
  Of_folder : (id : ℕ) → has_folder_rule id d.sweep.judge.rules ≡ true
      → Refuses d (request.RemoveRule id) (refusal.FolderRule id)
  No_rule : (id : ℕ) → has_rule id d.sweep.judge.rules ≡ false
      → Refuses d (request.RemoveRule id) (refusal.NoRule id)
  No_parameter : (name : List ℕ) → parameter_of name ≡ None
      → Refuses d (request.GetParameter name) refusal.BadParameter
  No_setting : (name value : List ℕ) → parameter_of name ≡ None
      → Refuses d (request.SetParameter name value) refusal.BadParameter
  No_value : (name value : List ℕ) (set : ParameterName) → parameter_of name ≡ Some set
      → parameter_with set value ≡ None
      → Refuses d (request.SetParameter name value) refusal.BadValue
  Full : (place : After) (permanent : Bool) (text : List ℕ) (rule : Rule) → rule_read text ≡ Ok rule
      → IsOpen place (ordered_mark permanent) d.sweep.judge.rules
      → most_rules ≤ length d.sweep.judge.rules
      → Refuses d (request.AppendRule place permanent text) refusal.RulesFull

-- what is refused before a call: a line that is no request, before a privilege that is missing,
-- before the facts. Want of memory may come at any place
pub data WhyRefused (who : Named) (line : List ℕ) (d : DaemonState) : Refusal → Type 0 where
  Unread : (place : ℕ) → request_read line ≡ Err place
      → WhyRefused who line d (refusal.BadRequest place)
  Denied : (asked : Request) (refused : Refusal) → request_read line ≡ Ok asked
      → denied_of d.access who (needs asked) ≡ Some refused → WhyRefused who line d refused
  By_facts : (asked : Request) (refused : Refusal) → request_read line ≡ Ok asked
      → is_granted d.access who (needs asked) ≡ true → Refuses d asked refused
      → WhyRefused who line d refused
  No_memory : WhyRefused who line d (refusal.Memory false)

-- what a probe that didn't find the device comes to
abbrev pub ProbeRefuses : ℕ → Probe → Refusal → Type 0
ProbeRefuses number (probe.Alive on) refused = ⊥
ProbeRefuses number probe.Gone refused = refused ≡ refusal.NoDevice number
ProbeRefuses number probe.Failed refused = (count : ℕ) × (refused ≡ refusal.ProbeFault count)

-- a verdict that one who may ordered, on a device of which the probe said that it is gone, or
-- failed
pub record RefusedByProbe (who : Named) (line : List ℕ) (d : DaemonState) (k l : Kernel)
    (refused : Refusal) : Type 0 where
  pub number : ℕ
  pub verdict : Target
  pub permanent : Bool
  pub asked : request_read line ≡ Ok (request.Device number verdict permanent)
  pub granted : is_granted d.access who (needs (request.Device number verdict permanent)) ≡ true
  pub standing : Standing
  pub stands : numbered number d.sweep.standings ≡ Some standing
  pub found : Probe
  pub probed : ProbedOne standing k l found
  pub is : ProbeRefuses number found refused

-- the device of that number's standing is there, with that value
pub record FoundThere (d : DaemonState) (number : ℕ) (k l : Kernel) : Type 0 where
  pub standing : Standing
  pub stands : numbered number d.sweep.standings ≡ Some standing
  pub on : Bool
  pub probed : ProbedOne standing k l (probe.Alive on)

-- an order on a device goes on behind a probe that finds it, and any other without a call
abbrev pub GoesOn : DaemonState → Request → Kernel → Kernel → Type 0
GoesOn d (request.Device number verdict permanent) k l = FoundThere d number k l
GoesOn d asked k l = l ≡ k

-- what this request asks to change
abbrev pub change_of : DaemonState → Request → Option Change
change_of d asked = change_asked d.sweep.standings d.sweep.judge (Ok asked)

-- why a change isn't in force: its save failed, or a rule file has no room for its text
abbrev pub StoreRefuses : Judging → Change → Stored → Refusal → Type 0
StoreRefuses p change stored.NotNeeded refused = ⊥
StoreRefuses p change stored.Done refused = ⊥
StoreRefuses p change (stored.Failed count) refused =
    (is_saved change p.rules ≡ true) × (refused ≡ refusal.StoreFault count)
StoreRefuses p change stored.TooLong refused =
    (is_saved change p.rules ≡ true) × (FitsFile (changed_by change p).rules → ⊥)
    × (refused ≡ refusal.RulesFull)
StoreRefuses p change stored.Memory refused = refused ≡ refusal.Memory false

-- The facts for which a request that goes on is refused: a device without a record has no rule; a
-- rule that would be made for one finds the list full; and what is asked can be done, but isn't
-- saved.
pub data RefusesBehind (d : DaemonState) (became : Stored) : Request → Refusal → Type 0 where
  No_record : (number : ℕ) (verdict : Target) (standing : Standing) (kind place : ℕ)
      → numbered number d.sweep.standings ≡ Some standing
      → standing.judged ≡ judged.Malformed kind place → became ≡ stored.NotNeeded
      → RefusesBehind d became (request.Device number verdict true) (refusal.MalformedDevice number)
  No_room : (number : ℕ) (verdict : Target) (rule : Rule)
      → change_of d (request.Device number verdict true)
      ≡ Some (Rules (Insert after.End rule mark.File))
      → most_rules ≤ length d.sweep.judge.rules → became ≡ stored.NotNeeded
      → RefusesBehind d became (request.Device number verdict true) refusal.RulesFull
  Unstored : (asked : Request) (refused : Refusal) (change : Change)
      → change_of d asked ≡ Some change → CanChange change d.sweep.judge.rules
      → StoreRefuses d.sweep.judge change became refused → RefusesBehind d became asked refused
  Without_memory : (asked : Request) → became ≡ stored.NotNeeded
      → RefusesBehind d became asked (refusal.Memory false)

pub record RefusedBehind (who : Named) (line : List ℕ) (d : DaemonState) (became : Stored)
    (k l : Kernel) (refused : Refusal) : Type 0 where
  pub asked : Request
  pub reads : request_read line ≡ Ok asked
  pub granted : is_granted d.access who (needs asked) ≡ true
  pub goes : GoesOn d asked k l
  pub why : RefusesBehind d became asked refused

-- An order that was refused changes nothing but that this is noted and told, with a save that
-- failed. At most its device was probed.
pub record RefusesOrder (who : Named) (line : List ℕ) (k : Kernel) (d : DaemonState)
    (became : Stored) (l : Kernel) (e : DaemonState) : Type 0 where
  pub refused : Refusal
  pub why : (WhyRefused who line d refused × (l ≡ k) × (became ≡ stored.NotNeeded))
      ⊎ ((RefusedByProbe who line d k l refused × (became ≡ stored.NotNeeded))
      ⊎ RefusedBehind who line d became k l refused)
  pub unchanged : IsSome (refused_by became) ⊎ (became ≡ stored.NotNeeded)
  pub sound : IsKernel l
  pub quiet : Quiet k l
  pub state : e ≡ replying (replies.Refused refused) (noted_store became d)

-- a change that is in force can be done, and was saved where it has to be
abbrev pub IsInForce : Judging → Option Change → Stored → Type 0
IsInForce p None became = became ≡ stored.NotNeeded
IsInForce p (Some change) stored.NotNeeded =
    CanChange change p.rules × (is_saved change p.rules ≡ false)
IsInForce p (Some change) stored.Done = CanChange change p.rules × (is_saved change p.rules ≡ true)
IsInForce p (Some change) became = ⊥

-- What an ordered verdict leaves, by what came of it. Where the reply tells of want of memory
-- behind the verdict, a removal wanted it, so the verdict is Reject. The standing of that number is
-- marked as it was brought to the verdict, and the others are as they were.
pub record LeavesVerdict (number : ℕ) (verdict : Target) (before after : List Standing)
    (how : Settled) (said : Option Reply) : Type 0 where
  pub wanting : said ≡ Some (replies.Refused (refusal.Memory true)) → verdict ≡ target.Reject
  pub marks : LeavesMarks None (has_number number) before after how

-- What is told of a verdict that was set: the lines of what was changed for it, where it stands, or
-- where its device left behind the probe; else which call failed, with its count, or that memory
-- was short behind it.
abbrev pub TellsVerdict : List (List ℕ) → Settled → Option Reply → Type 0
TellsVerdict lines settled.Stands said = said ≡ Some (replies.Lines lines)
TellsVerdict lines settled.Nobody said = said ≡ Some (replies.Lines lines)
TellsVerdict lines (settled.Fault failed) said =
    said ≡ Some (replies.Refused (refusal.DeviceFault failed.call failed.count))
TellsVerdict lines settled.Memory said = said ≡ Some (replies.Refused (refusal.Memory true))

-- A verdict that was ordered by one who may. The device of that number's standing was there, with
-- that value. If the verdict is to be permanent, its rule is saved and in force. The verdict is set
-- and told, and the device is brought to it; and the reply tells what came of it. Values change by
-- the writes in the log alone.
pub record CarriesOut (who : Named) (line : List ℕ) (k : Kernel) (d : DaemonState) (became : Stored)
    (l : Kernel) (e : DaemonState) : Type 0 where
  pub number : ℕ
  pub verdict : Target
  pub permanent : Bool
  pub asked : request_read line ≡ Ok (request.Device number verdict permanent)
  pub granted : is_granted d.access who (needs (request.Device number verdict permanent)) ≡ true
  pub standing : Standing
  pub stands : numbered number d.sweep.standings ≡ Some standing
  pub on : Bool
  pub middle : Kernel
  pub probed : ProbedOne standing k middle (probe.Alive on)
  pub change : Option Change
  pub asks : change ≡ change_of d (request.Device number verdict permanent)
  pub has : permanent ≡ true → IsSome change
  pub in_force : IsInForce d.sweep.judge change became
  pub changed : DaemonState
  pub after_change : changed ≡ with_changes change (noted_store became d)
  pub how : Settled
  pub kept : Kept
  pub law : OrderedOne number verdict who on standing middle changed.sweep l
      (with_kept changed.sweep kept) how
  pub leaves : LeavesVerdict number verdict changed.sweep.standings kept.standings how e.reply
  pub rest : List Entry
  pub entries : kept.entries
      ≡ changed.sweep.entries ++ verdict_entry (with_verdict verdict who standing) ∷ rest
  pub bears : AllBear standing.name rest
  pub given : numbers_given rest ≡ []
  pub values : LogsValues k l
  pub tells : TellsVerdict (change_lines_of change d.sweep.judge.next) how e.reply
  pub state : e ≡ answered_with changed (change_lines_of change d.sweep.judge.next) (how, kept)

-- what an order that needs no call of the kernel comes to: the lines of its reply, what it changes,
-- and whether its user or group is told of what happens from now on
pub record Outcome : Type 0 where
  pub lines : List (List ℕ)
  pub change : Option Change
  pub watches : Bool

abbrev pub only_lines : List (List ℕ) → Outcome
only_lines rows = record { lines = rows; change = None; watches = false }

abbrev pub outcome_of_change : DaemonState → Change → Outcome
outcome_of_change d change =
    record { lines = change_lines change d.sweep.judge.next; change = Some change; watches = false }

-- whether it is on a device
abbrev pub is_on_device : Request → Bool
is_on_device (request.Device number verdict permanent) = true
is_on_device asked = false

-- what each request comes to that needs no call
pub data ComesTo (d : DaemonState) : Request → Outcome → Type 0 where
  Value : (name : List ℕ) (set : ParameterName) → parameter_of name ≡ Some set
      → ComesTo d (request.GetParameter name)
      (only_lines (value_word (parameter_at set d.sweep.judge.classes) ∷ []))
  Devices : ComesTo d request.ListDevices (only_lines (device_rows d.sweep.standings))
  List_rules : ComesTo d request.ListRules (only_lines (rule_rows d.sweep.judge.rules))
  Changes : (asked : Request) (change : Change) → is_on_device asked ≡ false
      → change_of d asked ≡ Some change → ComesTo d asked (outcome_of_change d change)
  Watches : ComesTo d request.Watch (record { lines = []; change = None; watches = true })

abbrev pub if_watching : Bool → DaemonState → DaemonState
if_watching true d = record d { watch = true }
if_watching false d = d

-- An order of one who may give it is carried out without a call of the kernel: nothing changes but
-- what it asks for, once that is saved where it has to be, and the reply tells just that.
pub record AnswersAtOnce (who : Named) (line : List ℕ) (d : DaemonState) (became : Stored)
    (e : DaemonState) : Type 0 where
  pub asked : Request
  pub reads : request_read line ≡ Ok asked
  pub granted : is_granted d.access who (needs asked) ≡ true
  pub outcome : Outcome
  pub comes : ComesTo d asked outcome
  pub in_force : IsInForce d.sweep.judge outcome.change became
  pub state : e
      ≡ if_watching outcome.watches
      (replying (replies.Lines outcome.lines) (with_changes outcome.change (noted_store became d)))

-- over kernels from k to l, where that became of the save of what the order changes
abbrev pub AnswersEvent : Event → Kernel → DaemonState → Stored → Kernel → DaemonState → Type 0
AnswersEvent (Sweep moment) k d became l e = (l ≡ k) × (became ≡ stored.NotNeeded) × (e ≡ d)
AnswersEvent (Hint moment piece) k d became l e =
    (l ≡ k) × (became ≡ stored.NotNeeded) × MeetsPiece piece d e
AnswersEvent (Order moment who line) k d became l e =
    RefusesOrder who line k d became l e
    ⊎ (((l ≡ k) × AnswersAtOnce who line d became e) ⊎ CarriesOut who line k d became l e)

-- where a kernel is told behind it, one was told before it; and where that is sound and the
-- standings are of its devices, this is so
abbrev pub AnswersInEvent : {S : Type 0} → (S → Option Kernel) → Event → S → DaemonState → Stored
    → S
    → DaemonState → Type 0
AnswersInEvent told event s d became t e =
    (l : Kernel) → told t ≡ Some l
    → (k : Kernel) × (told s ≡ Some k)
    × (IsKernel k → Stand k d.sweep.standings d.sweep.next → AnswersEvent event k d became l e)

-- the calls of an order that was refused: none, or the probe of a standing's device, whose failure
-- the reply tells
pub record GoesAsRefusal (d : DaemonState) (became : Stored) (made : List Made) (e : DaemonState) :
    Type 0 where
  pub refused : Refusal
  pub calls : (made ≡ [])
      ⊎ ((x : Standing) × (t : ToldAnswer Probe) × Has d.sweep.standings x
      × (made ≡ made_with (Ask_alive x.held.0) t ∷ []))
  pub told : failures made ≡ told_in_reply (Err refused)
  pub state : e ≡ replying (replies.Refused refused) (noted_store became d)

-- those of one that was carried out: a probe that finds the device, and then those that bring it to
-- its verdict
pub record GoesAsVerdict {S : Type 0} (gives : S → (call : Call) → Answer call → S → Type 0)
    (calls faults : S → ℕ) (who : Named) (s : S) (d : DaemonState) (became : Stored)
    (made : List Made) (t : S) (e : DaemonState) : Type 0 where
  pub number : ℕ
  pub verdict : Target
  pub standing : Standing
  pub stands : numbered number d.sweep.standings ≡ Some standing
  pub on : Bool
  pub found : ToldAnswer Probe
  pub alive : found.answer ≡ probe.Alive on
  pub behind : S
  pub probed : gives s (Ask_alive standing.held.0) found behind
  pub change : Option Change
  pub changed : DaemonState
  pub after_change : changed ≡ with_changes change (noted_store became d)
  pub how : Settled
  pub kept : Kept
  pub goes : GoesAsOrder gives calls faults (with_verdict verdict who standing) on behind
      changed.sweep.entries t kept.standings kept.entries how
  pub made_is : made ≡ made_with (Ask_alive standing.held.0) found ∷ goes.made
  pub leaves : LeavesVerdict number verdict changed.sweep.standings kept.standings how e.reply
  pub lines : List (List ℕ)
  pub state : e ≡ answered_with changed lines (how, kept)

abbrev pub GoesAsAnswer : {S : Type 0} → (S → (call : Call) → Answer call → S → Type 0) → (S → ℕ)
    → (S → ℕ) → Event → S → DaemonState → Stored → List Made → S → DaemonState → Type 0
GoesAsAnswer gives calls faults (Sweep moment) s d became made t e = (made ≡ []) × (e ≡ d)
GoesAsAnswer gives calls faults (Hint moment piece) s d became made t e =
    (made ≡ []) × MeetsPiece piece d e
GoesAsAnswer gives calls faults (Order moment who line) s d became made t e =
    GoesAsRefusal d became made e
    ⊎ (((made ≡ []) × AnswersAtOnce who line d became e)
    ⊎ GoesAsVerdict gives calls faults who s d became made t e)

-- The stages of an order: on the kernel, what it comes to; on the disk, what it changes is saved if
-- it has to be, and is then in force; and on the kernel, what is then done.
pub record RunsOrder {S T : Type 0} (gives : S → (call : Call) → Answer call → S → Type 0)
    (keeps : T → (call : DiskCall) → DiskTold call → T → Type 0) (who : Named) (line : List ℕ)
    (s : S) (o : T) (d : DaemonState) (became : Stored) (t : S) (p : T) (a : DaemonState) : Type 0
  where
    pub choice : Choice
    pub behind : S
    pub asks : Runs gives s (asking d who line) choice behind
    pub stores : RunsDisk keeps o (storing d choice.change) became p
    pub acts : Runs gives behind
        (acting who (stored_with became choice.change d) (deed_after became choice.deed)) a t

-- a sweep alone has none, and a piece of uevents is read without a call
abbrev pub RunsAnswer : {S T : Type 0} → (S → (call : Call) → Answer call → S → Type 0)
    → (T → (call : DiskCall) → DiskTold call → T → Type 0) → Event → S → T → DaemonState → Stored
    → S → T → DaemonState → Type 0
RunsAnswer gives keeps (Sweep moment) s o d became t p a =
    (t ≡ s) × (p ≡ o) × (became ≡ stored.NotNeeded) × (a ≡ d)
RunsAnswer gives keeps (Hint moment piece) s o d became t p a =
    (t ≡ s) × (p ≡ o) × (became ≡ stored.NotNeeded) × MeetsPiece piece d a
RunsAnswer gives keeps (Order moment who line) s o d became t p a =
    RunsOrder gives keeps who line s o d became t p a

-- ---- a whole event

-- The calls of an event, from where it begins, are those of its order and of its last stage in
-- parts, and are numbered from 1. Each that failed, but for the probes of parents' held files, is
-- told with its number and the count of faults after it, and no other is; and both numbers rise
-- from one to the next.
pub record TellsEvent {S : Type 0} (gives : S → (call : Call) → Answer call → S → Type 0)
    (calls faults : S → ℕ) (event : Event) (s : S) (d : DaemonState) (became : Stored) (m : S)
    (a : DaemonState) (t : S) (e : DaemonState) : Type 0 where
  pub order : List Made
  pub along : Along gives s order m
  pub answers : GoesAsAnswer gives calls faults event s d became order m a
  pub swept : State Judging
  pub goes : GoesAsDue gives calls faults a.due m a.sweep t swept
  pub entries : e.sweep ≡ record swept { entries = swept.entries ++ entry.End a.event ∷ [] }
  pub exact : failures_told e.sweep.entries
      ≡ failures (order ++ goes.telling)
  pub numbered : AreNumbered 0 (order ++ goes.made)
  pub rises : Rises 0 (faults s) (failures_told e.sweep.entries)

-- the count that a failed save tells is the disk's, and it rose
abbrev pub TellsTried : Option Saved → ℕ → ℕ → Type 0
TellsTried None before after = after ≡ before
TellsTried (Some saved) before after = (before ≤ after) × TellsSaveFault saved before after

module _ {S T : Type 0} (sysfs : Sysfs.Ghosts S) (disk : RuleDisk.Ghosts T) where
  open sysfs use {begins, gives, told, calls, faults}
  open disk use {keeps, told as disk_told, faults as disk_faults}

  -- An event: on the disk a pending save, and what became of it; on the kernel, where the
  -- numbering of calls begins anew, and on the disk the order, or the piece of uevents, from the
  -- state behind that; and on the kernel the sweep, or the settling of the names that are due, from
  -- the state behind this. What a crash may leave of the rule file is kept, and what was written to
  -- it can be read again. A save is tried exactly where one was pending, and the entries tell what
  -- became of it. Each device that was judged was bound by calls of the event.
  pub record HandlesEvent (event : Event) (s : S) (o : T) (d : DaemonState)
      (t : S) (p : T) (e : DaemonState) : Type 0 where
    pub tried : Option Saved
    pub disk_tried : T
    pub tries : RunsDisk keeps o (trying d) tried disk_tried
    pub counted : TellsTried tried (disk_faults o) (disk_faults disk_tried)
    pub start : S
    pub begun_there : begins s start
    pub became : Stored
    pub middle : S
    pub answered : DaemonState
    pub answers : RunsAnswer gives keeps event start disk_tried (ready event tried d)
        became middle p answered
    pub answers_law : AnswersInEvent told event s (ready event tried d) became middle answered
    pub written : WritesEvent event d became
    pub saveable : IsSaveable d.sweep.judge.rules
    pub saveable_after : IsSaveable e.sweep.judge.rules
    pub counted_store : TellsStored became (disk_faults disk_tried) (disk_faults p)
    pub runs : Runs gives middle (handling answered) e t
    pub law : Handles told middle answered t e
    pub faults_told : TellsEvent gives calls faults event start (ready event tried d)
        became middle answered t e
    pub once : NamesOnceIn told middle answered t e
    pub binds : BindsJudged sysfs start answered t e
    pub file : KeepsFile disk_told event tried became o d p e
    pub saves : TriesSave event tried became d e

  -- An event with something between its stages, on the kernel's object, which that relation tells:
  -- behind the pending save, and behind the order. The stages are those of an event, what a crash
  -- may leave of the rule file is kept, and a save is tried exactly where one was pending.
  pub record PassesEvent (goes : S → T → S → Type 0) (event : Event) (s : S) (o : T)
      (d : DaemonState) (t : S) (p : T) (e : DaemonState) : Type 0 where
    pub tried : Option Saved
    pub disk_tried : T
    pub tries : RunsDisk keeps o (trying d) tried disk_tried
    pub start : S
    pub begun_there : begins s start
    pub started : S
    pub passes : goes start disk_tried started
    pub became : Stored
    pub middle : S
    pub answered : DaemonState
    pub answers : RunsAnswer gives keeps event started disk_tried (ready event tried d)
        became middle p answered
    pub resumed : S
    pub passes_on : goes middle p resumed
    pub runs : Runs gives resumed (handling answered) e t
    pub binds : BindsJudged sysfs resumed answered t e
    pub written : WritesEvent event d became
    pub saveable : IsSaveable d.sweep.judge.rules
    pub saveable_after : IsSaveable e.sweep.judge.rules
    pub numbered : IsNumbered d.sweep.judge.rules d.sweep.judge.next
    pub numbered_after : IsNumbered e.sweep.judge.rules e.sweep.judge.next
    pub file : KeepsFile disk_told event tried became o d p e
    pub saves : TriesSave event tried became d e
