-- A run of the daemon from its start: a chain of events, each from the state that the one before
-- left.
use Rattle.std.specs.Prelude.{◌≡◌, ℕ, Bool, true, false, not, is_none, ◌&&◌, ◌||◌, List, [], ◌∷◌, ◌++◌, map, Option, Some, None, Ok, ◌⊎◌, slice_get}
use Rattle.std.specs.List.{list_any}
use Rattle.ug_types.specs.Names.{parent_of}
use Rattle.ug_types.specs.declared.refusal.Refusal.TheVariants as refusal
use Rattle.ug_types.specs.declared.saved.Saved.{Saved}
use Rattle.ug_types.specs.declared.verdict.Cause.TheVariants as causes
use Rattle.ug_types.specs.declared.verdict.Moment.{Moment}
use Rattle.ug_kernel.specs.declared.control.Control.TheVariants.{Authorized}
use Rattle.ug_kernel.specs.declared.control.Write.{Write}
use Rattle.ug_types.specs.Principals.{Named}
use Rattle.ug_kernel.specs.declared.device.Device.{Device}
use Rattle.ug_kernel.specs.declared.device.Effect.{Effect}
use Rattle.ug_kernel.specs.declared.calls.Wrote.{Wrote}
use Rattle.ug_kernel.specs.Defaults.{default_at, set_by}
use Rattle.ug_kernel.specs.Kernel.{Kernel, Live, Moves}
use Rattle.ug_audit.specs.declared.entry.Entry.{Entry}
use Rattle.ug_audit.specs.declared.entry.Entry.TheVariants as entry
use Rattle.ug_policy.specs.declared.entry.RuleEntry.{RuleEntry}
use Rattle.ug_proto.specs.declared.reply.Reply.{Reply}
use Rattle.ug_proto.specs.declared.reply.Reply.TheVariants as replies
use Rattle.ug_proto.specs.declared.request.Request.{Request}
use Rattle.ug_proto.specs.declared.request.Request.TheVariants as request
use Rattle.ug_proto.specs.Privileges.{needs}
use Rattle.ug_proto.specs.Requests.{request_read}
use Rattle.ug_store.specs.Disk.{Disk, IsAsItWas}
use Rattle.ug_table.specs.Allowed.{allowed_records}
use Rattle.ug_table.specs.Bring.{CallsFor, default_write}
use Rattle.ug_table.specs.Laws.{IsDevice, IsProbed, Stand, AreDefaulted, AreLeft, AreMarkedIn, MayHave, MayHaveNot, wrote_entries, IsJudged, IsAsJudged}
use Rattle.ug_table.specs.Parts.{writes_in}
use Rattle.ug_table.specs.Standings.{numbered}
use Rattle.ug_table.specs.declared.standing.Standing.{Standing}
use Rattle.ug_core.specs.Policy.{Judging}
use Rattle.ug_core.specs.Verdicts.{IsVerdict}
use Rattle.ug_core.specs.Durable.{IsKept, unsure_behind, unsure_with, KeepsRules, KeepsFile, texts_of}
use Rattle.ug_core.specs.Event.{DaemonState, IsStarted, moment_of, ready}
use Rattle.ug_core.specs.Pending.{TriesSave}
use Rattle.ug_core.specs.Privileges.{is_granted}
use Rattle.ug_core.specs.InForce.{Decision, IsLastTold, decision_of, decisions_in, decided_entry, is_ordered, unordered, in_force, AgreeInForce, given_numbers, Follow}
use Rattle.ug_core.specs.Laws.{AnswersEvent, Handled, tried_in}
use Rattle.ug_core.specs.Changes.{change_asked}
use Rattle.ug_core.specs.Values.{LogsValues, on_by}
use Rattle.ug_core.specs.Rulings.{CanTake, Changed, Decided, PolicyStep, Ruled, Ruling, Told, Was_changed, after_steps, at_moment, decision_by, told_by}
use Rattle.ug_core.specs.declared.changes.Change.{Change}
use Rattle.ug_core.specs.declared.storing.Stored.{Stored}
use Rattle.ug_types.specs.declared.event.Event.{Event}
use Rattle.ug_types.specs.declared.event.Event.TheVariants.{Sweep, Order, Hint}

-- an event that was handled, with what was there before it, behind its order and after it, and what
-- became of a pending save and of that of its order. The disk is there where it was told.
pub record Happened : Type 0 where
  pub event : Event
  pub tried : Option Saved
  pub kernel : Kernel
  pub disk : Option Disk
  pub before : DaemonState
  pub became : Stored
  pub kernel_answered : Kernel
  pub answered : DaemonState
  pub kernel_after : Kernel
  pub disk_after : Option Disk
  pub after : DaemonState

-- what its order, or else its sweep, began with
abbrev pub ready_of : Happened → DaemonState
ready_of h = ready h.event h.tried h.before

-- the laws of one event
pub record IsEvent (h : Happened) : Type 0 where
  pub answers : AnswersEvent h.event h.kernel (ready_of h) h.became h.kernel_answered h.answered
  pub handled : Handled h.kernel_answered h.answered h.kernel_after h.after
  pub file : KeepsFile (λ (o : Option Disk). o) h.event h.tried h.became h.disk h.before
      h.disk_after h.after
  pub saves : TriesSave h.event h.tried h.became h.before h.after

-- where a disk is told, one was told before, and is as it was
abbrev pub StaysOnDisk : Option Disk → Option Disk → Type 0
StaysOnDisk o p = (n : Disk) → p ≡ Some n → (m : Disk) × (o ≡ Some m) × IsAsItWas m n

-- between two events the kernel moves by itself, and the files and the daemon stay as they are
abbrev pub Chain : Kernel → Option Disk → DaemonState → List Happened → Kernel → Option Disk
    → DaemonState → Type 0
Chain k o d [] l p e = Moves k l × StaysOnDisk o p × (e ≡ d)
Chain k o d (h ∷ hs) l p e =
    Moves k h.kernel × StaysOnDisk o h.disk × (h.before ≡ d) × IsEvent h
    × Chain h.kernel_after h.disk_after h.after hs l p e

-- all entries of a run
abbrev pub journal : List Happened → List Entry
journal [] = []
journal (h ∷ hs) = h.after.sweep.entries ++ journal hs

-- what an event tells of the policy: the change that its order asked for, where it was done, and
-- then the decisions of its sweep

abbrev pub changes_asked : DaemonState → Event → Option Change
changes_asked d (Sweep moment) = None
changes_asked d (Hint moment piece) = None
changes_asked d (Order moment who line) =
    change_asked d.sweep.standings d.sweep.judge (request_read line)

-- a change was done, too, where a call behind it failed or memory was short for it
abbrev pub was_done : Option Reply → Bool
was_done (Some (replies.Lines lines)) = true
was_done (Some (replies.Refused (refusal.DeviceFault call count))) = true
was_done (Some (replies.Refused (refusal.Memory stands))) = stands
was_done reply = false

abbrev pub told_if : Bool → Option Change → List Told
told_if true (Some change) = Was_changed change ∷ []
told_if done change = []

abbrev pub decided : List Decision → List Told
decided ds = map Decided ds

abbrev pub told_in : Happened → List Told
told_in h =
    told_if (was_done h.after.reply) (changes_asked (ready_of h) h.event)
    ++ decided (unordered (decisions_in h.after.sweep.entries))

abbrev pub told_of : List Happened → List Told
told_of [] = []
told_of (h ∷ hs) = told_in h ++ told_of hs

-- the entry tells that the listing didn't succeed
abbrev pub tells_unlisted : Entry → Bool
tells_unlisted (entry.UnsettledAll why) = true
tells_unlisted e = false

-- whether the event's listing succeeded; one with names that are due has none
abbrev pub lists_all : Happened → Bool
lists_all h = is_none h.answered.due && not (list_any tells_unlisted h.after.sweep.entries)

-- whether the listing of one of the events succeeded
abbrev pub has_listed : List Happened → Bool
has_listed [] = false
has_listed (h ∷ hs) = lists_all h || has_listed hs

-- where the device was there before an order, its value is the one that it had then, but for what
-- the order's writes made of it
abbrev pub IsAsMet : Kernel → Kernel → ℕ → Bool → Type 0
IsAsMet k l i on = (d : Device) → slice_get k.devices i ≡ Some d
    → (more : List Effect) × (l.log ≡ k.log ++ more) × (on ≡ on_by i more d.on)

-- what was told of the policy before the entries that the event's last stage noted behind these
abbrev pub told_before : List Happened → Happened → List Entry → List Told
told_before earlier h front =
    told_of earlier
    ++ (told_if (was_done h.after.reply) (changes_asked (ready_of h) h.event)
    ++ decided (unordered (decisions_in (h.answered.sweep.entries ++ front))))

-- The place of a ruling in a run, behind these steps of the policy: its event, and in that the
-- `judged` entry of its number, with the verdict and the cause that the policy gave as these steps
-- left it. They are just what was told before that entry. The moment is the event's. Devices count
-- as present where no listing of an earlier event had succeeded. The record is that of the very
-- device of the held file. The value is the one that this device had when the sweep began, if it
-- was there then; and that it had when the event began, but for what the writes of its order made
-- of it. The standings are those that are left there of the ones that the last stage began with,
-- and each is marked as settled as is told there.
pub record IsPlaced (policy : Judging) (hs : List Happened) (before : List PolicyStep) (k : Kernel)
    (r : Ruling) : Type 0 where
  pub earlier : List Happened
  pub event : Happened
  pub later : List Happened
  pub in_run : hs ≡ earlier ++ event ∷ later
  pub front : List Entry
  pub back : List Entry
  pub in_event : event.after.sweep.entries
      ≡ event.answered.sweep.entries
      ++ (front ++ decided_entry (decision_by (after_steps policy before) r) ∷ back)
  pub told : told_by policy before ≡ told_before earlier event front
  pub moment : r.moment ≡ moment_of event.event
  pub present : r.present ≡ not (has_listed earlier)
  pub device : IsDevice k r.device r.name r.held r.judged
  pub probed : IsProbed event.kernel_answered event.kernel_after r.name r.held.0 r.device r.on
  pub met : IsAsMet event.kernel event.kernel_answered r.device r.on
  pub stand : Stand event.kernel_after r.standings r.number
  pub left : AreLeft event.answered.sweep.standings front r.standings
  pub marked : AreMarkedIn (tried_in event.answered.due) r.name event.answered.sweep.standings front
      r.standings

-- The decision, which is told behind these entries of the journal, is that of a ruling on that
-- device at just this place in the run: it was given by the policy as all rulings and changes
-- before it left it, with the words that they didn't take, and with the histories of their
-- judgements.
pub record WasJudged (policy : Judging) (hs : List Happened) (steps : List PolicyStep) (k : Kernel)
    (es : List Entry) (i : ℕ) (d : Decision) : Type 0 where
  pub before : List PolicyStep
  pub ruling : Ruling
  pub after : List PolicyStep
  pub at : steps ≡ before ++ Ruled ruling ∷ after
  pub number : ruling.number ≡ d.number
  pub name : ruling.name ≡ d.name
  pub held : ruling.held ≡ d.held
  pub device : ruling.device ≡ i
  pub placed : IsPlaced policy hs before k ruling
  pub here : es
      ≡ journal placed.earlier ++ (placed.event.answered.sweep.entries ++ placed.front)
  pub given : IsVerdict (at_moment ruling.moment (after_steps policy before))
      (allowed_records ruling.standings) ruling.judged (is_none (parent_of ruling.name))
      ruling.present ruling.on d.verdict d.cause

-- The change, which comes behind these steps of the policy, was ordered: the event behind what they
-- tell is an order of that user or group, which asks for it, and which it may ask for; and it was
-- answered as done.
pub record WasAsked (policy : Judging) (hs : List Happened) (before : List PolicyStep)
    (change : Change) : Type 0 where
  pub earlier : List Happened
  pub event : Happened
  pub later : List Happened
  pub in_run : hs ≡ earlier ++ event ∷ later
  pub told : told_by policy before ≡ told_of earlier
  pub moment : Moment
  pub who : Named
  pub line : List ℕ
  pub is_order : event.event ≡ Order moment who line
  pub asked : Request
  pub reads : request_read line ≡ Ok asked
  pub asks : change_asked event.before.sweep.standings event.before.sweep.judge (Ok asked)
      ≡ Some change
  pub granted : is_granted event.before.access who (needs asked) ≡ true
  pub done : was_done event.after.reply ≡ true

-- The decision, which is told behind these entries of the journal, was ordered: the event that has
-- it there is an order of that user or group, which asks for that verdict on the device of that
-- number, and which it may ask for. The number's standing had that name and that held file, and the
-- verdict that was in force then.
pub record WasOrdered (hs : List Happened) (es : List Entry) (d : Decision) : Type 0 where
  pub earlier : List Happened
  pub event : Happened
  pub later : List Happened
  pub in_run : hs ≡ earlier ++ event ∷ later
  pub moment : Moment
  pub who : Named
  pub line : List ℕ
  pub is_order : event.event ≡ Order moment who line
  pub cause : d.cause ≡ causes.Order who
  pub permanent : Bool
  pub asked : request_read line ≡ Ok (request.Device d.number d.verdict permanent)
  pub granted : is_granted event.before.access who
      (needs (request.Device d.number d.verdict permanent))
      ≡ true
  pub standing : Standing
  pub stands : numbered d.number event.before.sweep.standings ≡ Some standing
  pub force : in_force [] (journal earlier) d.number ≡ Some (decision_of standing)
  pub name : standing.name ≡ d.name
  pub held : standing.held ≡ d.held
  pub front : List Entry
  pub back : List Entry
  pub in_event : event.answered.sweep.entries ≡ front ++ decided_entry d ∷ back
  pub here : es ≡ journal earlier ++ front

-- the decision that is told behind these entries was given on that device, by the policy or by an
-- order
abbrev pub WasDecided : Judging → List Happened → List PolicyStep → Kernel → List Entry → ℕ
    → Decision → Type 0
WasDecided policy hs steps k es i d =
    WasJudged policy hs steps k es i d
    ⊎
    (WasOrdered hs es d
    × (slice_get k.held d.held.0 ≡ Some (record { device = i; control = Authorized })))

-- Behind these entries the decision is in force, and calls for the effect, or the setting of the
-- defaults does. It is the last that they tell of its number, and where they tell it, it was given
-- on the effect's device.
pub record IsExplained (hub : Option Write) (policy : Judging) (hs : List Happened)
    (steps : List PolicyStep) (k : Kernel) (front : List Entry) (decision : Decision)
    (effect : Effect) : Type 0 where
  pub force : in_force [] front decision.number ≡ Some decision
  pub wanted : CallsFor hub decision.name decision.verdict effect.write
  pub told : IsLastTold front decision
  pub decided : WasDecided policy hs steps k told.before effect.device decision

-- What a log gained, by the entries since, both in their order: an effect for each write that is
-- told to have had one, and for no other but one that failed, which may have had its effect. Each
-- is explained where its intent stands.
pub data Explains (hub : Option Write) (policy : Judging) (hs : List Happened)
    (steps : List PolicyStep) (k : Kernel) : List Entry → List Effect → Type 0 where
  Nothing_told : Explains hub policy hs steps k [] []
  No_write : (es more : List Entry) (log : List Effect) → writes_in more ≡ []
      → Explains hub policy hs steps k es log → Explains hub policy hs steps k (es ++ more) log
  Had_effect : (es : List Entry) (log : List Effect) (decision : Decision) (outcome : Wrote)
      (effect : Effect) → MayHave outcome
      → IsExplained hub policy hs steps k es decision effect
      → Explains hub policy hs steps k es log
      → Explains hub policy hs steps k
      (es ++ wrote_entries decision.number decision.name effect.write outcome)
      (log ++ effect ∷ [])
  Had_none : (es : List Entry) (log : List Effect) (number : ℕ) (name : List ℕ) (what : Write)
      (outcome : Wrote) → MayHaveNot outcome
      → Explains hub policy hs steps k es log
      → Explains hub policy hs steps k (es ++ wrote_entries number name what outcome) log

-- each effect since the first kernel is explained, at its place in the log
pub record AllExplained (hub : Option Write) (policy : Judging) (hs : List Happened)
    (steps : List PolicyStep) (first k : Kernel) : Type 0 where
  pub added : List Effect
  pub log : k.log ≡ first.log ++ added
  pub each : Explains hub policy hs steps k (journal hs) added

-- the device was judged under the number of its standing and under no other, and stands as judged;
-- and where it is a root hub whose default is written, it has that default
pub record IsJudgedOnce (hub : Option Write) (policy : Judging) (hs : List Happened)
    (steps : List PolicyStep) (k : Kernel) (standings : List Standing) (i : ℕ) : Type 0 where
  pub stands : IsAsJudged hub k standings i
  pub told : IsLastTold (journal hs) (decision_of stands.standing.s)
  pub decided : WasDecided policy hs steps k told.before i (decision_of stands.standing.s)
  pub default : (what : Write) → parent_of stands.standing.s.name ≡ None
      → default_write hub ≡ Some what → default_at i k ≡ set_by what
  pub once : (number : ℕ) → IsJudged k (journal hs) number i → number ≡ stands.standing.s.number

-- the texts that aren't sure after an event, and after these events

abbrev pub unsure_past : List (List ℕ) → Happened → List (List ℕ)
unsure_past unsure h =
    unsure_behind h.became (texts_of h.event h.before) (unsure_with h.tried unsure)

abbrev pub unsure_of : List (List ℕ) → List Happened → List (List ℕ)
unsure_of unsure [] = unsure
unsure_of unsure (h ∷ hs) = unsure_of (unsure_past unsure h) hs

-- the disk was told before the event and after it, and at each moment of it the rule file was kept
pub record KeptIn (unsure : List (List ℕ)) (h : Happened) : Type 0 where
  pub disk : Disk
  pub told : h.disk ≡ Some disk
  pub disk_after : Disk
  pub told_after : h.disk_after ≡ Some disk_after
  pub before : IsKept h.before.sweep.judge.rules unsure disk.left
  pub kept : KeepsRules (texts_of h.event h.before) h.tried h.became h.before unsure disk h.after
      disk_after

-- in each event
abbrev pub EachKept : List (List ℕ) → List Happened → Type 0
EachKept unsure [] = Unit {0}
EachKept unsure (h ∷ hs) = KeptIn unsure h × EachKept (unsure_past unsure h) hs

-- Where a disk is told at the end, one was told at the start. Where a crash then left no text but
-- that of the rules, or one of those that aren't sure, it is so at each moment since; and each save
-- that is done makes sure.
abbrev pub IsKeptThroughout : List RuleEntry → Option Disk → List Happened → Option Disk
    → List RuleEntry → Type 0
IsKeptThroughout rules o hs p later =
    (n : Disk) → p ≡ Some n
    → (m : Disk) × (o ≡ Some m) × ((unsure : List (List ℕ)) → IsKept rules unsure m.left
    → EachKept unsure hs × IsKept later (unsure_of unsure hs) n.left)

-- What holds of any run from a start with that policy. What its events tell of the policy, in
-- order, is a list of steps: rulings, each at its place and each by the policy as the steps before
-- it left it, and changes, each by the order at its place, of one who may. All other decisions were
-- ordered, each where it is told, by one who may. Each effect is explained, and values change by
-- effects alone. Each new device got the next number; each standing has the verdict in force; what
-- is written to the defaults stays, and is the default of each device whose standing is marked so;
-- and a device that still lives and stands as judged was judged once. The rule file is kept.
pub record IsRun (policy : Judging) (hub : Option Write) (first : Kernel) (o : Option Disk)
    (hs : List Happened) (k : Kernel) (p : Option Disk) (e : DaemonState) : Type 0 where
  pub steps : List PolicyStep
  pub told : told_of hs ≡ told_by policy steps
  pub can : CanTake policy steps
  pub placed : (before : List PolicyStep) (r : Ruling) (after : List PolicyStep)
      → steps ≡ before ++ Ruled r ∷ after → IsPlaced policy hs before k r
  pub changed : (before : List PolicyStep) (change : Change) (after : List PolicyStep)
      → steps ≡ before ++ Changed change ∷ after → WasAsked policy hs before change
  pub ordered : (front : List Entry) (d : Decision) (back : List Entry)
      → journal hs ≡ front ++ decided_entry d ∷ back → is_ordered d.cause ≡ true
      → WasOrdered hs front d
  pub explained : AllExplained hub policy hs steps first k
  pub values : LogsValues first k
  pub numbers : Follow 1 (given_numbers (journal hs)) e.sweep.next
  pub agree : AgreeInForce [] (journal hs) e.sweep.standings
  pub setting : e.sweep.hub ≡ hub
  pub defaulted : AreDefaulted hub k e.sweep.standings
  pub listed : e.sweep.listed ≡ has_listed hs
  pub once : (i : ℕ) (d : Device) → Live k.devices i d → IsAsJudged hub k e.sweep.standings i
      → IsJudgedOnce hub policy hs steps k e.sweep.standings i
  pub file : IsKeptThroughout policy.rules o hs p e.sweep.judge.rules

abbrev pub AreRuns : Type 0
AreRuns =
    (policy : Judging) (hub : Option Write) (number : ℕ) (first : Kernel) (o : Option Disk)
    (d : DaemonState) (hs : List Happened) (k : Kernel) (p : Option Disk) (e : DaemonState)
    → IsStarted policy hub number d → Chain first o d hs k p e → IsRun policy hub first o hs k p e
