-- The headline: each write that authorises a device reached the very device that was judged, and
-- what allowed it was in force then.
use Rattle.std.specs.Prelude.{◌≡◌, ℕ, Bool, true, false, not, ◌||◌, ◌⊎◌, List, [], ◌∷◌, ◌++◌, map, Option, Some, None, slice_get}
use Rattle.rand_core.specs.Stream.{Stream}
use Rattle.ug_types.specs.Elements.{Has}
use Rattle.ug_types.specs.Principals.{Named}
use Rattle.ug_types.specs.declared.parameter.Inserted.TheVariants as inserted
use Rattle.ug_types.specs.declared.record.DeviceRecord.{DeviceRecord}
use Rattle.ug_types.specs.declared.verdict.Cause.{Cause}
use Rattle.ug_types.specs.declared.verdict.Cause.TheVariants as cause
use Rattle.ug_types.specs.declared.verdict.Moment.{Moment}
use Rattle.ug_types.specs.declared.verdict.Target.{Target}
use Rattle.ug_types.specs.declared.verdict.Target.TheVariants as target
use Rattle.ug_kernel.specs.declared.calls.Wrote.{Wrote}
use Rattle.ug_kernel.specs.declared.control.Control.TheVariants.{Authorized}
use Rattle.ug_kernel.specs.declared.control.Held.{Held}
use Rattle.ug_kernel.specs.declared.control.Write.{Write}
use Rattle.ug_kernel.specs.declared.control.Write.TheVariants as write
use Rattle.ug_kernel.specs.declared.device.Effect.{Effect}
use Rattle.ug_kernel.specs.Called.{IsAlive}
use Rattle.ug_kernel.specs.Kernel.{Kernel}
use Rattle.ug_kernel.specs.Quiet.{Grows}
use Rattle.ug_cond.specs.declared.context.Context.{Context}
use Rattle.ug_cond.specs.Judgements.{Judgement}
use Rattle.ug_cond.specs.Words.{behind}
use Rattle.ug_conf.specs.declared.settings.Present.{Present}
use Rattle.ug_conf.specs.declared.settings.Present.TheVariants as present
use Rattle.ug_policy.specs.declared.entry.RuleEntry.{RuleEntry}
use Rattle.ug_table.specs.Laws.{MayHave, MayHaveNot}
use Rattle.ug_core.specs.declared.changes.Change.{Change}
use Rattle.ug_core.specs.declared.classes.Classes.{Classes}
use Rattle.ug_core.specs.Changes.{changed_by}
use Rattle.ug_core.specs.Policy.{Judging, context_at}
use Rattle.ug_headline.specs.Devices.{IsJudgedDevice, is_root_name}
use Rattle.ug_headline.specs.Rules.{Finds}

-- ---- what is seen of a run

-- A line of the journal: a verdict, with its number and the name and the held file that it is on,
-- and its cause; what is about to be written; what came of it; or one that tells nothing of these.
pub data Line : Type 0 where
  Verdict : ℕ → List ℕ → Held → Target → Cause → Line
  Intends : ℕ → List ℕ → Write → Line
  Did : ℕ → List ℕ → Write → Wrote → Line
  Else : Line

-- An event: when it began; whose order it had, if it had one, and whether the access files grant
-- that order; the number and the verdict, or the change of rules and settings, that it asked for,
-- and whether it was answered as done; the kernel when its devices began to be settled, and at its
-- end; what the journal has of it; and whether it listed all devices.
pub record Seen : Type 0 where
  pub moment : Moment
  pub who : Option Named
  pub granted : Bool
  pub verdict : Option (ℕ × Target)
  pub change : Option Change
  pub done : Bool
  pub begun : Kernel
  pub ended : Kernel
  pub lines : List Line
  pub lists : Bool

abbrev pub lines_of_run : List Seen → List Line
lines_of_run [] = []
lines_of_run (event ∷ run) = event.lines ++ lines_of_run run

abbrev pub has_listed_all : List Seen → Bool
has_listed_all [] = false
has_listed_all (event ∷ run) = event.lists || has_listed_all run

-- the changes that were done, and the verdicts but for those that were ordered, in order
pub data Deed : Type 0 where
  Changes : Change → Deed
  Judges : ℕ → List ℕ → Held → Target → Cause → Deed

abbrev pub done_change : Bool → Option Change → List Deed
done_change true (Some change) = Changes change ∷ []
done_change done change = []

abbrev pub verdict_deed : Line → List Deed
verdict_deed (Verdict number name held verdict (cause.Order who)) = []
verdict_deed (Verdict number name held verdict why) = Judges number name held verdict why ∷ []
verdict_deed line = []

abbrev pub verdict_deeds : List Line → List Deed
verdict_deeds [] = []
verdict_deeds (line ∷ lines) = verdict_deed line ++ verdict_deeds lines

abbrev pub deeds_of : List Seen → List Deed
deeds_of [] = []
deeds_of (event ∷ run) =
    done_change event.done event.change ++ (verdict_deeds event.lines ++ deeds_of run)

-- what changes left of the settings and rules of the start
abbrev pub after_deeds : List Deed → Judging → Judging
after_deeds [] start = start
after_deeds (Changes change ∷ deeds) start = after_deeds deeds (changed_by change start)
after_deeds (Judges number name held verdict why ∷ deeds) start = after_deeds deeds start

-- the rules that decided, in order; None where the rules were asked and none did
abbrev pub applied_by : Cause → List (Option ℕ)
applied_by (cause.Rule id) = Some id ∷ []
applied_by cause.Implicit = None ∷ []
applied_by why = []

abbrev pub applied_in : List Deed → List (Option ℕ)
applied_in [] = []
applied_in (Changes change ∷ deeds) = applied_in deeds
applied_in (Judges number name held verdict why ∷ deeds) = applied_by why ++ applied_in deeds

-- ---- why a device is allowed

-- the setting for devices that are present: for root hubs, and for others
abbrev pub present_setting : Classes → Bool → Present
present_setting settings true = settings.present_controller
present_setting settings false = settings.present_device

-- the settings leave it to the rules
abbrev pub AreAsked : Classes → Bool → Bool → Type 0
AreAsked settings root true = present_setting settings root ≡ present.Apply
AreAsked settings root false = settings.inserted ≡ inserted.Apply

-- These settings and rules allow a device that is a root hub or isn't, was there at the start or
-- wasn't, and is on or off.
pub data Reason (now : Judging) (judgements : List Judgement) (ctx : Context)
    (beside : List DeviceRecord) (words : Stream) (dev : DeviceRecord)
    (root was on : Bool) : Cause → Type 0 where
  By_rule : (e : RuleEntry) → AreAsked now.classes root was
      → Finds dev judgements ctx beside now.rules words (Some e) → e.rule.target ≡ target.Allow
      → Reason now judgements ctx beside words dev root was on (cause.Rule e.id)
  By_none : AreAsked now.classes root was → Finds dev judgements ctx beside now.rules words None
      → now.classes.implicit ≡ target.Allow
      → Reason now judgements ctx beside words dev root was on cause.Implicit
  By_setting : was ≡ true → present_setting now.classes root ≡ present.Allow
      → Reason now judgements ctx beside words dev root was on cause.Present
  By_keeping : was ≡ true → present_setting now.classes root ≡ present.Keep → on ≡ true
      → Reason now judgements ctx beside words dev root was on cause.Keep

-- In an event of the run, which notes it, the device of that file was judged. Its record is that of
-- its own descriptors and its parent's, and those beside are of devices, too; it had that value
-- amid the event. The settings and rules in force allowed it: what the changes before left of
-- those of the start, each of them ordered by one who may.
pub record WasJudgedByRules (start : Judging) (run : List Seen) (k : Kernel) (number i : ℕ)
    (name : List ℕ) (held : Held) (why : Cause) : Type 0 where
  pub earlier : List Seen
  pub event : Seen
  pub later : List Seen
  pub in_run : run ≡ earlier ++ event ∷ later
  pub noted : (verdict : Target) × (c : Cause)
      × Has event.lines (Verdict number name held verdict c)
  pub dev : DeviceRecord
  pub device : IsJudgedDevice k i name held dev
  pub on : Bool
  pub amid : (m : Kernel) × Grows event.begun m × Grows m event.ended × IsAlive held.0 on m
  pub beside : List DeviceRecord
  pub are_devices : (x : DeviceRecord) → Has beside x → (j : ℕ) × (n : List ℕ) × (h : Held)
      × IsJudgedDevice event.ended j n h x
  pub before : List Deed
  pub after : List Deed
  pub in_order : deeds_of run ≡ before ++ Judges number name held target.Allow why ∷ after
  pub ordered : (change : Change) → Has before (Changes change)
      → (e : Seen) × Has run e × (e.change ≡ Some change) × (e.granted ≡ true)
  pub judgements : List Judgement
  pub applied : map (λ (j : Judgement). j.applied) judgements ≡ applied_in before
  pub words : ℕ
  pub reason : Reason (after_deeds before start) judgements (context_at start.clock event.moment)
      beside (behind words start.stream) dev (is_root_name name)
      (not (has_listed_all earlier)) on why

-- An event of the run was an order of one who may, to allow the device of that number. The number
-- had been told before as that of that file.
pub record WasOrderedByOne (run : List Seen) (number : ℕ) (name : List ℕ) (held : Held)
    (why : Cause) : Type 0 where
  pub earlier : List Seen
  pub event : Seen
  pub later : List Seen
  pub in_run : run ≡ earlier ++ event ∷ later
  pub asks : event.verdict ≡ Some (number, target.Allow)
  pub granted : event.granted ≡ true
  pub who : (one : Named) × (event.who ≡ Some one) × (why ≡ cause.Order one)
  pub given : (verdict : Target) × (before : Cause)
      × Has (lines_of_run earlier) (Verdict number name held verdict before)

-- Behind these lines, which end within an event, the last verdict on the number allows it, on a
-- file that is the device's own; and the rules or an order gave it, in that event or before it.
pub record IsWarranted (start : Judging) (run : List Seen) (k : Kernel) (lines : List Line)
    (number i : ℕ) : Type 0 where
  pub earlier : List Seen
  pub event : Seen
  pub later : List Seen
  pub in_run : run ≡ earlier ++ event ∷ later
  pub within : (more : List Line) × (rest : List Line) × (lines ≡ lines_of_run earlier ++ more)
      × (event.lines ≡ more ++ rest)
  pub name : List ℕ
  pub held : Held
  pub why : Cause
  pub before : List Line
  pub since : List Line
  pub last : lines ≡ before ++ Verdict number name held target.Allow why ∷ since
  pub none : (n : List ℕ) (h : Held) (verdict : Target) (c : Cause)
      → Has since (Verdict number n h verdict c) → ⊥
  pub file : slice_get k.held held.0 ≡ Some (record { device = i; control = Authorized })
  pub allowed : WasJudgedByRules start (earlier ++ event ∷ []) k number i name held why
      ⊎ WasOrderedByOne (earlier ++ event ∷ []) number name held why

-- ---- the journal and the log

-- none of them tells of a write
abbrev pub AreSilent : List Line → Type 0
AreSilent [] = Unit {0}
AreSilent (Intends number name what ∷ lines) = ⊥
AreSilent (Did number name what outcome ∷ lines) = ⊥
AreSilent (line ∷ lines) = AreSilent lines

-- The journal tells of the log, in order: an effect for each write that was done, and perhaps for
-- one that failed. Each that authorises is warranted where its intent stands.
pub data TellsLog (start : Judging) (run : List Seen) (k : Kernel)
    : List Line → List Effect → Type 0 where
  Tells_none : TellsLog start run k [] []
  Tells_other : (lines more : List Line) (log : List Effect) → AreSilent more
      → TellsLog start run k lines log → TellsLog start run k (lines ++ more) log
  Tells_effect : (lines : List Line) (log : List Effect) (number : ℕ) (name : List ℕ)
      (outcome : Wrote) (effect : Effect) → MayHave outcome
      → (effect.write ≡ write.On → IsWarranted start run k lines number effect.device)
      → TellsLog start run k lines log
      → TellsLog start run k
      (lines ++ Intends number name effect.write ∷ Did number name effect.write outcome ∷ [])
      (log ++ effect ∷ [])
  Tells_failed : (lines : List Line) (log : List Effect) (number : ℕ) (name : List ℕ)
      (what : Write) (outcome : Wrote) → MayHaveNot outcome → TellsLog start run k lines log
      → TellsLog start run k (lines ++ Intends number name what ∷ Did number name what outcome ∷ [])
      log

-- what the run added to the kernel's log
pub record IsToldAndWarranted (start : Judging) (first : Kernel) (run : List Seen) (k : Kernel)
    : Type 0 where
  pub added : List Effect
  pub log : k.log ≡ first.log ++ added
  pub each : TellsLog start run k (lines_of_run run) added
