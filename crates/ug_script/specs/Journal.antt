-- What happens in a script from its first line on, and what that says of each write and of each
-- device.
use Rattle.std.specs.Prelude.{◌≡◌, ◌⊎◌, ℕ, ◌+◌, ◌≤◌, Bool, true, false, cond, ◌&&◌, if◌then◌else◌, List, [], ◌∷◌, ◌++◌, length, flat_map, Option, Some, None, Ok}
use Rattle.ug_types.specs.Elements.{Has}
use Rattle.ug_kernel.specs.declared.control.Write.{Write}
use Rattle.ug_types.specs.declared.rule.Rule as types
use Rattle.ug_kernel.specs.declared.device.Device.{Device}
use Rattle.ug_kernel.specs.Kernel.{Kernel, Live}
use Rattle.ug_sysfs.specs.World.{IsUnfailing, World}
use Rattle.ug_audit.specs.declared.entry.Entry.{Entry}
use Rattle.ug_script.specs.Play.{NameNobody}
use Rattle.ug_conf.specs.Texts.{conf_read}
use Rattle.ug_core.specs.Chain.{Happened, Chain, journal, IsRun, IsJudgedOnce, unsure_of}
use Rattle.ug_core.specs.Event.{DaemonState, has_numbers}
use Rattle.ug_core.specs.Policy.{Judging}
use Rattle.ug_core.specs.Rulings.{CanTake, PolicyStep, after_steps, changed_alone, judgements_for, words_for}
use Rattle.ug_core.specs.Stops.{AllReadable, WasUnsaved}
use Rattle.ug_core.specs.Verdicts.{IsLater}
use Rattle.ug_types.specs.declared.event.Event as events
use Rattle.ug_lines.specs.Lines.{lines_of}
use Rattle.ug_print.specs.RuleTexts.{rules_text_of}
use Rattle.ug_ruleset.specs.RuleFile.{IsRuleFile, permanent_rules, permanent_text}
use Rattle.ug_store.specs.Disk.{Disk, IsImage}
use Rattle.ug_store.specs.Scripted.{DiskWorld, disk_told}
use Rattle.ug_command_io.specs.Fold.{LineOutcome, Writes, Refused, Going, plays}
use Rattle.ug_steps.specs.declared.step.Step.{Step}
use Rattle.ug_steps.specs.declared.step.Step.TheVariants.{Schedule, Event, Restart}
use Rattle.ug_steps.specs.Grammar.{step_of_line}
use Rattle.ug_script.specs.Script.{Script, can_start, daemon_in, disk_in}
use Rattle.ug_script.specs.Passes.{pass_behind}
use Rattle.ug_script.specs.Replay.{answered_from, disk_of, event_from, event_of, outcome_of, outcome_text, script_step, stop_in, stopped_text, tried_by}
use Rattle.ug_script.specs.Setup.{steps_of, conf_asked, iface_asked, folder_of, setup_rule, IsSetup, Beside, started_at, with_rules}

-- an event of a daemon over a kernel and a disk that are ready for it
abbrev pub happened_from : events.Event → DaemonState → World → DiskWorld → Happened
happened_from event d w o = record {
  event = event;
  tried = (tried_by d o).0;
  kernel = w.kernel;
  disk = disk_told o;
  before = d;
  became = (answered_from event d w o).became;
  kernel_answered = (answered_from event d w o).world.kernel;
  answered = (answered_from event d w o).daemon;
  kernel_after = (event_from event d w o).world.kernel;
  disk_after = disk_told (event_from event d w o).disk;
  after = (event_from event d w o).daemon;
}

-- an event, with what is scheduled for it
abbrev pub happened_at : events.Event → Script → World → Happened
happened_at event s w = happened_from event (daemon_in s) w (disk_of s)

abbrev pub happens_at : events.Event → Script → World → List Happened
happens_at event s w =
    if can_start s.setup s.phase && has_numbers (daemon_in s) w.faults (disk_in s).faults
    then happened_at event s w ∷ [] else []

-- where a line leads
abbrev pub left_by : {M : Type 0} → LineOutcome M → M
left_by (Writes text next) = next
left_by (Refused fault next) = next

-- what the pass behind an event writes, if the machine didn't stop in it
abbrev pub pass_at : events.Event → Script → World → List ℕ
pass_at event s w =
    cond (event_of event s w).disk.stopped []
    (pass_behind s.setup.ifaces (event_of event s w).daemon (event_of event s w).world).text

abbrev pub passes_at : events.Event → Script → World → List (List ℕ)
passes_at event s w =
    if can_start s.setup s.phase && has_numbers (daemon_in s) w.faults (disk_in s).faults
    then pass_at event s w ∷ [] else []

-- a run of the daemon that has ended: its events, what the pass behind each wrote, and the call of
-- the disk in which the machine stopped in the last of them; None where a `restart` ended it
pub record RunEnd : Type 0 where
  pub events : List Happened
  pub passes : List (List ℕ)
  pub stop : Option ℕ

-- the events of lines, in the runs of the daemon: those that have ended, and the events and passes
-- since the last start
pub record EventsOfRuns : Type 0 where
  pub ended : List RunEnd
  pub last : List Happened
  pub passes : List (List ℕ)

abbrev pub no_events : EventsOfRuns
no_events = record { ended = []; last = []; passes = [] }

abbrev pub with_events : List Happened → List (List ℕ) → EventsOfRuns → EventsOfRuns
with_events hs passes runs =
    record runs { last = runs.last ++ hs; passes = runs.passes ++ passes }

-- the run of the last start, where it ends so
abbrev pub ended_by : Option ℕ → EventsOfRuns → RunEnd
ended_by stop runs = record { events = runs.last; passes = runs.passes; stop = stop }

abbrev pub with_end : Option ℕ → EventsOfRuns → EventsOfRuns
with_end stop runs =
    record { ended = runs.ended ++ ended_by stop runs ∷ []; last = []; passes = [] }

-- an event ends a run where the machine stopped in it
abbrev pub with_stop : Bool → ℕ → EventsOfRuns → EventsOfRuns
with_stop true call runs = with_end (Some call) runs
with_stop false call runs = runs

-- the call in which it stopped
abbrev pub stop_of : events.Event → Script → World → ℕ
stop_of event s w = stop_in s.planned (event_of event s w)

-- what a step adds
abbrev pub runs_by : Option Step → Script → World → EventsOfRuns → EventsOfRuns
runs_by (Some Restart) s w runs = with_end None runs
runs_by (Some (Event event)) s w runs =
    with_stop (event_of event s w).disk.stopped (stop_of event s w)
    (with_events (happens_at event s w) (passes_at event s w) runs)
runs_by step s w runs = runs

abbrev pub runs_with : Option Script × World → List ℕ → EventsOfRuns → EventsOfRuns
runs_with (None, w) line runs = runs
runs_with (Some s, w) line runs = runs_by (step_of_line line) s w runs

-- what lines add, one after another
abbrev pub runs_after : EventsOfRuns → Option Script × World → List (List ℕ) → EventsOfRuns
runs_after runs p [] = runs
runs_after runs p (line ∷ lines) =
    runs_after (runs_with p line runs) (left_by (script_step p line)) lines

abbrev pub runs_in : World → List (List ℕ) → EventsOfRuns
runs_in first lines = runs_after no_events (None, first) lines

-- the entries of runs, one after another
abbrev pub journals : List RunEnd → List Entry
journals [] = []
journals (run ∷ runs) = journal run.events ++ journals runs

abbrev pub journal_of : EventsOfRuns → List Entry
journal_of runs = journals runs.ended ++ journal runs.last

-- what is written of events, one after another, and of the pass behind each
abbrev pub events_text : List Happened → List (List ℕ) → List ℕ
events_text [] passes = []
events_text (h ∷ hs) [] = outcome_text (outcome_of h.after) ++ events_text hs []
events_text (h ∷ hs) (pass ∷ passes) =
    (outcome_text (outcome_of h.after) ++ pass) ++ events_text hs passes

-- what is written of them where the machine stopped in the last
abbrev pub text_to_stop : ℕ → List Happened → List (List ℕ) → List ℕ
text_to_stop call [] passes = []
text_to_stop call (h ∷ []) passes = stopped_text call h.after.sweep.entries
text_to_stop call (h ∷ g ∷ hs) [] =
    outcome_text (outcome_of h.after) ++ text_to_stop call (g ∷ hs) []
text_to_stop call (h ∷ g ∷ hs) (pass ∷ passes) =
    (outcome_text (outcome_of h.after) ++ pass) ++ text_to_stop call (g ∷ hs) passes

abbrev pub run_text : Option ℕ → List Happened → List (List ℕ) → List ℕ
run_text None hs passes = events_text hs passes
run_text (Some call) hs passes = text_to_stop call hs passes

abbrev pub runs_text : List RunEnd → List ℕ
runs_text [] = []
runs_text (run ∷ runs) = run_text run.stop run.events run.passes ++ runs_text runs

abbrev pub text_of_runs : EventsOfRuns → List ℕ
text_of_runs runs = runs_text runs.ended ++ events_text runs.last runs.passes

-- With what a run of the daemon begins: its rules; the text of the rule file, and the texts that a
-- crash might leave in its place; the number of its first event; and the kernel.
pub record RunStart : Type 0 where
  pub rules : List types.Rule
  pub text : List ℕ
  pub unsure : List (List ℕ)
  pub number : ℕ
  pub kernel : Kernel

-- at the beginning the rule file holds the canonical text of the rules, and a crash leaves no other
abbrev pub first_start : List types.Rule → Kernel → RunStart
first_start rules k =
    record { rules = rules; text = rules_text_of rules; unsure = []; number = 1; kernel = k }

-- the rule file has that text, and a crash leaves no other but these
pub record HoldsAtStart (b : RunStart) (file : Disk) : Type 0 where
  pub text : file.text ≡ b.text
  pub left : (text : List ℕ) → IsImage file.left text → (text ≡ b.text) ⊎ Has b.unsure text

-- A run of the daemon from its start: it began with that access, with no device, and with that
-- policy but for its rules. Its events are a chain from there, over the kernel and the rule file as
-- they were at the start, with all that this says of each write and of the file.
pub record IsDaemonRun (beside : Beside) (policy : Judging) (b : RunStart) (hs : List Happened)
    (k : Kernel) (p : Option Disk) (e : DaemonState) : Type 0 where
  pub few : length (folder_of policy) + length b.rules ≤ 65536
  pub file : Disk
  pub holds : HoldsAtStart b file
  pub chain : Chain b.kernel (Some file) (started_at b.number beside (with_rules b.rules policy)) hs
      k p e
  pub run : IsRun (with_rules b.rules policy) beside.hub b.kernel (Some file) hs k p e

-- the texts that a crash might leave behind a run: that of the permanent rules in force, or one
-- that isn't sure
abbrev pub left_behind : RunStart → List Happened → DaemonState → List (List ℕ)
left_behind b hs e = permanent_text e.sweep.judge.rules ∷ unsure_of (b.text ∷ b.unsure) hs

-- Behind a stop the machine has come up again, and a further stop leaves no other text than that of
-- the rule file.
abbrev pub unsure_from : Option ℕ → List (List ℕ) → List (List ℕ)
unsure_from None texts = texts
unsure_from (Some call) texts = []

-- The rules are the permanent ones that are in force behind these events; or these after just one
-- order of them, which one who may asked for: the machine stopped in its save, or that failed, as
-- its reply tells, and no save was done since.
abbrev pub CarriesOn : List types.Rule → List Happened → DaemonState → Type 0
CarriesOn rules hs e =
    (rules ≡ permanent_rules e.sweep.judge.rules) ⊎ WasUnsaved hs e.sweep.judge.rules rules

-- The next run begins where that one came to, with the number of the event that was next then. Its
-- rules are those of the rule file, whose text is one of those that a crash might have left. Where
-- the rules that the run began with can be read again from their text, and those that each of its
-- events found, wrote and left, the next run carries it on.
pub record StartsBehind (b : RunStart) (run : RunEnd) (k : Kernel) (p : Option Disk)
    (e : DaemonState) (c : RunStart) : Type 0 where
  pub file : Disk
  pub told : p ≡ Some file
  pub text : c.text ≡ file.text
  pub stands : IsRuleFile c.rules c.text
  pub rules : IsRuleFile b.rules b.text → AllReadable run.events
      → CarriesOn c.rules run.events e
  pub kept : Has (left_behind b run.events e) c.text
  pub unsure : c.unsure ≡ unsure_from run.stop (left_behind b run.events e)
  pub number : c.number ≡ e.event
  pub kernel : c.kernel ≡ k

-- a run that has ended, where it came to, and with what the next began
pub record EndedRun (beside : Beside) (policy : Judging) (b : RunStart) (run : RunEnd) : Type 0
  where
    pub kernel : Kernel
    pub disk : Option Disk
    pub daemon : DaemonState
    pub is : IsDaemonRun beside policy b run.events kernel disk daemon
    pub next : RunStart
    pub behind : StartsBehind b run kernel disk daemon next

-- runs one after another
abbrev pub AreSuccessive : Beside → Judging → RunStart → List RunEnd → RunStart → Type 0
AreSuccessive beside policy b [] c = c ≡ b
AreSuccessive beside policy b (run ∷ runs) c =
    (r : EndedRun beside policy b run) × AreSuccessive beside policy r.next runs c

-- all runs of a script: those that have ended, one after another from the first start, and the last
-- one
pub record AreDaemonRuns (beside : Beside) (policy : Judging) (first : RunStart)
    (runs : EventsOfRuns) (k : Kernel) (p : Option Disk) (e : DaemonState) : Type 0 where
  pub start : RunStart
  pub ended : AreSuccessive beside policy first runs.ended start
  pub last : IsDaemonRun beside policy start runs.last k p e

-- where names are due, the devices of these are settled, else all
abbrev pub IsToSettle : Option (List (List ℕ)) → List ℕ → Type 0
IsToSettle None name = Unit {0}
IsToSettle (Some names) name = Has names name

-- each device that the event settles and that is live at its end was judged just once since the
-- first kernel, and stands as judged
pub record JudgesOnce (policy : Judging) (hub : Option Write) (first : Kernel) (file : Disk)
    (hs : List Happened) (h : Happened) : Type 0 where
  pub run : IsRun policy hub first (Some file) (hs ++ h ∷ []) h.kernel_after h.disk_after h.after
  pub each : (i : ℕ) (d : Device) → Live h.kernel_after.devices i d
      → IsToSettle h.answered.due d.name
      → IsJudgedOnce hub policy (hs ++ h ∷ []) run.steps h.kernel_after h.after.sweep.standings i

-- the step schedules no move, lets no call fail and stops no machine
abbrev pub is_quiet : Option Step → Bool
is_quiet (Some (Schedule plan)) = false
is_quiet step = true

abbrev pub AreQuiet : List (Option Step) → Type 0
AreQuiet [] = Unit {0}
AreQuiet (step ∷ steps) = (is_quiet step ≡ true) × AreQuiet steps

-- Wherever lines have led: the setup lines gave access and a policy; with whatever rules, rulings,
-- with changes among them, leave a policy that has taken just their words, and whose histories
-- stand for just their judgements; its settings are those of each text whose lines are those of the
-- `conf` lines; and its rules of interfaces are those of the `iface-rule` lines, in order. The
-- events of the lines are those of runs of the daemon: the first began with the rules of the `rule`
-- lines, and each other one with those of the rule file that the one before left. What was written
-- is the text of the entries of all, and of the passes. Where no move was scheduled and no call was
-- to fail, nobody is named as unsettled, no save is pending, and after an event that comes next
-- each live device that it settles was judged just once since the last start and stands as judged.
pub record Recorded (first : World) (lines : List (List ℕ)) (text : List ℕ) (s : Script)
    (w : World) : Type 0 where
  pub beside : Beside
  pub policy : Judging
  pub setup : IsSetup (steps_of lines) beside policy
  pub ifaces : s.setup.ifaces ≡ flat_map iface_asked (steps_of lines)
  pub settings : (whole : List ℕ) → lines_of whole ≡ flat_map conf_asked (steps_of lines)
      → conf_read whole ≡ Ok setup.draft.settings
  pub later : (rules : List types.Rule) (steps : List PolicyStep)
      → length (folder_of policy) + length rules ≤ 65536
      → CanTake (with_rules rules policy) steps
      → IsLater (changed_alone (with_rules rules policy) steps)
      (words_for (with_rules rules policy) steps) (judgements_for (with_rules rules policy) steps)
      (after_steps (with_rules rules policy) steps)
  pub runs : AreDaemonRuns beside policy
      (first_start (flat_map setup_rule (steps_of lines)) first.kernel) (runs_in first lines)
      w.kernel (disk_told (disk_in s)) (daemon_in s)
  pub written : text ≡ text_of_runs (runs_in first lines)
  pub nobody : AreQuiet (steps_of lines) → IsUnfailing first
      → NameNobody (journal_of (runs_in first lines))
  pub saved : AreQuiet (steps_of lines) → (daemon_in s).pending ≡ false
  pub once : AreQuiet (steps_of lines) → IsUnfailing first → first.moves ≡ []
      → (event : events.Event)
      → JudgesOnce (with_rules runs.start.rules policy) beside.hub runs.start.kernel runs.last.file
      (runs_in first lines).last (happened_at event s w)

-- the same of all lines
abbrev pub StaysRecorded : World → Type 0
StaysRecorded first = (lines : List (List ℕ)) (n : ℕ) (text : List ℕ) (s : Script) (w : World)
    → plays script_step (Going 0 [] (None, first)) lines ≡ Going n text (Some s, w)
    → Recorded first lines text s w
