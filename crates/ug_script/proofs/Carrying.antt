-- Where the rules of each line can be read again, each run of a script carries on the one before.
use Rattle.std.proofs.Common.{◌≡◌, ℕ, ◌+◌, Bool, true, false, ◌&&◌, cond, nat_eq, List, [], ◌∷◌, ◌++◌, flat_map, Option, Some, None, Result, Ok, Err, refl, sym, ◌∙◌, ap, subst}
use Rattle.std.specs.Cmp.Lexicographic.{pointwise}
use Rattle.ug_types.specs.declared.rule.Rule.{Rule}
use Rattle.ug_kernel.specs.Kernel.{IsKernel}
use Rattle.ug_sysfs.specs.World.{World}
use Rattle.ug_ruleset.specs.RuleFile.{CanSave, IsRuleFile}
use Rattle.ug_ruleset.proofs.Readable.{saved_file}
use Rattle.ug_store.specs.declared.mishap.Planned.{Planned}
use Rattle.ug_core.specs.Chain.{Happened}
use Rattle.ug_core.specs.Event.{has_numbers}
use Rattle.ug_core.specs.Policy.{Judging}
use Rattle.ug_core.specs.Stops.{AllReadable, IsReadable}
use Rattle.ug_types.specs.declared.event.Event as events
use Rattle.ug_command_io.specs.Fold.{LineRefusal, BadLine, InputTooLong, LineOutcome, Writes, Refused, Stage, Going, Halted, fault_of, is_within, of_first, plays, stage_after}
use Rattle.ug_command_io.specs.Refusals.{HoldsOfEach}
use Rattle.ug_steps.specs.declared.step.Plan.{Plan}
use Rattle.ug_steps.specs.declared.step.Plan.TheVariants as plan
use Rattle.ug_steps.specs.declared.step.Step.{Step}
use Rattle.ug_steps.specs.declared.step.Step.TheVariants.{Skip, Setup, Move, Schedule, Event, Restart}
use Rattle.ug_script.specs.CarriedOn.{CarriesThrough, EachCarriesOn, StaysCarried}
use Rattle.ug_steps.specs.Grammar.{step_of_line}
use Rattle.ug_script.specs.Journal.{AreSuccessive, EventsOfRuns, RunEnd, RunStart, first_start, happened_at, pass_at, left_by, no_events, runs_after, runs_by, runs_in, stop_of, with_end, with_events, with_stop}
use Rattle.ug_script.specs.LinesRead.{FirstReads, LineReads, StepReads}
use Rattle.ug_script.specs.Replay.{Played, bad, came_of, event_of, finished, header, in_script, line_added, planned, quiet, restarted, script_end, script_step, stopped_of, taken, taken_if, with_plan}
use Rattle.ug_script.specs.Script.{Phase, SettingUp, Unstarted, Started, Script, can_start, closed_phase, daemon_in, disk_in, fresh, has_started, takes_setup, with_setup_closed}
use Rattle.ug_script.specs.Setup.{Beside, SetupState, one_line_more, setup_rule, rules_from, steps_of}
use Rattle.ug_script.proofs.Journals.{rules_given, unstarted_runs}

-- ---- the runs of which each carries on the one before

abbrev RunsRead : List RunEnd → Type 0
RunsRead [] = Unit {0}
RunsRead (run ∷ runs) = AllReadable run.events × RunsRead runs

each_carries : (beside : Beside) (policy : Judging) (b : RunStart) (runs : List RunEnd) (c : RunStart) (h : AreSuccessive beside policy b runs c) → IsRuleFile b.rules b.text → RunsRead runs → EachCarriesOn beside policy b runs c h
each_carries beside policy b [] c h f r = tt
each_carries beside policy b (run ∷ runs) c h f r = (h.0.behind.rules f r.0, each_carries beside policy h.0.next runs c h.1 h.0.behind.stands r.1)

runs_more : (runs : List RunEnd) (run : RunEnd) → RunsRead runs → AllReadable run.events → RunsRead (runs ++ run ∷ [])
runs_more [] run h r = (r, tt)
runs_more (one ∷ runs) run h r = (h.0, runs_more runs run h.1 r)

events_more : (hs : List Happened) (h : Happened) → AllReadable hs → IsReadable h → AllReadable (hs ++ h ∷ [])
events_more [] h a r = (r, tt)
events_more (g ∷ hs) h a r = (a.0, events_more hs h a.1 r)

-- ---- a line

-- the rules of the `rule` lines, where a daemon was started, and those of all events
record Reread (s : Script) (runs : EventsOfRuns) : Type 0 where
  first : has_started s.phase ≡ true → CanSave s.setup.rules
  ended : RunsRead runs.ended
  last : AllReadable runs.last

abbrev RereadBy : LineOutcome (Option Script × World) → EventsOfRuns → Type 0
RereadBy (Writes more (Some s, w)) runs = Reread s runs
RereadBy (Writes more (None, w)) runs = ⊥
RereadBy (Refused fault p) runs = Unit {0}

unset : {X : Type 0} → false ≡ true → X
unset e = let none : ⊥ = cc in absurd none

-- the rules of the setup can be read again, whether a daemon was started before or is started now
starts_reread : (s : Script) (runs : EventsOfRuns) → FirstReads s → Reread s runs → CanSave s.setup.rules
starts_reread s runs reads h = by_started (has_started s.phase) refl
  where
    by_started : (b : Bool) → has_started s.phase ≡ b → CanSave s.setup.rules
    by_started true e = h.first e
    by_started false e = reads e

closed_same : (phase : Phase) → has_started (closed_phase phase) ≡ has_started phase
closed_same SettingUp = refl
closed_same Unstarted = refl
closed_same (Started d o) = refl

closed_reread : (s : Script) (plan : List Planned) (runs : EventsOfRuns) → Reread s runs → Reread (record (with_setup_closed s) { planned = plan }) runs
closed_reread s plan runs h = record { first = λ e. h.first (sym (closed_same s.phase) ∙ e); ended = h.ended; last = h.last }

plan_reread : (x : Plan) (s : Script) (w : World) (runs : EventsOfRuns) → Reread s runs → RereadBy (quiet (with_plan x (with_setup_closed s)) (planned x w)) runs
plan_reread (plan.Move m) s w runs h = closed_reread s s.planned runs h
plan_reread (plan.Fail f) s w runs h = closed_reread s s.planned runs h
plan_reread (plan.OnDisk p) s w runs h = closed_reread s (s.planned ++ p ∷ []) runs h

setup_reread : (o : Option SetupState) (s : Script) (w : World) (runs : EventsOfRuns) (opened : Bool) → takes_setup s.phase ≡ opened → Reread s runs → RereadBy (cond opened (line_added o s w) (bad s w)) runs
setup_reread (Some setup) s w runs true e h = record { first = λ f. unstarted s.phase e f; ended = h.ended; last = h.last }
  where
    unstarted : {X : Type 0} (phase : Phase) → takes_setup phase ≡ true → has_started phase ≡ true → X
    unstarted SettingUp e f = unset f
    unstarted Unstarted e f = unset f
    unstarted (Started d o) e f = unset e
setup_reread None s w runs true e h = tt
setup_reread o s w runs false e h = tt

-- an event, whether the machine stopped in it or not
module _ (event : events.Event) (s : Script) (w : World) (pass : List ℕ) (runs : EventsOfRuns) (reads : StepReads (Some (Event event)) s w) (h : Reread s runs) where
  hs : AllReadable (runs.last ++ happened_at event s w ∷ [])
  hs = events_more runs.last (happened_at event s w) h.last reads.1

  came_reread : (stopped : Bool) (loaded : Result (List Rule) LineRefusal) → RereadBy (in_script s (cond stopped (stopped_of s.setup (stop_of event s w) (event_of event s w) loaded) (finished s.setup.ifaces (event_of event s w)))) (with_stop stopped (stop_of event s w) (with_events (happened_at event s w ∷ []) (pass ∷ []) runs))
  came_reread true (Ok rules) = record { first = λ e. starts_reread s runs reads.0 h; ended = runs_more runs.ended (record { events = runs.last ++ happened_at event s w ∷ []; passes = runs.passes ++ pass ∷ []; stop = Some (stop_of event s w) }) h.ended hs; last = tt }
  came_reread true (Err fault) = tt
  came_reread false loaded = record { first = λ e. starts_reread s runs reads.0 h; ended = h.ended; last = hs }

  event_reread : (stopped : Bool) (came : LineOutcome Played) (can has : Bool) → RereadBy (in_script s came) (with_stop stopped (stop_of event s w) (with_events (happened_at event s w ∷ []) (pass ∷ []) runs))
      → RereadBy (cond can (in_script s (cond has came (Refused BadLine (record { daemon = daemon_in s; world = w; disk = disk_in s })))) (Refused InputTooLong (Some s, w))) (with_stop stopped (stop_of event s w) (with_events (cond (can && has) (happened_at event s w ∷ []) []) (cond (can && has) (pass ∷ []) []) runs))
  event_reread stopped came true true k = k
  event_reread stopped came true false k = tt
  event_reread stopped came false has k = tt

restart_reread : (s : Script) (w : World) (runs : EventsOfRuns) (can : Bool) (loaded : Result (List Rule) LineRefusal) → FirstReads s → Reread s runs → RereadBy (cond can (restarted loaded s w) (Refused InputTooLong (Some s, w))) (with_end None runs)
restart_reread s w runs true (Ok rules) reads h = record { first = λ e. starts_reread s runs reads h; ended = runs_more runs.ended (record { events = runs.last; passes = runs.passes; stop = None }) h.ended h.last; last = tt }
restart_reread s w runs true (Err fault) reads h = tt
restart_reread s w runs false loaded reads h = tt

step_reread : (step : Step) (s : Script) (w : World) (runs : EventsOfRuns) → StepReads (Some step) s w → Reread s runs → RereadBy (taken step s w) (runs_by (Some step) s w runs)
step_reread Skip s w runs reads h = h
step_reread (Setup line) s w runs reads h = setup_reread (one_line_more line s.setup) s w runs (takes_setup s.phase) refl h
step_reread (Move action) s w runs reads h = closed_reread s s.planned runs h
step_reread (Schedule x) s w runs reads h = plan_reread x s w runs h
step_reread (Event event) s w runs reads h =
    let p = event_of event s w in
    event_reread event s w (pass_at event s w) runs reads h p.disk.stopped (came_of s.setup s.planned p) (can_start s.setup s.phase) (has_numbers (daemon_in s) w.faults (disk_in s).faults)
    (came_reread event s w (pass_at event s w) runs reads h p.disk.stopped (rules_from s.setup.folder.count p.disk.disk.text))
step_reread Restart s w runs reads h = restart_reread s w runs (can_start s.setup s.phase) (rules_from s.setup.folder.count (disk_in s).disk.text) reads h

line_reread : (step : Option Step) (s : Script) (w : World) (runs : EventsOfRuns) → StepReads step s w → Reread s runs → RereadBy (taken_if step s w) (runs_by step s w runs)
line_reread None s w runs reads h = tt
line_reread (Some step) s w runs reads h = step_reread step s w runs reads h

-- ---- lines one after another

halted_stays : (fault : LineRefusal) (n : ℕ) (text : List ℕ) (p : Option Script × World) (lines : List (List ℕ)) → plays script_step (Halted fault n text p) lines ≡ Halted fault n text p
halted_stays fault n text p [] = refl
halted_stays fault n text p (line ∷ lines) = halted_stays fault n text p lines

halts_never : {X : Type 0} (fault : LineRefusal) (n : ℕ) (text : List ℕ) (p : Option Script × World) (lines : List (List ℕ)) (m : ℕ) (out : List ℕ) (q : Option Script × World) → plays script_step (Halted fault n text p) lines ≡ Going m out q → X
halts_never fault n text p lines m out q e =
    let h : Halted fault n text p ≡ Going m out q = sym (halted_stays fault n text p lines) ∙ e in
    let none : ⊥ = cc in absurd none

-- what holds at a stage
abbrev RereadAt : EventsOfRuns → Stage (Option Script × World) → Type 0
RereadAt runs (Going n text (Some s, w)) = Reread s runs
RereadAt runs (Going n text (None, w)) = Unit {0}
RereadAt runs (Halted fault n text p) = Unit {0}

rest_reread : (n : ℕ) (text : List ℕ) (p : Option Script × World) (runs : EventsOfRuns) (lines : List (List ℕ)) (m : ℕ) (out : List ℕ) (t : Script) (v : World)
    → ((more : List ℕ) (s : Script) (w : World) → Reread s runs → HoldsOfEach script_step LineReads (Going (n + 1) more (Some s, w)) lines → plays script_step (Going (n + 1) more (Some s, w)) lines ≡ Going m out (Some t, v) → Reread t (runs_after runs (Some s, w) lines))
    → (b : Bool) (o : LineOutcome (Option Script × World)) → RereadBy o runs → HoldsOfEach script_step LineReads (cond b (stage_after n text o) (Halted BadLine n text p)) lines → plays script_step (cond b (stage_after n text o) (Halted BadLine n text p)) lines ≡ Going m out (Some t, v) → Reread t (runs_after runs (left_by o) lines)
rest_reread n text p runs lines m out t v again true (Writes more (Some s, w)) k each e = again (text ++ more) s w k each e
rest_reread n text p runs lines m out t v again true (Writes more (None, w)) k each e = absurd k
rest_reread n text p runs lines m out t v again true (Refused fault next) k each e = halts_never fault n text next lines m out (Some t, v) e
rest_reread n text p runs lines m out t v again false o k each e = halts_never BadLine n text p lines m out (Some t, v) e

lines_reread : (lines : List (List ℕ)) (runs : EventsOfRuns) (n : ℕ) (text : List ℕ) (s : Script) (w : World) (m : ℕ) (out : List ℕ) (t : Script) (v : World) → Reread s runs → HoldsOfEach script_step LineReads (Going n text (Some s, w)) lines → plays script_step (Going n text (Some s, w)) lines ≡ Going m out (Some t, v) → Reread t (runs_after runs (Some s, w) lines)
lines_reread [] runs n text s w m out t v h each e = subst (λ (x : Stage (Option Script × World)). RereadAt runs x) e h
lines_reread (line ∷ lines) runs n text s w m out t v h each e =
    let step : Option Step = step_of_line line in
    rest_reread n text (Some s, w) (runs_by step s w runs) lines m out t v (λ more r u k f g. lines_reread lines (runs_by step s w runs) (n + 1) more r u m out t v k f g) (is_within n line) (script_step (Some s, w) line) (line_reread step s w runs each.0 h) each.1 e

-- the header, and the lines behind it
header_reread : (first : World) (lines : List (List ℕ)) (m : ℕ) (out : List ℕ) (t : Script) (v : World) (b c : Bool) → HoldsOfEach script_step LineReads (cond b (stage_after 0 [] (cond c (quiet fresh first) (Refused BadLine (None, first)))) (Halted BadLine 0 [] (None, first))) lines → plays script_step (cond b (stage_after 0 [] (cond c (quiet fresh first) (Refused BadLine (None, first)))) (Halted BadLine 0 [] (None, first))) lines ≡ Going m out (Some t, v)
    → Reread t (runs_after no_events (left_by (cond c (quiet fresh first) (Refused BadLine (None, first)))) lines)
header_reread first lines m out t v true true each e = lines_reread lines no_events 1 [] fresh first m out t v (record { first = λ f. unset f; ended = tt; last = tt }) each e
header_reread first lines m out t v true false each e = halts_never BadLine 0 [] (None, first) lines m out (Some t, v) e
header_reread first lines m out t v false c each e = halts_never BadLine 0 [] (None, first) lines m out (Some t, v) e

-- no line was taken
abbrev NotBegun : Stage (Option Script × World) → Type 0
NotBegun (Going n text (None, w)) = Unit {0}
NotBegun (Going n text (Some s, w)) = ⊥
NotBegun (Halted fault n text p) = Unit {0}

all_reread : (first : World) (lines : List (List ℕ)) (n : ℕ) (text : List ℕ) (s : Script) (w : World) → plays script_step (Going 0 [] (None, first)) lines ≡ Going n text (Some s, w) → HoldsOfEach script_step LineReads (Going 0 [] (None, first)) lines → Reread s (runs_in first lines)
all_reread first [] n text s w e each = absurd (subst (λ (x : Stage (Option Script × World)). NotBegun x) e tt)
all_reread first (line ∷ lines) n text s w e each = header_reread first lines n text s w (is_within 0 line) (pointwise nat_eq line header) each.1 e

no_runs : (beside : Beside) (policy : Judging) (b : RunStart) (runs : List RunEnd) → runs ≡ [] → (c : RunStart) (h : AreSuccessive beside policy b runs c) → EachCarriesOn beside policy b runs c h
no_runs beside policy b [] is c h = tt
no_runs beside policy b (one ∷ runs) is c h = let none : ⊥ = cc in absurd none

pub stays_carried : (first : World) → first.ran_out ≡ false → IsKernel first.kernel → StaysCarried first
stays_carried first run sound lines n text s w e each = by_started (has_started s.phase) refl
  where
    rules : List Rule
    rules = flat_map setup_rule (steps_of lines)

    so : Reread s (runs_in first lines)
    so = all_reread first lines n text s w e each

    by_started : (b : Bool) → has_started s.phase ≡ b → CarriesThrough first lines
    by_started true started = λ out t v r.
        each_carries r.beside r.policy (first_start rules first.kernel) (runs_in first lines).ended r.runs.start r.runs.ended
        (saved_file rules (subst (λ (rs : List Rule). CanSave rs) (rules_given first run sound lines n text s w e) (so.first started))) so.ended
    by_started false unstarted = λ out t v r.
        no_runs r.beside r.policy (first_start rules first.kernel) (runs_in first lines).ended (ap (λ (x : EventsOfRuns). x.ended) (unstarted_runs first run sound lines n text s w e unstarted)) r.runs.start r.runs.ended

-- where all lines were taken, and the script ends
pub done_carries : (first : World) → first.ran_out ≡ false → IsKernel first.kernel → (lines : List (List ℕ)) → fault_of (of_first script_end) (plays script_step (Going 0 [] (None, first)) lines) ≡ None → HoldsOfEach script_step LineReads (Going 0 [] (None, first)) lines → CarriesThrough first lines
done_carries first run sound lines done each = by_stage (plays script_step (Going 0 [] (None, first)) lines) refl done
  where
    by_stage : (x : Stage (Option Script × World)) → plays script_step (Going 0 [] (None, first)) lines ≡ x → fault_of (of_first script_end) x ≡ None → CarriesThrough first lines
    by_stage (Going n text (Some s, w)) is e = stays_carried first run sound lines n text s w is each
    by_stage (Going n text (None, w)) is e = let none : ⊥ = cc in absurd none
    by_stage (Halted fault n text p) is e = let none : ⊥ = cc in absurd none
