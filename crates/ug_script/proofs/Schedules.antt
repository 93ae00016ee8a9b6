-- What is in store for the next event is what lines wrote since the last.
use Rattle.std.proofs.Common.{◌≡◌, ℕ, ◌+◌, Bool, true, false, cond, List, [], ◌∷◌, ◌++◌, map, flat_map, Option, Some, None, Result, Ok, Err, refl, sym, ap, subst, ◌∙◌, append-nil, append_assoc}
use Rattle.std.specs.Cmp.Lexicographic.{pointwise}
use Rattle.std.specs.Prelude.{nat_eq}
use Rattle.std.proofs.lemmas.List.Sums.{fold-append}
use Rattle.ug_types.specs.declared.rule.Rule as types
use Rattle.ug_store.specs.declared.mishap.Planned.{Planned}
use Rattle.ug_sysfs.specs.declared.script.Failing.{Failing}
use Rattle.ug_sysfs.specs.declared.script.Scheduled.{Scheduled}
use Rattle.ug_sysfs.specs.World.{World, over}
use Rattle.ug_command_io.specs.Fold.{LineRefusal, BadLine, Going, Halted, InputTooLong, LineOutcome, Refused, Stage, Writes, is_within, plays, stage_after}
use Rattle.ug_core.specs.Event.{has_numbers}
use Rattle.ug_types.specs.declared.event.Event as events
use Rattle.ug_steps.specs.declared.step.Plan.{Plan}
use Rattle.ug_steps.specs.declared.step.Plan.TheVariants as plan
use Rattle.ug_steps.specs.declared.step.SetupLine.{SetupLine}
use Rattle.ug_steps.specs.declared.step.Step.{Step}
use Rattle.ug_steps.specs.declared.step.Step.TheVariants.{Event, Move, Restart, Schedule, Setup, Skip}
use Rattle.ug_steps.specs.Grammar.{step_of_line}
use Rattle.ug_script.specs.Passes.{pass_behind}
use Rattle.ug_script.specs.Replay.{Played, begun_again, begun_disk, came_of, event_from, finished, header, in_script, left_played, line_added, planned, quiet, restarted, script_step, stop_in, stopped_of, taken, taken_if, with_plan, with_played}
use Rattle.ug_sysfs.specs.Queue.{IsSchedule}
use Rattle.ug_script.specs.Schedules.{StaysScheduled, behind_event, disk_asked, fail_asked, move_asked, since_event}
use Rattle.ug_script.specs.Script.{Phase, Script, SettingUp, Started, Unstarted, can_start, closed_phase, daemon_in, disk_in, fresh, has_started, takes_setup, with_setup_closed}
use Rattle.ug_script.specs.Setup.{SetupState, one_line_more, rules_from, steps_of}
use Rattle.ug_script.proofs.Setups.{flat_more, flat_none}
use Rattle.ug_script.proofs.Turns.{one_more_move}

since_more : (done : List (Option Step)) (step : Option Step) → since_event (done ++ step ∷ []) ≡ behind_event (since_event done) step
since_more done step = fold-append behind_event [] done (step ∷ [])

-- what lines have scheduled, and what is in store
record IsInStore (steps : List (Option Step)) (moves : List Scheduled) (fails : List Failing) (plan : List Planned) : Type 0 where
  scheduled : IsSchedule (flat_map move_asked steps) moves
  failing : fails ≡ flat_map fail_asked steps
  on_disk : plan ≡ flat_map disk_asked steps

nothing_yet : IsInStore [] [] [] []
nothing_yet = record { scheduled = record { in_turn = tt; each = λ n. refl }; failing = refl; on_disk = refl }

-- a step that schedules nothing
in_store_still : (steps : List (Option Step)) (step : Option Step) (moves : List Scheduled) (fails : List Failing) (plan : List Planned) → move_asked step ≡ [] → fail_asked step ≡ [] → disk_asked step ≡ [] → IsInStore steps moves fails plan → IsInStore (steps ++ step ∷ []) moves fails plan
in_store_still steps step moves fails plan no_move no_fail no_disk h = record {
  scheduled = subst (λ (written : List Scheduled). IsSchedule written moves) (sym (flat_none move_asked steps step no_move)) h.scheduled;
  failing = h.failing ∙ sym (flat_none fail_asked steps step no_fail);
  on_disk = h.on_disk ∙ sym (flat_none disk_asked steps step no_disk);
}

abbrev Holds : List (Option Step) → List ℕ → Script → World → Type 0
Holds steps text s w = IsInStore (since_event steps) w.moves w.fails s.planned × (has_started s.phase ≡ false → text ≡ [])

abbrev HoldsAfter : List (Option Step) → List ℕ → LineOutcome (Option Script × World) → Type 0
HoldsAfter steps text (Writes more (Some s, w)) = Holds steps (text ++ more) s w
HoldsAfter steps text (Writes more (None, w)) = ⊥
HoldsAfter steps text (Refused fault next) = Unit {0}

-- behind a step that is no event
store_more : (done : List (Option Step)) (step : Option Step) (moves : List Scheduled) (fails : List Failing) (plan : List Planned) → behind_event (since_event done) step ≡ since_event done ++ step ∷ [] → IsInStore (since_event done ++ step ∷ []) moves fails plan → IsInStore (since_event (done ++ step ∷ [])) moves fails plan
store_more done step moves fails plan no_event h = subst (λ (steps : List (Option Step)). IsInStore steps moves fails plan) (sym no_event ∙ sym (since_more done step)) h

-- behind an event
store_none : (done : List (Option Step)) (event : events.Event) → IsInStore (since_event (done ++ Some (Event event) ∷ [])) [] [] []
store_none done event = subst (λ (steps : List (Option Step)). IsInStore steps [] [] []) (sym (since_more done (Some (Event event)))) nothing_yet

still_silent : (text : List ℕ) (s : Script) (phase : Phase) → has_started phase ≡ has_started s.phase → (has_started s.phase ≡ false → text ≡ []) → has_started phase ≡ false → text ++ [] ≡ []
still_silent text s phase same h k = append-nil text ∙ h (sym same ∙ k)

closed_so : (phase : Phase) → has_started (closed_phase phase) ≡ has_started phase
closed_so SettingUp = refl
closed_so Unstarted = refl
closed_so (Started d disk) = refl

when : (steps : List (Option Step)) (text : List ℕ) (b : Bool) (o p : LineOutcome (Option Script × World)) → HoldsAfter steps text o → HoldsAfter steps text p → HoldsAfter steps text (cond b o p)
when steps text true o p x y = x
when steps text false o p x y = y

added : (done : List (Option Step)) (text : List ℕ) (line : SetupLine) (s : Script) (w : World) (o : Option SetupState) → Holds done text s w → HoldsAfter (done ++ Some (Setup line) ∷ []) text (line_added o s w)
added done text line s w None h = tt
added done text line s w (Some setup) h = (
  store_more done (Some (Setup line)) w.moves w.fails s.planned refl (in_store_still (since_event done) (Some (Setup line)) w.moves w.fails s.planned refl refl refl h.0),
  still_silent text s s.phase refl h.1,
)

-- ---- what is scheduled

plan_holds : (done : List (Option Step)) (text : List ℕ) (p : Plan) (s : Script) (w : World) → Holds done text s w → Holds (done ++ Some (Schedule p) ∷ []) (text ++ []) (with_plan p (with_setup_closed s)) (planned p w)
plan_holds done text (plan.Move m) s w h = (
  store_more done (Some (Schedule (plan.Move m))) _ w.fails s.planned refl (record {
    scheduled = subst (λ (written : List Scheduled). IsSchedule written (planned (plan.Move m) w).moves) (sym (flat_more move_asked (since_event done) (Some (Schedule (plan.Move m))))) (one_more_move (flat_map move_asked (since_event done)) w.moves m h.0.scheduled);
    failing = h.0.failing ∙ sym (flat_none fail_asked (since_event done) (Some (Schedule (plan.Move m))) refl);
    on_disk = h.0.on_disk ∙ sym (flat_none disk_asked (since_event done) (Some (Schedule (plan.Move m))) refl);
  }),
  still_silent text s (closed_phase s.phase) (closed_so s.phase) h.1,
)
plan_holds done text (plan.Fail f) s w h = (
  store_more done (Some (Schedule (plan.Fail f))) w.moves _ s.planned refl (record {
    scheduled = subst (λ (written : List Scheduled). IsSchedule written w.moves) (sym (flat_none move_asked (since_event done) (Some (Schedule (plan.Fail f))) refl)) h.0.scheduled;
    failing = ap (λ (fs : List Failing). fs ++ f ∷ []) h.0.failing ∙ sym (flat_more fail_asked (since_event done) (Some (Schedule (plan.Fail f))));
    on_disk = h.0.on_disk ∙ sym (flat_none disk_asked (since_event done) (Some (Schedule (plan.Fail f))) refl);
  }),
  still_silent text s (closed_phase s.phase) (closed_so s.phase) h.1,
)
plan_holds done text (plan.OnDisk p) s w h = (
  store_more done (Some (Schedule (plan.OnDisk p))) w.moves w.fails _ refl (record {
    scheduled = subst (λ (written : List Scheduled). IsSchedule written w.moves) (sym (flat_none move_asked (since_event done) (Some (Schedule (plan.OnDisk p))) refl)) h.0.scheduled;
    failing = h.0.failing ∙ sym (flat_none fail_asked (since_event done) (Some (Schedule (plan.OnDisk p))) refl);
    on_disk = ap (λ (ps : List Planned). ps ++ p ∷ []) h.0.on_disk ∙ sym (flat_more disk_asked (since_event done) (Some (Schedule (plan.OnDisk p))));
  }),
  still_silent text s (closed_phase s.phase) (closed_so s.phase) h.1,
)

-- ---- events and restarts

never_silent : {X : Type 0} → true ≡ false → X
never_silent e = let none : ⊥ = cc in absurd none

over_holds : (done : List (Option Step)) (text : List ℕ) (event : events.Event) (s : Script) (p : Played) (w : World) → p.world ≡ over w → Holds (done ++ Some (Event event) ∷ []) text (with_played s p) p.world
over_holds done text event s p w e = (subst (λ (v : World). IsInStore (since_event (done ++ Some (Event event) ∷ [])) v.moves v.fails []) (sym e) (store_none done event), λ k. never_silent k)

stopped_holds : (done : List (Option Step)) (text : List ℕ) (event : events.Event) (s : Script) (call : ℕ) (p : Played) (loaded : Result (List types.Rule) LineRefusal) → HoldsAfter (done ++ Some (Event event) ∷ []) text (in_script s (stopped_of s.setup call p loaded))
stopped_holds done text event s call p (Ok rules) = over_holds done _ event s (begun_again s.setup rules p) p.world refl
stopped_holds done text event s call p (Err fault) = tt

came_holds : (done : List (Option Step)) (text : List ℕ) (event : events.Event) (s : Script) (p : Played) (stopped : Bool) → HoldsAfter (done ++ Some (Event event) ∷ []) text (in_script s (cond stopped (stopped_of s.setup (stop_in s.planned p) p (rules_from s.setup.folder.count p.disk.disk.text)) (finished s.setup.ifaces p)))
came_holds done text event s p true = stopped_holds done text event s (stop_in s.planned p) p (rules_from s.setup.folder.count p.disk.disk.text)
came_holds done text event s p false = over_holds done _ event s (left_played s.setup.ifaces p) (pass_behind s.setup.ifaces p.daemon p.world).world refl

event_holds : (done : List (Option Step)) (text : List ℕ) (event : events.Event) (s : Script) (w : World) (start room : Bool) (came : LineOutcome Played) (other : Played) → HoldsAfter (done ++ Some (Event event) ∷ []) text (in_script s came) → HoldsAfter (done ++ Some (Event event) ∷ []) text (cond start (in_script s (cond room came (Refused BadLine other))) (Refused InputTooLong (Some s, w)))
event_holds done text event s w true true came other h = h
event_holds done text event s w true false came other h = tt
event_holds done text event s w false room came other h = tt

restart_holds : (done : List (Option Step)) (text : List ℕ) (s : Script) (w : World) (loaded : Result (List types.Rule) LineRefusal) → Holds done text s w → HoldsAfter (done ++ Some Restart ∷ []) text (restarted loaded s w)
restart_holds done text s w (Ok rules) h = (
  store_more done (Some Restart) w.moves w.fails s.planned refl (in_store_still (since_event done) (Some Restart) w.moves w.fails s.planned refl refl refl h.0),
  λ k. never_silent k,
)
restart_holds done text s w (Err fault) h = tt

-- ---- lines one after another

step_holds : (done : List (Option Step)) (text : List ℕ) (asked : Step) (s : Script) (w : World) → Holds done text s w → HoldsAfter (done ++ Some asked ∷ []) text (taken asked s w)
step_holds done text Skip s w h = (
  store_more done (Some Skip) w.moves w.fails s.planned refl (in_store_still (since_event done) (Some Skip) w.moves w.fails s.planned refl refl refl h.0),
  still_silent text s s.phase refl h.1,
)
step_holds done text (Setup line) s w h = when (done ++ Some (Setup line) ∷ []) text (takes_setup s.phase) (line_added (one_line_more line s.setup) s w) (Refused BadLine (Some s, w)) (added done text line s w (one_line_more line s.setup) h) tt
step_holds done text (Move action) s w h = (
  store_more done (Some (Move action)) w.moves w.fails s.planned refl (in_store_still (since_event done) (Some (Move action)) w.moves w.fails s.planned refl refl refl h.0),
  still_silent text s (closed_phase s.phase) (closed_so s.phase) h.1,
)
step_holds done text (Schedule p) s w h = by p (plan_holds done text p s w h)
  where
    by : (x : Plan) → Holds (done ++ Some (Schedule p) ∷ []) (text ++ []) (with_plan x (with_setup_closed s)) (planned x w) → HoldsAfter (done ++ Some (Schedule p) ∷ []) text (quiet (with_plan x (with_setup_closed s)) (planned x w))
    by x k = k
step_holds done text (Event event) s w h =
    let p : Played = event_from event (daemon_in s) w (begun_disk s.planned (disk_in s)) in
    event_holds done text event s w (can_start s.setup s.phase) (has_numbers (daemon_in s) w.faults (disk_in s).faults) (came_of s.setup s.planned p) _ (came_holds done text event s p p.disk.stopped)
step_holds done text Restart s w h = when (done ++ Some Restart ∷ []) text (can_start s.setup s.phase) (restarted (rules_from s.setup.folder.count (disk_in s).disk.text) s w) (Refused InputTooLong (Some s, w)) (restart_holds done text s w (rules_from s.setup.folder.count (disk_in s).disk.text) h) tt

line_holds : (done : List (Option Step)) (text : List ℕ) (asked : Option Step) (s : Script) (w : World) → Holds done text s w → HoldsAfter (done ++ asked ∷ []) text (taken_if asked s w)
line_holds done text None s w h = tt
line_holds done text (Some asked) s w h = step_holds done text asked s w h

refused_on : (fault : LineRefusal) (n : ℕ) (text : List ℕ) (p : Option Script × World) (lines : List (List ℕ)) → plays script_step (Halted fault n text p) lines ≡ Halted fault n text p
refused_on fault n text p [] = refl
refused_on fault n text p (line ∷ lines) = refused_on fault n text p lines

never : {X : Type 0} (fault : LineRefusal) (n : ℕ) (text : List ℕ) (p : Option Script × World) (lines : List (List ℕ)) (m : ℕ) (out : List ℕ) (q : Option Script × World) → plays script_step (Halted fault n text p) lines ≡ Going m out q → X
never fault n text p lines m out q e = let h : Halted fault n text p ≡ Going m out q = sym (refused_on fault n text p lines) ∙ e in let none : ⊥ = cc in absurd none

abbrev HoldsAt : List (Option Step) → Stage (Option Script × World) → Type 0
HoldsAt steps (Going n text (Some s, w)) = Holds steps text s w
HoldsAt steps (Going n text (None, w)) = ⊥
HoldsAt steps (Halted fault n text p) = Unit {0}

rest_hold : (done : List (Option Step)) (asked : Option Step) (n : ℕ) (text : List ℕ) (p : Option Script × World) (lines : List (List ℕ)) (m : ℕ) (out : List ℕ) (t : Script) (v : World)
    → ((more : List ℕ) (s : Script) (w : World) → Holds (done ++ asked ∷ []) more s w → plays script_step (Going (n + 1) more (Some s, w)) lines ≡ Going m out (Some t, v) → Holds ((done ++ asked ∷ []) ++ map step_of_line lines) out t v)
    → (b : Bool) (o : LineOutcome (Option Script × World)) → HoldsAfter (done ++ asked ∷ []) text o → plays script_step (cond b (stage_after n text o) (Halted BadLine n text p)) lines ≡ Going m out (Some t, v) → Holds (done ++ (asked ∷ map step_of_line lines)) out t v
rest_hold done asked n text p lines m out t v again true (Writes more (Some s, w)) k e =
    subst (λ (steps : List (Option Step)). Holds steps out t v) (append_assoc done (asked ∷ []) (map step_of_line lines)) (again (text ++ more) s w k e)
rest_hold done asked n text p lines m out t v again true (Writes more (None, w)) k e = absurd k
rest_hold done asked n text p lines m out t v again true (Refused fault next) k e = never fault n text next lines m out (Some t, v) e
rest_hold done asked n text p lines m out t v again false o k e = never BadLine n text p lines m out (Some t, v) e

lines_hold : (lines : List (List ℕ)) (done : List (Option Step)) (n : ℕ) (text : List ℕ) (s : Script) (w : World) (m : ℕ) (out : List ℕ) (t : Script) (v : World) → Holds done text s w → plays script_step (Going n text (Some s, w)) lines ≡ Going m out (Some t, v) → Holds (done ++ map step_of_line lines) out t v
lines_hold [] done n text s w m out t v h e =
    subst (λ (steps : List (Option Step)). Holds steps out t v) (sym (append-nil done)) (subst (HoldsAt done) e h)
lines_hold (line ∷ lines) done n text s w m out t v h e =
    let asked : Option Step = step_of_line line in
    rest_hold done asked n text (Some s, w) lines m out t v (λ more r u k f. lines_hold lines (done ++ asked ∷ []) (n + 1) more r u m out t v k f) (is_within n line) (script_step (Some s, w) line) (line_holds done text asked s w h) e

header_hold : (first : World) (lines : List (List ℕ)) (m : ℕ) (out : List ℕ) (t : Script) (v : World) (b c : Bool) → Holds [] [] fresh first → plays script_step (cond b (stage_after 0 [] (cond c (quiet fresh first) (Refused BadLine (None, first)))) (Halted BadLine 0 [] (None, first))) lines ≡ Going m out (Some t, v) → Holds (map step_of_line lines) out t v
header_hold first lines m out t v true true h e = lines_hold lines [] 1 [] fresh first m out t v h e
header_hold first lines m out t v true false h e = never BadLine 0 [] (None, first) lines m out (Some t, v) e
header_hold first lines m out t v false c h e = never BadLine 0 [] (None, first) lines m out (Some t, v) e

abbrev BeforeHeader : Stage (Option Script × World) → Type 0
BeforeHeader (Going n text (None, w)) = Unit {0}
BeforeHeader (Going n text (Some s, w)) = ⊥
BeforeHeader (Halted fault n text p) = Unit {0}

all_hold : (first : World) → first.moves ≡ [] → first.fails ≡ [] → (lines : List (List ℕ)) (n : ℕ) (text : List ℕ) (s : Script) (w : World) → plays script_step (Going 0 [] (None, first)) lines ≡ Going n text (Some s, w) → Holds (steps_of lines) text s w
all_hold first moves fails [] n text s w e = absurd (subst BeforeHeader e tt)
all_hold first moves fails (line ∷ lines) n text s w e =
    let store : IsInStore [] first.moves first.fails [] = subst (λ (ms : List Scheduled). IsInStore [] ms first.fails []) (sym moves) (subst (λ (fs : List Failing). IsInStore [] [] fs []) (sym fails) nothing_yet) in
    header_hold first lines n text s w (is_within 0 line) (pointwise nat_eq line header) (store, λ k. refl) e

pub stays_scheduled : (first : World) → first.moves ≡ [] → first.fails ≡ [] → StaysScheduled first
stays_scheduled first moves fails lines n text s w e =
    let h = all_hold first moves fails lines n text s w e in
    record { moves = h.0.scheduled; fails = h.0.failing; on_disk = h.0.on_disk; silent = h.1 }
