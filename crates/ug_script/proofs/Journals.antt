-- The events of a script's lines are a chain from the daemon that the setup lines gave, what is written is the text of their entries,
-- and a script without failures names nobody and judges each device once. Wherever lines lead, the script is lawful.
use Rattle.std.proofs.lemmas.Bool.Decides.{nat_tests}
use Rattle.std.proofs.Common.{◌≡◌, ℕ, ◌+◌, ◌<◌, ◌≤◌, arith, Bool, true, false, ◌&&◌, ◌||◌, cond, nat_eq, nat_lt, nat_le, map, List, [], ◌∷◌, ◌++◌, length, flat_map, Option, Some, None, inl, inr, refl, sym, ◌∙◌, ap, subst, append_assoc, append-nil}
use Rattle.std.specs.Cmp.Lexicographic.{pointwise}
use Rattle.std.specs.List.{list_any}
use Rattle.std.proofs.lemmas.Option.{same_Some}
use Rattle.ug_types.specs.Elements.{Has}
use Rattle.ug_kernel.specs.Kernel.{Kernel, IsKernel, Live, Moves}
use Rattle.ug_kernel.specs.Quiet.{Grows}
use Rattle.ug_kernel.specs.declared.device.Device.{Device}
use Rattle.ug_kernel.proofs.Stayed.{unmoving}
use Rattle.ug_sysfs.specs.World.{IsUnfailing, World, event_begun, carried}
use Rattle.ug_sysfs.specs.Begins.{moved_moves}
use Rattle.ug_audit.specs.declared.entry.Entry.{Entry}
use Rattle.ug_audit.specs.declared.entry.Entry.TheVariants as entry
use Rattle.ug_table.specs.State.{State}
use Rattle.ug_table.specs.Laws.{IsAsJudged}
use Rattle.ug_script.specs.Play.{play, names_somebody, NameNobody}
use Rattle.ug_script.proofs.Still.{lived_in_play, play_still}
use Rattle.ug_conf.specs.Draft.{draft_of}
use Rattle.ug_conf.specs.Settings.{defaults}
use Rattle.ug_conf.specs.Texts.{setting_line, settled}
use Rattle.ug_lines.specs.LineReading.{lines_read}
use Rattle.ug_types.specs.declared.event.Event as events
use Rattle.ug_types.specs.declared.event.Event.TheVariants.{Sweep, Order, Hint}
use Rattle.ug_core.specs.Policy.{Judging}
use Rattle.ug_core.specs.Answering.{acting, asking, deed_after}
use Rattle.ug_core.specs.Event.{DaemonState, handling, has_numbers, most_standings, ready}
use Rattle.ug_core.specs.Storing.{stored_with, storing}
use Rattle.std.proofs.Common.{Result, Ok, Err}
use Rattle.ug_kernel.specs.declared.control.Write.{Write}
use Rattle.ug_store.specs.PlayDisk.{play_disk}
use Rattle.ug_store.specs.declared.mishap.Planned.{Planned}
use Rattle.ug_store.specs.Scripted.{DiskWorld, disk_told}
use Rattle.ug_print.specs.RuleTexts.{rules_text_of}
use Rattle.ug_types.specs.declared.rule.Rule.{Rule}
use Rattle.ug_core.proofs.Kept.{stays_there}
use Rattle.ug_core.proofs.Verdicts.{steps_later}
use Rattle.ug_command_io.specs.Fold.{LineRefusal, BadLine, InputTooLong, LineOutcome, Writes, Refused, Stage, Going, Halted, is_within, stage_after, plays}
use Rattle.ug_steps.specs.declared.step.Plan.{Plan}
use Rattle.ug_steps.specs.declared.step.Plan.TheVariants as plan
use Rattle.ug_steps.specs.declared.step.Step.{Step}
use Rattle.ug_steps.specs.declared.step.Step.TheVariants.{Skip, Setup, Move, Schedule, Event, Restart}
use Rattle.ug_steps.specs.Grammar.{AsksForRules, step_of_line}
use Rattle.ug_script.specs.Setup.{Beside, no_setup, one_line_more, beside_of, policy_of, rules_disk, setup_rule, rules_from, first_started, steps_of, with_rules}
use Rattle.ug_script.specs.Script.{Script, fresh, takes_setup, has_started, closed_phase, with_setup_closed, daemon_in, disk_in, can_start}
use Rattle.ug_script.specs.Replay.{header, quiet, line_added, with_plan, with_restart, planned, order_played_by, answered_from, answered_of, came_of, disk_of, event_of, halted, restarted, taken, taken_if, tried_by, script_step}
use Rattle.ug_script.specs.Laws.{IsFaultless, StaysLawful, coming_in}
use Rattle.ug_script.specs.Journal.{happened_at, pass_at, left_by, EventsOfRuns, no_events, with_end, runs_by, runs_after, runs_in, first_start, AreSuccessive, IsToSettle, JudgesOnce, AreQuiet, Recorded, StaysRecorded}
use Rattle.ug_script.proofs.FileTexts.{in_force_stands}
use Rattle.ug_script.proofs.Phases.{closed_daemon, closed_disk, closed_started}
use Rattle.ug_script.proofs.Halts.{halted_moves}
use Rattle.ug_sysfs.specs.IfaceMoves.{sound_one}
use Rattle.ug_sysfs.specs.Serving.{bus_in}
use Rattle.ug_script.proofs.BusSound.{IsSoundWorld}
use Rattle.ug_script.proofs.FewDevices.{carried_few, plan_few, standings_few}
use Rattle.ug_script.proofs.LastStages.{last_stage}
use Rattle.ug_script.proofs.Lawful.{Holds, HoldsOf, answered_holds, due_order, halted_holds, event_nobody, move_holds, plan_holds, no_standing, start_of, swept_from}
use Rattle.ug_script.proofs.Stopped.{lawful_event}
use Rattle.ug_script.proofs.Numbers.{started_fits, fits_numbers}
use Rattle.ug_steps.proofs.Readable.{line_asks}
use Rattle.ug_script.proofs.Setups.{few_all, given_first, given_still, given_added, given_setup, policy_new}
use Rattle.ug_script.proofs.KeptRuns.{Kept, KeptAfter, added_kept, closed_now, coming_low, event_chain, first_holds, kept_still, kept_when, on_kept, quiet_front, skip_kept}
use Rattle.ug_script.proofs.KeptEnds.{came_kept, daemon_run, event_if, restart_kept}

-- ---- lines

restart_if : (first : World) (n : ℕ) (done : List (Option Step)) (runs : EventsOfRuns) (text : List ℕ) (s : Script) (w : World) (can : Bool) (loaded : Result (List Rule) LineRefusal) → ((rules : List Rule) → loaded ≡ Ok rules → KeptAfter first n done runs text (quiet (with_restart rules s) w)) → KeptAfter first n done runs text (cond can (restarted loaded s w) (Refused InputTooLong (Some s, w)))
restart_if first n done runs text s w true (Ok rules) k = k rules refl
restart_if first n done runs text s w true (Err fault) k = tt
restart_if first n done runs text s w false loaded k = tt

neither : (a b : Bool) → (a || b) ≡ false → (a ≡ false) × (b ≡ false)
neither false b e = (refl, e)
neither true b e = let none : ⊥ = cc in absurd none

named_nowhere : (es : List Entry) (e : Entry) → NameNobody es → names_somebody e ≡ true → Has es e → ⊥
named_nowhere [] e n t h = h
named_nowhere (x ∷ es) e n t (inl same) =
    let none : true ≡ false = sym t ∙ ap names_somebody (sym same) ∙ (neither (names_somebody x) (list_any names_somebody es) n).0 in
    let no_one : ⊥ = cc in no_one
named_nowhere (x ∷ es) e n t (inr h) = named_nowhere es e (neither (names_somebody x) (list_any names_somebody es) n).1 t h

nobody_left : (es fs : List Entry) → NameNobody (es ++ fs) → NameNobody es
nobody_left [] fs n = refl
nobody_left (e ∷ es) fs n =
    let x = neither (names_somebody e) (list_any names_somebody (es ++ fs)) n in
    ap (λ (b : Bool). b || list_any names_somebody es) x.0 ∙ nobody_left es fs x.1

nobody_right : (es fs : List Entry) → NameNobody (es ++ fs) → NameNobody fs
nobody_right [] fs n = n
nobody_right (e ∷ es) fs n = nobody_right es fs (neither (names_somebody e) (list_any names_somebody (es ++ fs)) n).1

-- no move is left for the sweep
answered_still : (event : events.Event) (d : DaemonState) (w : World) (o : DiskWorld) → w.moves ≡ [] → (answered_from event d w o).world.moves ≡ []
answered_still event d w o none = by_event event (ready event (tried_by d o).0 d) (start_of d w o) (tried_by d o).1 (halted_moves (tried_by d o).1 (event_begun w) ∙ none)
  where
    by_event : (event : events.Event) (r : DaemonState) (m : World) (q : DiskWorld) → m.moves ≡ [] → (order_played_by event r m q).world.moves ≡ []
    by_event (Sweep moment) r m q none = none
    by_event (Hint moment piece) r m q none = none
    by_event (Order moment who line) r m q none =
        let c = play (asking r who line) m in
        let b = play_disk (storing r c.0.change) q in
        (play_still (acting who (stored_with b.0 c.0.change r) (deed_after b.0 c.0.deed)) c.1 (play_still (asking r who line) m none).moves).moves

-- a device keeps its name, so that it is settled in a later kernel too
to_settle : (due : Option (List (List ℕ))) (k l : Kernel) (i : ℕ) (d e : Device) → Grows k l → Live k.devices i d → Live l.devices i e → IsToSettle due e.name → IsToSettle due d.name
to_settle due k l i d e grows before after is =
    let later = grows.devices i d before.at in
    let same : later.0 ≡ e = same_Some later.0 e (sym later.1 ∙ after.at) in
    subst (IsToSettle due) (ap (λ (x : Device). x.name) (sym same) ∙ later.2.name) is

-- where nobody is named, each live device was judged once and stands as judged
event_once : (first : World) (n : ℕ) (done : List (Option Step)) (runs : EventsOfRuns) (text : List ℕ) (s : Script) (w : World) (h : Kept first n done runs text s w) → AreQuiet done → IsUnfailing first → first.moves ≡ [] → (event : events.Event) → JudgesOnce (with_rules h.start.rules (policy_of s.setup)) (beside_of s.setup).hub h.start.kernel h.file runs.last (happened_at event s w)
unfolding daemon_run
event_once first n done runs text s w h quiet_lines fails moves event =
    let policy : Judging = policy_of s.setup in
    let d : DaemonState = daemon_in s in
    let o : DiskWorld = disk_of s in
    let a = answered_of event s w in
    let p = event_of event s w in
    let l : Kernel = p.world.kernel in
    let m : World = halted a.disk a.world in
    let law = swept_from a.daemon m (due_order event d w o) (halted_holds a.daemon a.disk a.world (answered_holds event d w o h.holds)) in
    let last = last_stage a.daemon.due m.kernel a.daemon.sweep l law.swept law.law in
    let y : Entry = entry.End a.daemon.event in
    let rest : List Entry = last.rest in
    let all : p.daemon.sweep.entries ≡ a.daemon.sweep.entries ++ (rest ++ y ∷ []) = ap (λ (z : State Judging). z.entries) law.entries ∙ ap (λ (z : List Entry). z ++ y ∷ []) last.entries ∙ append_assoc a.daemon.sweep.entries rest (y ∷ []) in
    let quiet : NameNobody rest = nobody_left rest (y ∷ []) (nobody_right a.daemon.sweep.entries (rest ++ y ∷ []) (subst NameNobody all (event_nobody event d w o h.holds.told (h.unfailing quiet_lines fails) h.kept (h.unplanned quiet_lines, refl)))) in
    let run = (daemon_run (beside_of s.setup) policy h.start h.file (runs.last ++ happened_at event s w ∷ []) l (disk_told p.disk) p.daemon h.few_rules h.at_start (event_chain first n done runs text event s w h)).run in
    record {
      run = run;
      each = λ i e live is.
          let lived = lived_in_play (handling a.daemon) m (halted_moves a.disk a.world ∙ answered_still event d w o (h.unmoved quiet_lines moves)) last.grows i e live in
          let as_judged : IsAsJudged a.daemon.sweep.hub l law.swept.standings i = elim (last.settled i lived.0 lived.1 (to_settle a.daemon.due m.kernel l i lived.0 e last.grows lived.1.entry live is)) [
            | inl z ↦ z
            | inr named ↦ elim named [
              | inl z ↦ absurd (named_nowhere rest (entry.Unsettled lived.0.name z.0) quiet refl z.1)
              | inr z ↦ absurd (named_nowhere rest (entry.UnsettledAll z.0) quiet refl z.1)
            ]
          ] in
          run.once i e live (subst (λ (o : Option Write). IsAsJudged o l p.daemon.sweep.standings i) (sym law.hub ∙ run.setting) (subst (λ (z : State Judging). IsAsJudged a.daemon.sweep.hub l z.standings i) (sym law.entries) as_judged));
    }

recorded : (first : World) (lines : List (List ℕ)) (n : ℕ) (text : List ℕ) (s : Script) (w : World) → Kept first n (steps_of lines) (runs_in first lines) text s w → Recorded first lines text s w
unfolding daemon_run
recorded first lines n text s w h =
    let beside : Beside = beside_of s.setup in
    let policy : Judging = policy_of s.setup in
    let runs : EventsOfRuns = runs_in first lines in
    record {
      beside = beside;
      policy = policy;
      setup = given_setup n (steps_of lines) s.setup h.given;
      ifaces = h.given.ifaces;
      settings = λ whole e. ap (λ (ls : List (List ℕ)). settled (lines_read setting_line 1 (draft_of defaults []) ls)) e ∙ ap settled (given_setup n (steps_of lines) s.setup h.given).settings;
      later = λ rules steps few can. steps_later (with_rules rules policy) steps (policy_new policy rules few) can;
      runs = record {
        start = h.start;
        ended = subst (λ (rs : List Rule). AreSuccessive beside policy (first_start rs first.kernel) runs.ended h.start) h.given.rules h.ended;
        last = daemon_run beside policy h.start h.file runs.last w.kernel (disk_told (disk_in s)) (daemon_in s) h.few_rules h.at_start h.chain;
      };
      written = h.written;
      nobody = h.nobody;
      saved = h.saved;
      once = event_once first n (steps_of lines) runs text s w h;
    }

-- ---- a line

step_kept : (first : World) (n : ℕ) (done : List (Option Step)) (runs : EventsOfRuns) (text : List ℕ) (step : Step) (s : Script) (w : World) → n < 1048576 → AsksForRules step → Kept first n done runs text s w → KeptAfter first (n + 1) (done ++ Some step ∷ []) (runs_by (Some step) s w runs) text (taken step s w)
step_kept first n done runs text Skip s w lt asks h = kept_still first (n + 1) (done ++ Some Skip ∷ []) runs text s w (skip_kept first n done runs text s w lt h)
step_kept first n done runs text (Setup line) s w lt asks h =
    let step : Option Step = Some (Setup line) in
    kept_when first (n + 1) (done ++ step ∷ []) runs text (takes_setup s.phase) (line_added (one_line_more line s.setup) s w) s w (λ opened. added_kept first n done runs text s w step (one_line_more line s.setup) lt opened h (given_added n done line s.setup lt asks h.given))
step_kept first n done runs text (Move action) s w lt asks h =
    let step : Option Step = Some (Move action) in
    let v : World = carried action w in
    kept_still first (n + 1) (done ++ step ∷ []) runs text (with_setup_closed s) v
    (on_kept first n done runs text s w v step (closed_phase s.phase) s.planned lt h (closed_daemon s.setup s.phase) (closed_disk s.setup s.phase) (closed_started s.phase) (given_still n done step s.setup refl refl refl refl refl refl refl h.given) (move_holds action (daemon_in s) w h.holds) (moved_moves action w.kernel) refl (λ b. sound_one action (bus_in w) b) (carried_few action w) (λ q. h.unfailing (quiet_front done step q).0) (λ q. h.unmoved (quiet_front done step q).0) (λ q. h.unplanned (quiet_front done step q).0))
step_kept first n done runs text (Schedule p) s w lt asks h = plan_kept p
  where
    step : Option Step
    step = Some (Schedule p)

    loud : {X : Type 0} → AreQuiet (done ++ Some (Schedule p) ∷ []) → X
    loud q = closed_now (quiet_front done (Some (Schedule p)) q).1

    by : (plan : List Planned) (v : World) → HoldsOf (daemon_in s) v → Moves w.kernel v.kernel → v.faults ≡ w.faults → (IsSoundWorld w → IsSoundWorld v) → coming_in v ≤ coming_in w + 1 → Kept first (n + 1) (done ++ Some (Schedule p) ∷ []) runs text (record (with_setup_closed s) { planned = plan }) v
    by plan v holds moves faults keeps devices = on_kept first n done runs text s w v (Some (Schedule p)) (closed_phase s.phase) plan lt h (closed_daemon s.setup s.phase) (closed_disk s.setup s.phase) (closed_started s.phase) (given_still n done (Some (Schedule p)) s.setup refl refl refl refl refl refl refl h.given) holds moves faults keeps devices (λ q. loud q) (λ q. loud q) (λ q. loud q)

    plan_kept : (x : Plan) → Kept first (n + 1) (done ++ Some (Schedule p) ∷ []) runs (text ++ []) (with_plan x (with_setup_closed s)) (planned x w)
    plan_kept (plan.Move m) = kept_still first (n + 1) (done ++ Some (Schedule p) ∷ []) runs text (with_setup_closed s) (planned (plan.Move m) w) (by s.planned (planned (plan.Move m) w) (plan_holds (plan.Move m) (daemon_in s) w h.holds) (unmoving w.kernel) refl (λ b. b) (plan_few (plan.Move m) w))
    plan_kept (plan.Fail f) = kept_still first (n + 1) (done ++ Some (Schedule p) ∷ []) runs text (with_setup_closed s) (planned (plan.Fail f) w) (by s.planned (planned (plan.Fail f) w) (plan_holds (plan.Fail f) (daemon_in s) w h.holds) (unmoving w.kernel) refl (λ b. b) (plan_few (plan.Fail f) w))
    plan_kept (plan.OnDisk f) = kept_still first (n + 1) (done ++ Some (Schedule p) ∷ []) runs text (with_plan (plan.OnDisk f) (with_setup_closed s)) w (by (s.planned ++ f ∷ []) w h.holds (unmoving w.kernel) refl (λ b. b) (omega arith))
step_kept first n done runs text (Event event) s w lt asks h =
    let p = event_of event s w in
    event_if first (n + 1) (done ++ Some (Event event) ∷ []) runs text event s w p.disk.stopped (pass_at event s w) (came_of s.setup s.planned p) (can_start s.setup s.phase) (has_numbers (daemon_in s) w.faults (disk_in s).faults)
    (came_kept first n done runs text event s w p.disk.stopped (rules_from s.setup.folder.count p.disk.disk.text) lt asks refl h)
step_kept first n done runs text Restart s w lt asks h = restart_if first (n + 1) (done ++ Some Restart ∷ []) (with_end None runs) text s w (can_start s.setup s.phase) (rules_from s.setup.folder.count (disk_in s).disk.text) (λ rules loaded. restart_kept first n done runs text s w rules lt loaded h)

line_kept : (first : World) (n : ℕ) (done : List (Option Step)) (runs : EventsOfRuns) (text : List ℕ) (step : Option Step) (s : Script) (w : World) → n < 1048576 → ((asked : Step) → step ≡ Some asked → AsksForRules asked) → Kept first n done runs text s w → KeptAfter first (n + 1) (done ++ step ∷ []) (runs_by step s w runs) text (taken_if step s w)
line_kept first n done runs text None s w lt asks h = tt
line_kept first n done runs text (Some step) s w lt asks h = step_kept first n done runs text step s w lt (asks step refl) h

kept_fresh : (first : World) → Holds [] 1 first → Kept first 1 [] no_events [] fresh first
kept_fresh first h = record {
  few = omega arith;
  holds = h;
  on_entries = λ g. g;
  few_devices = omega arith;
  stream = refl;
  bus = λ b. b;
  fits = λ e. started_fits 1 1 [] first.faults 0 (omega arith) (omega arith) (omega (arith, e.0)) (omega arith);
  given = given_first;
  kept = refl;
  possible = inl refl;
  start = first_start [] first.kernel;
  few_rules = few_all 1 [] no_setup [] given_first (omega arith);
  file = (rules_disk no_setup).disk;
  at_start = first_holds no_setup first.kernel;
  ended = refl;
  chain = (unmoving first.kernel, stays_there (Some (rules_disk no_setup).disk), refl);
  none = λ e. refl;
  passes = refl;
  written = refl;
  nobody = λ x e. refl;
  unfailing = λ x e. e;
  unmoved = λ x e. e;
  unplanned = λ x. refl;
  saved = λ x. refl;
  stands = λ f r. in_force_stands [] (first_started no_setup) (rules_text_of []) [] f refl;
}

-- lines one after another

refused_on : (fault : LineRefusal) (n : ℕ) (text : List ℕ) (p : Option Script × World) (lines : List (List ℕ)) → plays script_step (Halted fault n text p) lines ≡ Halted fault n text p
refused_on fault n text p [] = refl
refused_on fault n text p (line ∷ lines) = refused_on fault n text p lines

-- behind a refused line nothing is taken
never : (fault : LineRefusal) (n : ℕ) (text : List ℕ) (p : Option Script × World) (lines : List (List ℕ)) (m : ℕ) (out : List ℕ) (q : Option Script × World) → plays script_step (Halted fault n text p) lines ≡ Going m out q → ⊥
never fault n text p lines m out q e = let h : Halted fault n text p ≡ Going m out q = sym (refused_on fault n text p lines) ∙ e in let none : ⊥ = cc in none

-- what holds at a stage
abbrev KeptAt : World → List (Option Step) → EventsOfRuns → Stage (Option Script × World) → Type 0
KeptAt first done runs (Going n text (Some s, w)) = Kept first n done runs text s w
KeptAt first done runs (Going n text (None, w)) = ⊥
KeptAt first done runs (Halted fault n text p) = Unit {0}

both : (a b : Bool) → (a && b) ≡ true → a ≡ true
both true b e = refl
both false b e = let none : ⊥ = cc in absurd none

within : (n : ℕ) (line : List ℕ) → is_within n line ≡ true → n < 1048576
within n line e = let t : nat_lt n 1048576 ≡ true = both (nat_lt n 1048576) (nat_le (length line) 1048576) e in grind (arith, nat_tests, t)

rest_kept : (first : World) (done : List (Option Step)) (n : ℕ) (text : List ℕ) (p : Option Script × World) (step : Option Step) (runs : EventsOfRuns) (lines : List (List ℕ)) (m : ℕ) (out : List ℕ) (t : Script) (v : World)
    → ((more : List ℕ) (s : Script) (w : World) → Kept first (n + 1) (done ++ step ∷ []) runs more s w → plays script_step (Going (n + 1) more (Some s, w)) lines ≡ Going m out (Some t, v) → Kept first m ((done ++ step ∷ []) ++ map step_of_line lines) (runs_after runs (Some s, w) lines) out t v)
    → (b : Bool) (o : LineOutcome (Option Script × World)) → (b ≡ true → KeptAfter first (n + 1) (done ++ step ∷ []) runs text o) → plays script_step (cond b (stage_after n text o) (Halted BadLine n text p)) lines ≡ Going m out (Some t, v) → Kept first m (done ++ (step ∷ map step_of_line lines)) (runs_after runs (left_by o) lines) out t v
rest_kept first done n text p step runs lines m out t v again true (Writes more (Some s, w)) k e =
    subst (λ (x : List (Option Step)). Kept first m x (runs_after runs (Some s, w) lines) out t v) (append_assoc done (step ∷ []) (map step_of_line lines)) (again (text ++ more) s w (k refl) e)
rest_kept first done n text p step runs lines m out t v again true (Writes more (None, w)) k e = absurd (k refl)
rest_kept first done n text p step runs lines m out t v again true (Refused fault next) k e = absurd (never fault n text next lines m out (Some t, v) e)
rest_kept first done n text p step runs lines m out t v again false o k e = absurd (never BadLine n text p lines m out (Some t, v) e)

lines_kept : (first : World) (lines : List (List ℕ)) (done : List (Option Step)) (runs : EventsOfRuns) (n : ℕ) (text : List ℕ) (s : Script) (w : World) (m : ℕ) (out : List ℕ) (t : Script) (v : World) → Kept first n done runs text s w → plays script_step (Going n text (Some s, w)) lines ≡ Going m out (Some t, v) → Kept first m (done ++ map step_of_line lines) (runs_after runs (Some s, w) lines) out t v
lines_kept first [] done runs n text s w m out t v h e =
    subst (λ (x : List (Option Step)). Kept first m x runs out t v) (sym (append-nil done)) (subst (λ (x : Stage (Option Script × World)). KeptAt first done runs x) e h)
lines_kept first (line ∷ lines) done runs n text s w m out t v h e =
    let step : Option Step = step_of_line line in
    rest_kept first done n text (Some s, w) step (runs_by step s w runs) lines m out t v (λ more r u k f. lines_kept first lines (done ++ step ∷ []) (runs_by step s w runs) (n + 1) more r u m out t v k f) (is_within n line) (script_step (Some s, w) line) (λ b. line_kept first n done runs text step s w (within n line b) (line_asks line) h) e

-- the header, and the lines behind it
header_kept : (first : World) (lines : List (List ℕ)) (m : ℕ) (out : List ℕ) (t : Script) (v : World) (b c : Bool) → Holds [] 1 first → plays script_step (cond b (stage_after 0 [] (cond c (quiet fresh first) (Refused BadLine (None, first)))) (Halted BadLine 0 [] (None, first))) lines ≡ Going m out (Some t, v)
    → Kept first m (map step_of_line lines) (runs_after no_events (left_by (cond c (quiet fresh first) (Refused BadLine (None, first)))) lines) out t v
header_kept first lines m out t v true true h e = lines_kept first lines [] no_events 1 [] fresh first m out t v (kept_fresh first h) e
header_kept first lines m out t v true false h e = absurd (never BadLine 0 [] (None, first) lines m out (Some t, v) e)
header_kept first lines m out t v false c h e = absurd (never BadLine 0 [] (None, first) lines m out (Some t, v) e)

-- no line was taken
abbrev BeforeHeader : Stage (Option Script × World) → Type 0
BeforeHeader (Going n text (None, w)) = Unit {0}
BeforeHeader (Going n text (Some s, w)) = ⊥
BeforeHeader (Halted fault n text p) = Unit {0}

kept_all : (first : World) → first.ran_out ≡ false → IsKernel first.kernel → (lines : List (List ℕ)) (n : ℕ) (text : List ℕ) (s : Script) (w : World) → plays script_step (Going 0 [] (None, first)) lines ≡ Going n text (Some s, w) → Kept first n (steps_of lines) (runs_in first lines) text s w
kept_all first run sound [] n text s w e = absurd (subst (λ (x : Stage (Option Script × World)). BeforeHeader x) e tt)
kept_all first run sound (line ∷ lines) n text s w e = header_kept first lines n text s w (is_within 0 line) (pointwise nat_eq line header) (record { told = run; sound = sound; stand = no_standing first.kernel }) e

pub stays_recorded : (w : World) → w.ran_out ≡ false → IsKernel w.kernel → StaysRecorded w
stays_recorded first run sound lines n text s w e = recorded first lines n text s w (kept_all first run sound lines n text s w e)

stand_few : (first : World) (n : ℕ) (s : Script) (w : World) {done : List (Option Step)} {runs : EventsOfRuns} {text : List ℕ} → Kept first n done runs text s w → IsFaultless first → length (daemon_in s).sweep.standings ≤ most_standings
stand_few first n s w h none =
    let few = standings_few w.kernel (daemon_in s).sweep.standings (daemon_in s).sweep.next h.holds.stand in
    let low = coming_low first n w none h.few h.few_devices in
    omega (arith, few, low)

pub stays_lawful : (w : World) → w.ran_out ≡ false → IsKernel w.kernel → StaysLawful w
stays_lawful first run sound lines n text s w e =
    let h : Kept first n (steps_of lines) (runs_in first lines) text s w = kept_all first run sound lines n text s w e in
    record {
      sound = h.holds.sound;
      on_entries = h.on_entries;
      bus = h.bus;
      stand = h.holds.stand;
      events = λ event. lawful_event event s w h.holds h.kept;
      told = h.kept;
      possible = h.possible;
      numbers = λ f. fits_numbers n (daemon_in s) w (disk_in s) h.few (stand_few first n s w h f) (h.fits f);
    }

-- the kernel doesn't run out
pub stays_told : (w : World) → w.ran_out ≡ false → IsKernel w.kernel → (lines : List (List ℕ)) (n : ℕ) (text : List ℕ) (s : Script) (v : World) → plays script_step (Going 0 [] (None, w)) lines ≡ Going n text (Some s, v) → v.ran_out ≡ false
stays_told first run sound lines n text s w e = (kept_all first run sound lines n text s w e).holds.told

-- the rules of the setup are those of the `rule` lines; and before a daemon was started there is no run
pub rules_given : (w : World) → w.ran_out ≡ false → IsKernel w.kernel → (lines : List (List ℕ)) (n : ℕ) (text : List ℕ) (s : Script) (v : World) → plays script_step (Going 0 [] (None, w)) lines ≡ Going n text (Some s, v) → s.setup.rules ≡ flat_map setup_rule (steps_of lines)
rules_given first run sound lines n text s w e = (kept_all first run sound lines n text s w e).given.rules

pub unstarted_runs : (w : World) → w.ran_out ≡ false → IsKernel w.kernel → (lines : List (List ℕ)) (n : ℕ) (text : List ℕ) (s : Script) (v : World) → plays script_step (Going 0 [] (None, w)) lines ≡ Going n text (Some s, v) → has_started s.phase ≡ false → runs_in w lines ≡ no_events
unstarted_runs first run sound lines n text s w e = (kept_all first run sound lines n text s w e).none
