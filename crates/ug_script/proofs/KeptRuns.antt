-- A line of a script keeps the record of its runs: one of setup, one that changes neither policy nor daemon, and an event.
use Rattle.std.proofs.Common.{◌≡◌, ℕ, ◌+◌, ◌*◌, ◌<◌, ◌≤◌, arith, Bool, true, false, cond, List, [], ◌∷◌, ◌++◌, length, length-append, Option, Some, None, inl, inr, refl, sym, ◌∙◌, ap, subst, append_assoc, append-nil}
use Rattle.ug_types.specs.Elements.{Has}
use Rattle.ug_kernel.specs.Defaults.{HasOnEntries}
use Rattle.ug_kernel.proofs.Defaults.{moves_on_entries}
use Rattle.ug_kernel.specs.Kernel.{Kernel, Moves}
use Rattle.ug_kernel.proofs.Stayed.{unmoving}
use Rattle.ug_sysfs.specs.World.{IsUnfailing, World, event_begun}
use Rattle.ug_audit.specs.declared.entry.Entry.{Entry}
use Rattle.ug_script.specs.Play.{play, NameNobody}
use Rattle.ug_script.proofs.Sweeps.{nobody_more}
use Rattle.ug_types.specs.declared.event.Event as events
use Rattle.ug_types.specs.declared.event.Event.TheVariants.{Sweep, Order, Hint}
use Rattle.ug_core.specs.Policy.{Judging}
use Rattle.ug_core.specs.Answering.{asking}
use Rattle.ug_core.specs.Event.{DaemonState, handling, most_standings, ready, trying}
use Rattle.ug_types.specs.Events.{FitsEvent}
use Rattle.ug_core.specs.Stops.{AllReadable}
use Rattle.ug_core.specs.Storing.{storing}
use Rattle.ug_core.specs.Chain.{Happened, Chain, journal}
use Rattle.std.proofs.lemmas.Option.{same_Some}
use Rattle.ug_store.specs.Disk.{Disk, IsAsItWas, IsImage}
use Rattle.ug_store.specs.declared.mishap.Planned.{Planned}
use Rattle.ug_store.proofs.PlayedDisk.{play_runs_disk, play_stays_possible, play_stays_told}
use Rattle.ug_ruleset.specs.RuleFile.{IsRuleFile, permanent_rules}
use Rattle.ug_store.specs.Scripted.{DiskWorld, MemKeeps, disk_told, forgetting}
use Rattle.ug_sysfs.specs.World.{Gives}
use Rattle.ug_script.proofs.Plays.{play_runs}
use Rattle.ug_core.specs.Chain.{IsEvent, StaysOnDisk}
use Rattle.ug_core.proofs.Kept.{stays_there}
use Rattle.ug_core.proofs.Plain.{event_keeps_pending}
use Rattle.ug_core.proofs.Numbering.{start_length}
use Rattle.ug_core.proofs.Readable.{start_permanent}
use Rattle.ug_core.proofs.Tried.{tries_save}
use Rattle.ug_core.proofs.SoFar.{journal_append}
use Rattle.ug_core.proofs.Chained.{chain_more, chain_moves}
use Rattle.ug_command_io.specs.Fold.{LineOutcome, Writes, Refused}
use Rattle.ug_steps.specs.declared.step.Step.{Step}
use Rattle.ug_steps.specs.declared.step.Step.TheVariants.{Skip, Event}
use Rattle.ug_script.specs.FolderLines.{rules_in_folder}
use Rattle.ug_script.specs.Setup.{SetupState, beside_of, folder_of, policy_of, rules_disk, setup_rules, first_started, started_at, with_rules}
use Rattle.ug_script.specs.Script.{Script, Phase, takes_setup, has_started, daemon_by, daemon_in, disk_by, disk_in}
use Rattle.ug_script.specs.Replay.{outcome_of, outcome_text, bad, line_added, with_played, order_played_by, answered_from, disk_of, event_from, event_of, finished_text, halted, left_played, tried_by}
use Rattle.ug_script.specs.Laws.{calls_of, coming_in, faults_of, IsFaultless}
use Rattle.ug_script.specs.Journal.{happened_at, EventsOfRuns, no_events, with_events, journals, journal_of, events_text, runs_text, text_of_runs, RunStart, first_start, HoldsAtStart, AreSuccessive, is_quiet, AreQuiet}
use Rattle.ug_script.proofs.FileTexts.{StandsBehind, event_file, event_stands, event_text, in_force_stands, readable_front}
use Rattle.ug_script.proofs.OnEntries.{event_ends_on_entries}
use Rattle.ug_script.proofs.Phases.{open_unstarted}
use Rattle.ug_script.specs.Passes.{pass_behind}
use Rattle.ug_script.proofs.PassBehind.{IsBehind, behind_holds, event_ends, pass_is_behind}
use Rattle.ug_script.proofs.BusSound.{IsSoundWorld}
use Rattle.ug_script.proofs.FewStandings.{event_devices}
use Rattle.ug_script.proofs.PassFits.{left_sound, pass_fits}
use Rattle.ug_script.proofs.Lawful.{HoldsOf, answers, due_order, event_stream, made_by, swept_tells, handled, event_disk, event_nobody, event_saved, order_runs, no_standing, start_of}
use Rattle.ug_script.proofs.Numbers.{Fits, FitsOf, fits_more, started_fits}
use Rattle.ug_script.proofs.Setups.{IsGiven, InSetup, few_all, given_still, own_rules}

pub quiet_front : (steps : List (Option Step)) (step : Option Step) → AreQuiet (steps ++ step ∷ []) → AreQuiet steps × (is_quiet step ≡ true)
quiet_front [] step q = (tt, q.0)
quiet_front (x ∷ steps) step q = let k = quiet_front steps step q.1 in ((q.0, k.0), k.1)

-- what holds after the header and so many lines, which asked for these steps; and with what the last run of the daemon began
pub record Kept (first : World) (n : ℕ) (done : List (Option Step)) (runs : EventsOfRuns) (text : List ℕ) (s : Script) (w : World) : Type 0 where
  pub few : n ≤ 1048576
  pub holds : HoldsOf (daemon_in s) w
  pub on_entries : HasOnEntries first.kernel → HasOnEntries w.kernel
  pub few_devices : coming_in w ≤ coming_in first + n
  pub stream : (daemon_in s).stream.messages ≡ []
  pub bus : IsSoundWorld first → IsSoundWorld w
  pub fits : IsFaultless first → FitsOf n (daemon_in s) w (disk_in s)
  pub given : IsGiven n done s.setup
  pub kept : (disk_in s).ran_out ≡ false
  pub possible : IsImage (disk_in s).disk.left (disk_in s).disk.text
  pub start : RunStart
  pub few_rules : length (folder_of (policy_of s.setup)) + length start.rules ≤ 65536
  pub file : Disk
  pub at_start : HoldsAtStart start file
  pub ended : AreSuccessive (beside_of s.setup) (policy_of s.setup) (first_start s.setup.rules first.kernel) runs.ended start
  pub chain : Chain start.kernel (Some file) (started_at start.number (beside_of s.setup) (with_rules start.rules (policy_of s.setup))) runs.last w.kernel (disk_told (disk_in s)) (daemon_in s)
  pub none : has_started s.phase ≡ false → runs ≡ no_events
  pub passes : length runs.last ≡ length runs.passes
  pub written : text ≡ text_of_runs runs
  pub nobody : AreQuiet done → IsUnfailing first → NameNobody (journal_of runs)
  pub unfailing : AreQuiet done → IsUnfailing first → IsUnfailing w
  pub unmoved : AreQuiet done → first.moves ≡ [] → w.moves ≡ []
  pub unplanned : AreQuiet done → s.planned ≡ []
  pub saved : AreQuiet done → (daemon_in s).pending ≡ false
  pub stands : IsRuleFile start.rules start.text → AllReadable runs.last → StandsBehind runs.last (daemon_in s) (disk_in s).disk.text

-- few enough that each may have a standing
pub coming_low : (first : World) (n : ℕ) (w : World) → IsFaultless first → n ≤ 1048576 → coming_in w ≤ coming_in first + n → coming_in w ≤ most_standings
coming_low first n w none few devices = let first_few = none.2 in omega (arith, few, devices, first_few)

abbrev pub KeptAfter : World → ℕ → List (Option Step) → EventsOfRuns → List ℕ → LineOutcome (Option Script × World) → Type 0
KeptAfter first n done runs text (Writes more (Some s, w)) = Kept first n done runs (text ++ more) s w
KeptAfter first n done runs text (Writes more (None, w)) = ⊥
KeptAfter first n done runs text (Refused fault p) = Unit {0}

-- no event, and no text
pub kept_still : (first : World) (n : ℕ) (done : List (Option Step)) (runs : EventsOfRuns) (text : List ℕ) (s : Script) (w : World) → Kept first n done runs text s w → Kept first n done runs (text ++ []) s w
kept_still first n done runs text s w h = subst (λ (x : List ℕ). Kept first n done runs x s w) (sym (append-nil text)) h

pub only_image : {x y : List ℕ} → Has (x ∷ []) y → y ≡ x
only_image (inl e) = sym e
only_image (inr h) = absurd h

-- at the beginning the disk holds the text of the rules, and a crash leaves no other
pub first_holds : (setup : SetupState) (k : Kernel) → HoldsAtStart (first_start setup.rules k) (rules_disk setup).disk
first_holds setup k = record { text = refl; left = λ text h. inl (only_image h) }

-- ---- a line of setup: another policy, before any event

-- its rules, those of the folder among them
all_few : (n : ℕ) (done : List (Option Step)) (s : SetupState) → IsGiven n done s → length (setup_rules s) ≤ 65536
all_few n done s given =
    let long : length (setup_rules s) ≡ length (rules_in_folder s.folder.files) + length s.rules = start_length (rules_in_folder s.folder.files) s.rules in
    let same : length (rules_in_folder s.folder.files) ≡ s.folder.count = given.held.number in
    let few : s.folder.count + length s.rules ≤ 65536 = given.listed in
    omega (arith, long, same, few)

setup_kept : (first : World) (n : ℕ) (done : List (Option Step)) (runs : EventsOfRuns) (text : List ℕ) (s : Script) (w : World) (step : Option Step) (setup : SetupState) → n < 1048576 → takes_setup s.phase ≡ true → Kept first n done runs text s w → IsGiven (n + 1) (done ++ step ∷ []) setup → Kept first (n + 1) (done ++ step ∷ []) runs text (record s { setup = setup }) w
setup_kept first n done runs text s w step setup lt opened h given =
    let o = open_unstarted s.phase opened in
    let none : runs ≡ no_events = h.none o.0 in
    let new : daemon_by setup s.phase ≡ first_started setup = o.1 setup in
    let on : disk_by setup s.phase ≡ rules_disk setup = o.2 setup in
    let file : Option Disk = Some (rules_disk setup).disk in
    let b : RunStart = first_start setup.rules first.kernel in
    let event_begun : h.start ≡ first_start s.setup.rules first.kernel = subst (λ (x : EventsOfRuns). AreSuccessive (beside_of s.setup) (policy_of s.setup) (first_start s.setup.rules first.kernel) x.ended h.start) none h.ended in
    let before : Chain h.start.kernel (Some h.file) (started_at h.start.number (beside_of s.setup) (with_rules h.start.rules (policy_of s.setup))) [] w.kernel (disk_told (disk_in s)) (daemon_in s) = subst (λ (x : EventsOfRuns). Chain h.start.kernel (Some h.file) (started_at h.start.number (beside_of s.setup) (with_rules h.start.rules (policy_of s.setup))) x.last w.kernel (disk_told (disk_in s)) (daemon_in s)) none h.chain in
    let moves : Moves first.kernel w.kernel = subst (λ (x : RunStart). Moves x.kernel w.kernel) event_begun before.0 in
    let stays : StaysOnDisk file (disk_told (disk_by setup s.phase)) = subst (λ (x : DiskWorld). StaysOnDisk file (disk_told x)) (sym on) (stays_there file) in
    record {
      few = omega (arith, lt);
      holds = subst (λ (d : DaemonState). HoldsOf d w) (sym new) (record { told = h.holds.told; sound = h.holds.sound; stand = no_standing w.kernel });
      on_entries = h.on_entries;
      few_devices = let few = h.few_devices in omega (arith, few);
      stream = ap (λ (d : DaemonState). d.stream.messages) new;
      bus = h.bus;
      fits = λ e.
          let low : w.faults ≤ 2199023255552 * n = (h.fits e).few_faults in
          let more : w.faults ≤ 2199023255552 * (n + 1) = omega (arith, low) in
          subst (λ (d : DaemonState). FitsOf (n + 1) d w (disk_by setup s.phase)) (sym new) (subst (λ (x : DiskWorld). FitsOf (n + 1) (first_started setup) w x) (sym on) (started_fits (n + 1) 1 (setup_rules setup) w.faults 0 (omega arith) (all_few (n + 1) (done ++ step ∷ []) setup given) more (omega arith)));
      given = given;
      kept = ap (λ (x : DiskWorld). x.ran_out) on;
      possible = subst (λ (x : DiskWorld). IsImage x.disk.left x.disk.text) (sym on) (inl refl);
      start = b;
      few_rules = few_all (n + 1) (done ++ step ∷ []) setup setup.rules given given.listed;
      file = (rules_disk setup).disk;
      at_start = first_holds setup first.kernel;
      ended = subst (λ (x : EventsOfRuns). AreSuccessive (beside_of setup) (policy_of setup) b x.ended b) (sym none) refl;
      chain = subst (λ (p : Judging). Chain first.kernel file (started_at 1 (beside_of setup) p) runs.last w.kernel (disk_told (disk_by setup s.phase)) (daemon_by setup s.phase)) (sym (own_rules setup))
          (subst (λ (x : EventsOfRuns). Chain first.kernel file (first_started setup) x.last w.kernel (disk_told (disk_by setup s.phase)) (daemon_by setup s.phase)) (sym none) (moves, stays, new));
      none = h.none;
      passes = h.passes;
      written = h.written;
      nobody = λ q. h.nobody (quiet_front done step q).0;
      unfailing = λ q. h.unfailing (quiet_front done step q).0;
      unmoved = λ q. h.unmoved (quiet_front done step q).0;
      unplanned = λ q. h.unplanned (quiet_front done step q).0;
      saved = λ q. ap (λ (d : DaemonState). d.pending) new;
      stands = λ f r. in_force_stands runs.last (daemon_by setup s.phase) (disk_by setup s.phase).disk.text setup.rules (subst (λ (c : List ℕ). IsRuleFile setup.rules c) (sym (ap (λ (x : DiskWorld). x.disk.text) on)) f) (sym (ap (λ (d : DaemonState). permanent_rules d.sweep.judge.rules) new ∙ start_permanent 1 (rules_in_folder setup.folder.files) setup.rules));
    }

pub added_kept : (first : World) (n : ℕ) (done : List (Option Step)) (runs : EventsOfRuns) (text : List ℕ) (s : Script) (w : World) (step : Option Step) (o : Option SetupState) → n < 1048576 → takes_setup s.phase ≡ true → Kept first n done runs text s w → InSetup (IsGiven (n + 1) (done ++ step ∷ [])) o → KeptAfter first (n + 1) (done ++ step ∷ []) runs text (line_added o s w)
added_kept first n done runs text s w step None lt opened h given = tt
added_kept first n done runs text s w step (Some setup) lt opened h given = kept_still first (n + 1) (done ++ step ∷ []) runs text (record s { setup = setup }) w (setup_kept first n done runs text s w step setup lt opened h given)

pub kept_when : (first : World) (n : ℕ) (done : List (Option Step)) (runs : EventsOfRuns) (text : List ℕ) (b : Bool) (o : LineOutcome (Option Script × World)) (s : Script) (w : World) → (b ≡ true → KeptAfter first n done runs text o) → KeptAfter first n done runs text (cond b o (bad s w))
kept_when first n done runs text true o s w x = x refl
kept_when first n done runs text false o s w x = tt

-- ---- a line that changes neither the policy nor the daemon

pub on_kept : (first : World) (n : ℕ) (done : List (Option Step)) (runs : EventsOfRuns) (text : List ℕ) (s : Script) (w v : World) (step : Option Step) (phase : Phase) (plan : List Planned) → n < 1048576 → Kept first n done runs text s w → daemon_by s.setup phase ≡ daemon_in s → disk_by s.setup phase ≡ disk_in s → has_started phase ≡ has_started s.phase → IsGiven (n + 1) (done ++ step ∷ []) s.setup → HoldsOf (daemon_in s) v → Moves w.kernel v.kernel → v.faults ≡ w.faults → (IsSoundWorld w → IsSoundWorld v) → coming_in v ≤ coming_in w + 1
    → (AreQuiet (done ++ step ∷ []) → IsUnfailing first → IsUnfailing v) → (AreQuiet (done ++ step ∷ []) → first.moves ≡ [] → v.moves ≡ []) → (AreQuiet (done ++ step ∷ []) → plan ≡ []) → Kept first (n + 1) (done ++ step ∷ []) runs text (record s { phase = phase; planned = plan }) v
on_kept first n done runs text s w v step phase plan lt h same on event_begun given holds moves faults keeps devices unfailing unmoved unplanned =
    let new : DaemonState = started_at h.start.number (beside_of s.setup) (with_rules h.start.rules (policy_of s.setup)) in
    record {
      few = omega (arith, lt);
      holds = subst (λ (d : DaemonState). HoldsOf d v) (sym same) holds;
      on_entries = λ g. moves_on_entries w.kernel v.kernel moves (h.on_entries g);
      few_devices = let few = h.few_devices in omega (arith, few, devices);
      stream = ap (λ (d : DaemonState). d.stream.messages) same ∙ h.stream;
      bus = λ b. keeps (h.bus b);
      fits = λ e.
          let d : DaemonState = daemon_in s in
          let o : DiskWorld = disk_in s in
          let more : Fits (n + 1) d.event d.sweep.next d.sweep.judge.next w.faults o.faults = fits_more (h.fits e) in
          let now : FitsOf (n + 1) d v o = subst (λ (f : ℕ). Fits (n + 1) d.event d.sweep.next d.sweep.judge.next f o.faults) (sym faults) more in
          subst (λ (x : DaemonState). FitsOf (n + 1) x v (disk_by s.setup phase)) (sym same) (subst (λ (x : DiskWorld). FitsOf (n + 1) d v x) (sym on) now);
      given = given;
      kept = ap (λ (x : DiskWorld). x.ran_out) on ∙ h.kept;
      possible = subst (λ (x : DiskWorld). IsImage x.disk.left x.disk.text) (sym on) h.possible;
      start = h.start;
      few_rules = h.few_rules;
      file = h.file;
      at_start = h.at_start;
      ended = h.ended;
      chain = subst (λ (o : DiskWorld). Chain h.start.kernel (Some h.file) new runs.last v.kernel (disk_told o) (daemon_by s.setup phase)) (sym on) (subst (λ (d : DaemonState). Chain h.start.kernel (Some h.file) new runs.last v.kernel (disk_told (disk_in s)) d) (sym same) (chain_moves h.start.kernel (Some h.file) new runs.last w.kernel v.kernel (disk_told (disk_in s)) (disk_told (disk_in s)) (daemon_in s) h.chain moves (stays_there (disk_told (disk_in s)))));
      none = λ e. h.none (sym event_begun ∙ e);
      passes = h.passes;
      written = h.written;
      nobody = λ q. h.nobody (quiet_front done step q).0;
      unfailing = unfailing;
      unmoved = unmoved;
      unplanned = unplanned;
      saved = λ q. ap (λ (d : DaemonState). d.pending) same ∙ h.saved (quiet_front done step q).0;
      stands = λ f r. subst (λ (x : DiskWorld). StandsBehind runs.last (daemon_by s.setup phase) x.disk.text) (sym on) (subst (λ (d : DaemonState). StandsBehind runs.last d (disk_in s).disk.text) (sym same) (h.stands f r));
    }

pub closed_now : {X : Type 0} → false ≡ true → X
closed_now e = let none : ⊥ = cc in absurd none

pub skip_kept : (first : World) (n : ℕ) (done : List (Option Step)) (runs : EventsOfRuns) (text : List ℕ) (s : Script) (w : World) → n < 1048576 → Kept first n done runs text s w → Kept first (n + 1) (done ++ Some Skip ∷ []) runs text s w
skip_kept first n done runs text s w lt h = on_kept first n done runs text s w w (Some Skip) s.phase s.planned lt h refl refl refl (given_still n done (Some Skip) s.setup refl refl refl refl refl refl refl h.given) h.holds (unmoving w.kernel) refl (λ b. b) (omega arith) (λ q. h.unfailing (quiet_front done (Some Skip) q).0) (λ q. h.unmoved (quiet_front done (Some Skip) q).0) (λ q. h.unplanned (quiet_front done (Some Skip) q).0)

-- ---- an event

-- the event keeps its laws
is_event : (first : World) (n : ℕ) (done : List (Option Step)) (runs : EventsOfRuns) (text : List ℕ) (event : events.Event) (s : Script) (w : World) (h : Kept first n done runs text s w) → IsEvent (happened_at event s w)
is_event first n done runs text event s w h =
    let d : DaemonState = daemon_in s in
    let o : DiskWorld = disk_of s in
    let tried = (tried_by d o).0 in
    let q : DiskWorld = (tried_by d o).1 in
    let a = answered_from event d w o in
    let p = event_from event d w o in
    let m : World = halted a.disk a.world in
    let runs = play_runs (handling a.daemon) m in
    let made = made_by event d w o h.holds in
    let tells = swept_tells a.daemon m (due_order event d w o) in
    record {
      answers = answers event d w o h.holds;
      handled = handled event d w o h.holds;
      file = event_file event d w o;
      saves = tries_save Gives calls_of faults_of MemKeeps event o d tried q (start_of d w o) a.became made.made a.world a.disk a.daemon m p.world p.daemon tells.swept (play_runs_disk (trying d) o) (order_runs event (ready event tried d) (start_of d w o) q) made.goes tells.goes tells.entries (event_keeps_pending Gives m a.daemon p.daemon p.world runs);
    }

-- the chain with that event
pub event_chain : (first : World) (n : ℕ) (done : List (Option Step)) (runs : EventsOfRuns) (text : List ℕ) (event : events.Event) (s : Script) (w : World) (h : Kept first n done runs text s w) → Chain h.start.kernel (Some h.file) (started_at h.start.number (beside_of s.setup) (with_rules h.start.rules (policy_of s.setup))) (runs.last ++ happened_at event s w ∷ []) (event_of event s w).world.kernel (disk_told (event_of event s w).disk) (event_of event s w).daemon
event_chain first n done runs text event s w h = chain_more h.start.kernel (Some h.file) (started_at h.start.number (beside_of s.setup) (with_rules h.start.rules (policy_of s.setup))) runs.last w.kernel (disk_told (disk_in s)) (daemon_in s) (happened_at event s w) h.chain (unmoving w.kernel) (stays_there (disk_told (disk_in s))) refl (is_event first n done runs text event s w h)

-- what a crash might have left within the event is forgotten, and what it may leave now is not
forgets : (o : DiskWorld) → StaysOnDisk (disk_told o) (disk_told (forgetting o))
forgets o = by_told o.ran_out
  where
    by_told : (b : Bool) → StaysOnDisk (cond b None (Some o.disk)) (cond b None (Some (forgetting o).disk))
    by_told true = λ n e. (let none : ⊥ = cc in absurd none)
    by_told false = λ n e. (o.disk, refl, subst (λ (m : Disk). IsAsItWas o.disk m) (same_Some (forgetting o).disk n e) (record { text = refl; fresh = refl; synced = refl; left = refl }))

pub event_possible : (event : events.Event) (d : DaemonState) (w : World) (o : DiskWorld) → o.ran_out ≡ false → IsImage o.disk.left o.disk.text → IsImage (event_from event d w o).disk.disk.left (event_from event d w o).disk.disk.text
event_possible event d w o told is = by_event event (ready event (tried_by d o).0 d) (start_of d w o) (tried_by d o).1 (play_stays_told (trying d) o told) (play_stays_possible (trying d) o told is)
  where
    by_event : (event : events.Event) (r : DaemonState) (m : World) (q : DiskWorld) → q.ran_out ≡ false → IsImage q.disk.left q.disk.text → IsImage (order_played_by event r m q).disk.disk.left (order_played_by event r m q).disk.disk.text
    by_event (Sweep moment) r m q told is = is
    by_event (Hint moment piece) r m q told is = is
    by_event (Order moment who line) r m q told is = play_stays_possible (storing r (play (asking r who line) m).0.change) q told is

-- what one event and its pass write
abbrev pub one_text : Happened → List ℕ → List ℕ
one_text h pass = outcome_text (outcome_of h.after) ++ pass

events_append : (gs : List Happened) (passes : List (List ℕ)) (h : Happened) (pass : List ℕ) → length gs ≡ length passes → events_text (gs ++ h ∷ []) (passes ++ pass ∷ []) ≡ events_text gs passes ++ one_text h pass
events_append [] [] h pass e = append-nil (one_text h pass)
events_append [] (p ∷ ps) h pass e = absurd (omega (arith, e))
events_append (g ∷ gs) [] h pass e = absurd (omega (arith, e))
events_append (g ∷ gs) (p ∷ ps) h pass e = ap (λ (l : List ℕ). one_text g p ++ l) (events_append gs ps h pass (omega (arith, e))) ∙ sym (append_assoc (one_text g p) (events_text gs ps) (one_text h pass))

text_more : (runs : EventsOfRuns) (h : Happened) (pass : List ℕ) → length runs.last ≡ length runs.passes → text_of_runs (with_events (h ∷ []) (pass ∷ []) runs) ≡ text_of_runs runs ++ one_text h pass
text_more runs h pass e =
    ap (λ (l : List ℕ). runs_text runs.ended ++ l) (events_append runs.last runs.passes h pass e)
    ∙ sym (append_assoc (runs_text runs.ended) (events_text runs.last runs.passes) (one_text h pass))

one_more_each : (hs : List Happened) (passes : List (List ℕ)) (h : Happened) (pass : List ℕ) → length hs ≡ length passes → length (hs ++ h ∷ []) ≡ length (passes ++ pass ∷ [])
one_more_each hs passes h pass e = length-append hs (h ∷ []) ∙ ap (λ (n : ℕ). n + 1) e ∙ sym (length-append passes (pass ∷ []))

pub journal_more : (runs : EventsOfRuns) (h : Happened) (pass : List ℕ) → journal_of (with_events (h ∷ []) (pass ∷ []) runs) ≡ journal_of runs ++ h.after.sweep.entries
journal_more runs h pass =
    ap (λ (es : List Entry). journals runs.ended ++ es) (journal_append runs.last (h ∷ []) ∙ ap (λ (es : List Entry). journal runs.last ++ es) (append-nil h.after.sweep.entries))
    ∙ sym (append_assoc (journals runs.ended) (journal runs.last) h.after.sweep.entries)

-- the rule file behind it
pub event_stood : (first : World) (n : ℕ) (done : List (Option Step)) (runs : EventsOfRuns) (text : List ℕ) (event : events.Event) (s : Script) (w : World) (h : Kept first n done runs text s w) → IsRuleFile h.start.rules h.start.text → AllReadable (runs.last ++ happened_at event s w ∷ []) → StandsBehind (runs.last ++ happened_at event s w ∷ []) (event_of event s w).daemon (event_of event s w).disk.disk.text
event_stood first n done runs text event s w h f r =
    let this : Happened = happened_at event s w in
    let k = readable_front runs.last this r in
    event_stands runs.last this k.1 (disk_in s).disk.text (event_of event s w).disk.disk.text (event_text event (daemon_in s) w (disk_of s) h.kept) (h.stands f k.0)

pub event_kept : (first : World) (n : ℕ) (done : List (Option Step)) (runs : EventsOfRuns) (text : List ℕ) (event : events.Event) (s : Script) (w : World) → n < 1048576 → FitsEvent event → Kept first n done runs text s w
    → (pass : List ℕ) → pass ≡ (pass_behind s.setup.ifaces (event_of event s w).daemon (event_of event s w).world).text
    → Kept first (n + 1) (done ++ Some (Event event) ∷ []) (with_events (happened_at event s w ∷ []) (pass ∷ []) runs) (text ++ finished_text s.setup.ifaces (event_of event s w)) (with_played s (left_played s.setup.ifaces (event_of event s w))) (left_played s.setup.ifaces (event_of event s w)).world
event_kept first n done runs text event s w lt fits h pass passed =
    let d : DaemonState = daemon_in s in
    let o : DiskWorld = disk_of s in
    let p = event_of event s w in
    let step : Option Step = Some (Event event) in
    let this : Happened = happened_at event s w in
    let all : journal_of (with_events (this ∷ []) (pass ∷ []) runs) ≡ journal_of runs ++ p.daemon.sweep.entries = journal_more runs this pass in
    let new : DaemonState = started_at h.start.number (beside_of s.setup) (with_rules h.start.rules (policy_of s.setup)) in
    let left : World = (left_played s.setup.ifaces p).world in
    let behind : IsBehind p.world left = pass_is_behind s.setup.ifaces p.daemon p.world in
    record {
      few = omega (arith, lt);
      holds = behind_holds p.daemon p.world left behind (event_ends event d w o h.holds);
      on_entries = λ g. moves_on_entries p.world.kernel left.kernel behind.moves (event_ends_on_entries event d w o h.holds (h.on_entries g));
      few_devices = let before = h.few_devices in let one = event_devices event d w o in let rest = behind.few in omega (arith, before, one, rest);
      stream = event_stream event d w o h.holds h.stream;
      bus = λ b. left_sound event d w o s.setup.ifaces h.holds (h.bus b);
      fits = λ e. pass_fits n event d w o s.setup.ifaces lt h.holds h.kept (coming_low first n w e h.few h.few_devices) fits h.stream (h.bus e.1) (h.fits e);
      given = given_still n done step s.setup refl refl refl refl refl refl refl h.given;
      kept = event_disk event d w o h.kept;
      possible = event_possible event d w o h.kept h.possible;
      start = h.start;
      few_rules = h.few_rules;
      file = h.file;
      at_start = h.at_start;
      ended = h.ended;
      chain = chain_moves h.start.kernel (Some h.file) new (runs.last ++ this ∷ []) p.world.kernel left.kernel (disk_told p.disk) (disk_told (forgetting p.disk)) p.daemon (event_chain first n done runs text event s w h) behind.moves (forgets p.disk);
      none = λ e. closed_now (sym e);
      passes = one_more_each runs.last runs.passes this pass h.passes;
      written = ap (λ (z : List ℕ). z ++ finished_text s.setup.ifaces p) h.written ∙ ap (λ (z : List ℕ). text_of_runs runs ++ (outcome_text (outcome_of p.daemon) ++ z)) (sym passed) ∙ sym (text_more runs this pass h.passes);
      nobody = λ q e.
          let quiet = (quiet_front done step q).0 in
          subst NameNobody (sym all) (nobody_more (journal_of runs) p.daemon.sweep.entries (h.nobody quiet e) (event_nobody event d w o h.holds.told (h.unfailing quiet e) h.kept (h.unplanned quiet, refl)));
      unfailing = λ q e. (refl, refl);
      unmoved = λ q e. refl;
      unplanned = λ q. refl;
      saved = λ q.
          let quiet = (quiet_front done step q).0 in
          event_saved event d w o h.kept (h.unplanned quiet, refl) (h.saved quiet);
      stands = event_stood first n done runs text event s w h;
    }
