-- A restart, or a stop of the machine, ends a run of the daemon, and the record goes on with the next.
use Rattle.std.proofs.Common.{◌≡◌, ℕ, ◌+◌, ◌*◌, ◌<◌, ◌≤◌, arith, Bool, true, false, ◌&&◌, cond, List, [], ◌∷◌, ◌++◌, length, Option, Some, None, inl, inr, refl, sym, ◌∙◌, ap, subst, append_assoc, append-nil}
use Rattle.ug_types.specs.Elements.{Has}
use Rattle.ug_kernel.specs.Kernel.{Kernel}
use Rattle.ug_kernel.proofs.Stayed.{unmoving}
use Rattle.ug_sysfs.specs.World.{World, over}
use Rattle.ug_sysfs.specs.Begins.{happened_moves}
use Rattle.ug_audit.specs.declared.entry.Entry.{Entry}
use Rattle.ug_script.specs.Play.{NameNobody}
use Rattle.ug_script.proofs.Sweeps.{nobody_more}
use Rattle.ug_types.specs.declared.event.Event as events
use Rattle.ug_core.specs.Policy.{Judging}
use Rattle.ug_core.specs.Durable.{IsKept}
use Rattle.ug_core.specs.Event.{DaemonState}
use Rattle.ug_types.specs.Events.{FitsEvent}
use Rattle.ug_core.specs.Starting.{start_rules}
use Rattle.ug_core.specs.Chain.{Happened, Chain, journal}
use Rattle.std.proofs.Common.{Result, Ok, Err}
use Rattle.std.proofs.lemmas.Option.{same_Some}
use Rattle.ug_store.specs.Disk.{Disk, IsImage}
use Rattle.ug_store.specs.Scripted.{DiskWorld, coming_up, disk_told}
use Rattle.ug_types.specs.declared.rule.Rule.{Rule}
use Rattle.ug_core.specs.Chain.{StaysOnDisk}
use Rattle.ug_core.proofs.Kept.{stays_there}
use Rattle.ug_core.proofs.Numbering.{start_length}
use Rattle.ug_core.proofs.Readable.{start_permanent}
use Rattle.ug_core.proofs.Chained.{is_run, chain_moves}
use Rattle.ug_command_io.specs.Fold.{LineRefusal, BadLine, InputTooLong, LineOutcome, Refused}
use Rattle.ug_steps.specs.declared.step.Step.{Step}
use Rattle.ug_steps.specs.declared.step.Step.TheVariants.{Event, Restart}
use Rattle.ug_script.specs.Setup.{Beside, SetupState, beside_of, after_reading, folder_of, policy_of, rules_from, started_at, with_rules}
use Rattle.ug_script.specs.Script.{Script, daemon_in, disk_in}
use Rattle.ug_script.specs.Replay.{with_played, with_restart, Played, begun_again, disk_of, event_of, finished, in_script, stopped_of, stopped_text}
use Rattle.ug_script.specs.Journal.{happened_at, ended_by, left_behind, EventsOfRuns, RunEnd, with_end, with_events, with_stop, stop_of, text_to_stop, journals, journal_of, events_text, run_text, runs_text, text_of_runs, RunStart, first_start, HoldsAtStart, IsDaemonRun, EndedRun, AreSuccessive}
use Rattle.ug_script.proofs.FewDevices.{over_few}
use Rattle.ug_script.proofs.FewStandings.{event_devices}
use Rattle.ug_script.proofs.FileTexts.{in_force_stands, stands_so}
use Rattle.ug_script.proofs.OnEntries.{event_on_entries}
use Rattle.ug_script.specs.Passes.{pass_behind}
use Rattle.ug_script.proofs.BusSound.{over_sound}
use Rattle.ug_script.proofs.PassFits.{event_sound}
use Rattle.ug_script.proofs.Lawful.{event_disk, event_holds, event_nobody, no_standing}
use Rattle.ug_script.proofs.Numbers.{event_fits, started_fits}
use Rattle.ug_script.proofs.Starts.{from_file}
use Rattle.ug_script.proofs.Setups.{IsGiven, few_all, given_still}
use Rattle.ug_script.proofs.KeptRuns.{Kept, KeptAfter, closed_now, coming_low, event_chain, event_kept, event_possible, event_stood, journal_more, one_text, only_image, quiet_front}

-- ---- a restart

-- a run, from its start to where it came
unfoldable pub daemon_run : (beside : Beside) (policy : Judging) (b : RunStart) (file : Disk) (hs : List Happened) (k : Kernel) (p : Option Disk) (e : DaemonState) → length (folder_of policy) + length b.rules ≤ 65536 → HoldsAtStart b file → Chain b.kernel (Some file) (started_at b.number beside (with_rules b.rules policy)) hs k p e → IsDaemonRun beside policy b hs k p e
daemon_run beside policy b file hs k p e few holds chain = record {
  few = few;
  file = file;
  holds = holds;
  chain = chain;
  run = is_run (with_rules b.rules policy) beside.hub b.number b.kernel (Some file) (started_at b.number beside (with_rules b.rules policy)) hs k p e (record { judge = refl; hub = refl; standings = refl; next = refl; listed = refl; entries = refl; pending = refl; stream = refl; due = refl; event = refl; reply = refl; watch = refl }) chain;
}

-- each text that a crash may leave behind a run is one of those that it might have left
left_images : (beside : Beside) (policy : Judging) (b : RunStart) (hs : List Happened) (k : Kernel) (file : Disk) (e : DaemonState) → IsDaemonRun beside policy b hs k (Some file) e → (text : List ℕ) → IsImage file.left text → Has (left_behind b hs e) text
left_images beside policy b hs k file e run text possible =
    let law = run.run.file file refl in
    let same : law.0 ≡ run.file = same_Some law.0 run.file (sym law.1) in
    let began : IsKept (with_rules b.rules policy).rules (b.text ∷ b.unsure) law.0.left = subst (λ (m : Disk). IsKept (with_rules b.rules policy).rules (b.text ∷ b.unsure) m.left) (sym same) (λ text is. elim (run.holds.left text is) [
      | inl x ↦ inr (inl (sym x))
      | inr x ↦ inr (inr x)
    ]) in
    elim ((law.2 (b.text ∷ b.unsure) began).1 text possible) [
      | inl x ↦ inl (sym x)
      | inr x ↦ inr x
    ]

-- one run more has ended
run_ended : (beside : Beside) (policy : Judging) (first : RunStart) (runs : List RunEnd) (b : RunStart) (run : RunEnd) (r : EndedRun beside policy b run) → AreSuccessive beside policy first runs b → AreSuccessive beside policy first (runs ++ run ∷ []) r.next
run_ended beside policy first [] b run r h = begins first h
  where
    begins : (c : RunStart) → b ≡ c → AreSuccessive beside policy c (run ∷ []) r.next
    begins c e = subst (λ (x : RunStart). AreSuccessive beside policy x (run ∷ []) r.next) e (r, refl)
run_ended beside policy first (one ∷ runs) b run r h = (h.0, run_ended beside policy h.0.next runs b run r h.1)

told_now : (o : DiskWorld) → o.ran_out ≡ false → disk_told o ≡ Some o.disk
told_now o none = rw none refl

-- the rules of a restart in the policy of a setup
restart_few : (n : ℕ) (done : List (Option Step)) (s : SetupState) (rules : List Rule) → IsGiven n done s → s.folder.count + length rules ≤ 65536 → length (start_rules (folder_of (policy_of s)) rules) ≤ 65536
restart_few n done s rules given few =
    let all : length (folder_of (policy_of s)) + length rules ≤ 65536 = few_all n done s rules given few in
    let long : length (start_rules (folder_of (policy_of s)) rules) ≡ length (folder_of (policy_of s)) + length rules = start_length (folder_of (policy_of s)) rules in
    omega (arith, all, long)

told_reading : (o : DiskWorld) → o.ran_out ≡ false → disk_told (after_reading o) ≡ Some (after_reading o).disk
told_reading o none = rw none refl

journals_append : (xs : List RunEnd) (run : RunEnd) → journals (xs ++ run ∷ []) ≡ journals xs ++ journal run.events
journals_append [] run = append-nil (journal run.events)
journals_append (one ∷ xs) run = ap (λ (es : List Entry). journal one.events ++ es) (journals_append xs run) ∙ sym (append_assoc (journal one.events) (journals xs) (journal run.events))

runs_append : (xs : List RunEnd) (run : RunEnd) → runs_text (xs ++ run ∷ []) ≡ runs_text xs ++ run_text run.stop run.events run.passes
runs_append [] run = append-nil (run_text run.stop run.events run.passes)
runs_append (one ∷ xs) run = ap (λ (l : List ℕ). run_text one.stop one.events one.passes ++ l) (runs_append xs run) ∙ sym (append_assoc (run_text one.stop one.events one.passes) (runs_text xs) (run_text run.stop run.events run.passes))

text_ended : (stop : Option ℕ) (runs : EventsOfRuns) → text_of_runs (with_end stop runs) ≡ runs_text runs.ended ++ run_text stop runs.last runs.passes
text_ended stop runs = append-nil (runs_text (runs.ended ++ ended_by stop runs ∷ [])) ∙ runs_append runs.ended (ended_by stop runs)

journal_ended : (stop : Option ℕ) (runs : EventsOfRuns) → journal_of (with_end stop runs) ≡ journal_of runs
journal_ended stop runs = append-nil (journals (runs.ended ++ ended_by stop runs ∷ [])) ∙ journals_append runs.ended (ended_by stop runs)

pub restart_kept : (first : World) (n : ℕ) (done : List (Option Step)) (runs : EventsOfRuns) (text : List ℕ) (s : Script) (w : World) (rules : List Rule) → n < 1048576 → rules_from s.setup.folder.count (disk_in s).disk.text ≡ Ok rules → Kept first n done runs text s w
    → Kept first (n + 1) (done ++ Some Restart ∷ []) (with_end None runs) (text ++ []) (with_restart rules s) w
restart_kept first n done runs text s w rules lt loaded h =
    let step : Option Step = Some Restart in
    let d : DaemonState = daemon_in s in
    let o : DiskWorld = disk_in s in
    let beside : Beside = beside_of s.setup in
    let policy : Judging = policy_of s.setup in
    let taken = from_file s.setup.folder.count o.disk.text rules loaded in
    let read = taken.0 in
    let chain : Chain h.start.kernel (Some h.file) (started_at h.start.number beside (with_rules h.start.rules policy)) runs.last w.kernel (Some o.disk) d = subst (λ (x : Option Disk). Chain h.start.kernel (Some h.file) (started_at h.start.number beside (with_rules h.start.rules policy)) runs.last w.kernel x d) (told_now o h.kept) h.chain in
    let run : IsDaemonRun beside policy h.start runs.last w.kernel (Some o.disk) d = daemon_run beside policy h.start h.file runs.last w.kernel (Some o.disk) d h.few_rules h.at_start chain in
    let b : RunStart = record { rules = rules; text = o.disk.text; unsure = left_behind h.start runs.last d; number = d.event; kernel = w.kernel } in
    let this : EndedRun beside policy h.start (ended_by None runs) = record {
      kernel = w.kernel;
      disk = Some o.disk;
      daemon = d;
      is = run;
      next = b;
      behind = record { file = o.disk; told = refl; text = refl; stands = read; rules = λ f r. stands_so runs.last d o.disk.text rules read.reads (h.stands f r); kept = left_images beside policy h.start runs.last w.kernel o.disk d run o.disk.text h.possible; unsure = refl; number = refl; kernel = refl };
    } in
    let file : Disk = (after_reading o).disk in
    let given : IsGiven (n + 1) (done ++ step ∷ []) s.setup = given_still n done step s.setup refl refl refl refl refl refl refl h.given in
    let same : journal_of (with_end None runs) ≡ journal_of runs = journal_ended None runs in
    record {
      few = omega (arith, lt);
      holds = record { told = h.holds.told; sound = h.holds.sound; stand = no_standing w.kernel };
      on_entries = h.on_entries;
      few_devices = let few = h.few_devices in omega (arith, few);
      stream = refl;
      bus = h.bus;
      fits = λ e.
          let low : w.faults ≤ 2199023255552 * n = (h.fits e).few_faults in
          let low_disk : o.faults ≤ 2 * n = (h.fits e).few_disk_faults in
          let events : d.event ≤ n + 1 = (h.fits e).few_events in
          started_fits (n + 1) d.event (start_rules (folder_of policy) rules) w.faults o.faults (omega (arith, events)) (restart_few n done s.setup rules h.given taken.1) (omega (arith, low)) (omega (arith, low_disk));
      given = given;
      kept = h.kept;
      possible = h.possible;
      start = b;
      few_rules = few_all n done s.setup rules h.given taken.1;
      file = file;
      at_start = record { text = refl; left = λ text is. inr (left_images beside policy h.start runs.last w.kernel o.disk d run text is) };
      ended = run_ended beside policy (first_start s.setup.rules first.kernel) runs.ended h.start (ended_by None runs) this h.ended;
      chain = (unmoving w.kernel, subst (λ (x : Option Disk). StaysOnDisk (Some file) x) (sym (told_reading o h.kept)) (stays_there (Some file)), refl);
      none = λ e. closed_now (sym e);
      passes = refl;
      written = append-nil text ∙ h.written ∙ sym (text_ended None runs);
      nobody = λ q e. subst NameNobody (sym same) (h.nobody (quiet_front done step q).0 e);
      unfailing = λ q. h.unfailing (quiet_front done step q).0;
      unmoved = λ q. h.unmoved (quiet_front done step q).0;
      unplanned = λ q. h.unplanned (quiet_front done step q).0;
      saved = λ q. refl;
      stands = λ f r. in_force_stands [] (started_at d.event beside (with_rules rules policy)) o.disk.text rules f (sym (start_permanent 1 (folder_of policy) rules));
    }

-- ---- a stop

-- what is written of a run whose last event was stopped
stop_append : (call : ℕ) (hs : List Happened) (passes : List (List ℕ)) (h : Happened) → length hs ≡ length passes → text_to_stop call (hs ++ h ∷ []) (passes ++ [] ∷ []) ≡ events_text hs passes ++ stopped_text call h.after.sweep.entries
stop_append call [] [] h e = refl
stop_append call [] (p ∷ ps) h e = absurd (omega (arith, e))
stop_append call (g ∷ hs) [] h e = absurd (omega (arith, e))
stop_append call (g ∷ []) (p ∷ []) h e = ap (λ (l : List ℕ). l ++ stopped_text call h.after.sweep.entries) (sym (append-nil (one_text g p)))
stop_append call (g ∷ []) (p ∷ q ∷ ps) h e = absurd (omega (arith, e))
stop_append call (g ∷ f ∷ hs) (p ∷ ps) h e = ap (λ (l : List ℕ). one_text g p ++ l) (stop_append call (f ∷ hs) ps h (omega (arith, e))) ∙ sym (append_assoc (one_text g p) (events_text (f ∷ hs) ps) (stopped_text call h.after.sweep.entries))

stop_more : (call : ℕ) (runs : EventsOfRuns) (h : Happened) → length runs.last ≡ length runs.passes → text_of_runs (with_end (Some call) (with_events (h ∷ []) ([] ∷ []) runs)) ≡ text_of_runs runs ++ stopped_text call h.after.sweep.entries
stop_more call runs h e =
    text_ended (Some call) (with_events (h ∷ []) ([] ∷ []) runs)
    ∙ ap (λ (l : List ℕ). runs_text runs.ended ++ l) (stop_append call runs.last runs.passes h e)
    ∙ sym (append_assoc (runs_text runs.ended) (events_text runs.last runs.passes) (stopped_text call h.after.sweep.entries))

stop_kept : (first : World) (n : ℕ) (done : List (Option Step)) (runs : EventsOfRuns) (text : List ℕ) (event : events.Event) (s : Script) (w : World) (call : ℕ) (rules : List Rule) → n < 1048576 → FitsEvent event → rules_from s.setup.folder.count (event_of event s w).disk.disk.text ≡ Ok rules → Kept first n done runs text s w
    → Kept first (n + 1) (done ++ Some (Event event) ∷ []) (with_end (Some call) (with_events (happened_at event s w ∷ []) ([] ∷ []) runs)) (text ++ stopped_text call (event_of event s w).daemon.sweep.entries) (with_played s (begun_again s.setup rules (event_of event s w))) (over (event_of event s w).world)
stop_kept first n done runs text event s w call rules lt fits loaded h =
    let d : DaemonState = daemon_in s in
    let o : DiskWorld = disk_of s in
    let p = event_of event s w in
    let step : Option Step = Some (Event event) in
    let this : Happened = happened_at event s w in
    let hs : List Happened = runs.last ++ this ∷ [] in
    let beside : Beside = beside_of s.setup in
    let policy : Judging = policy_of s.setup in
    let k : Kernel = (over p.world).kernel in
    let taken = from_file s.setup.folder.count p.disk.disk.text rules loaded in
    let read = taken.0 in
    let told : p.disk.ran_out ≡ false = event_disk event d w o h.kept in
    let new : DaemonState = started_at h.start.number beside (with_rules h.start.rules policy) in
    let so_far : Chain h.start.kernel (Some h.file) new hs k (disk_told p.disk) p.daemon = chain_moves h.start.kernel (Some h.file) new hs p.world.kernel k (disk_told p.disk) (disk_told p.disk) p.daemon (event_chain first n done runs text event s w h) (happened_moves p.world.moves p.world.kernel) (stays_there (disk_told p.disk)) in
    let chain : Chain h.start.kernel (Some h.file) new hs k (Some p.disk.disk) p.daemon = subst (λ (x : Option Disk). Chain h.start.kernel (Some h.file) new hs k x p.daemon) (told_now p.disk told) so_far in
    let run : IsDaemonRun beside policy h.start hs k (Some p.disk.disk) p.daemon = daemon_run beside policy h.start h.file hs k (Some p.disk.disk) p.daemon h.few_rules h.at_start chain in
    let b : RunStart = record { rules = rules; text = p.disk.disk.text; unsure = []; number = p.daemon.event; kernel = k } in
    let ending : EndedRun beside policy h.start (record { events = hs; passes = runs.passes ++ [] ∷ []; stop = Some call }) = record {
      kernel = k;
      disk = Some p.disk.disk;
      daemon = p.daemon;
      is = run;
      next = b;
      behind = record { file = p.disk.disk; told = refl; text = refl; stands = read; rules = λ f r. stands_so hs p.daemon p.disk.disk.text rules read.reads (event_stood first n done runs text event s w h f r); kept = left_images beside policy h.start hs k p.disk.disk p.daemon run p.disk.disk.text (event_possible event d w o h.kept h.possible); unsure = refl; number = refl; kernel = refl };
    } in
    let up : DiskWorld = coming_up p.disk in
    let file : Disk = (after_reading up).disk in
    let holds = event_holds event d w o h.holds in
    let all : journal_of (with_end (Some call) (with_events (this ∷ []) ([] ∷ []) runs)) ≡ journal_of runs ++ p.daemon.sweep.entries = journal_ended (Some call) (with_events (this ∷ []) ([] ∷ []) runs) ∙ journal_more runs this [] in
    record {
      few = omega (arith, lt);
      holds = record { told = holds.told; sound = holds.sound; stand = no_standing k };
      on_entries = λ g. event_on_entries event d w o h.holds (h.on_entries g);
      few_devices = let before = h.few_devices in let one = event_devices event d w o in let rest = over_few p.world in omega (arith, before, one, rest);
      stream = refl;
      bus = λ b. over_sound p.world (event_sound event d w o h.holds (h.bus b));
      fits = λ e.
          let f = event_fits n event d w o lt h.holds h.kept (coming_low first n w e h.few h.few_devices) fits h.stream (h.fits e) in
          let low : p.world.faults ≤ 2199023255552 * (n + 1) = f.few_faults in
          let low_disk : p.disk.faults ≤ 2 * (n + 1) = f.few_disk_faults in
          let events : p.daemon.event ≤ (n + 1) + 1 = f.few_events in
          started_fits (n + 1) p.daemon.event (start_rules (folder_of policy) rules) p.world.faults p.disk.faults events (restart_few n done s.setup rules h.given taken.1) low low_disk;
      given = given_still n done step s.setup refl refl refl refl refl refl refl h.given;
      kept = told;
      possible = inl refl;
      start = b;
      few_rules = few_all n done s.setup rules h.given taken.1;
      file = file;
      at_start = record { text = refl; left = λ text is. inl (only_image is) };
      ended = run_ended beside policy (first_start s.setup.rules first.kernel) runs.ended h.start (record { events = hs; passes = runs.passes ++ [] ∷ []; stop = Some call }) ending h.ended;
      chain = (unmoving k, subst (λ (x : Option Disk). StaysOnDisk (Some file) x) (sym (told_reading up told)) (stays_there (Some file)), refl);
      none = λ e. closed_now (sym e);
      passes = refl;
      written = ap (λ (z : List ℕ). z ++ stopped_text call p.daemon.sweep.entries) h.written ∙ sym (stop_more call runs this h.passes);
      nobody = λ q e.
          let quiet = (quiet_front done step q).0 in
          subst NameNobody (sym all) (nobody_more (journal_of runs) p.daemon.sweep.entries (h.nobody quiet e) (event_nobody event d w o h.holds.told (h.unfailing quiet e) h.kept (h.unplanned quiet, refl)));
      unfailing = λ q e. (refl, refl);
      unmoved = λ q e. refl;
      unplanned = λ q. refl;
      saved = λ q. refl;
      stands = λ f r. in_force_stands [] (started_at p.daemon.event beside (with_rules rules policy)) p.disk.disk.text rules f (sym (start_permanent 1 (folder_of policy) rules));
    }

-- an event, whether the machine stopped in it or not
pub came_kept : (first : World) (n : ℕ) (done : List (Option Step)) (runs : EventsOfRuns) (text : List ℕ) (event : events.Event) (s : Script) (w : World) (stopped : Bool) (loaded : Result (List Rule) LineRefusal) → n < 1048576 → FitsEvent event → rules_from s.setup.folder.count (event_of event s w).disk.disk.text ≡ loaded → Kept first n done runs text s w
    → KeptAfter first (n + 1) (done ++ Some (Event event) ∷ []) (with_stop stopped (stop_of event s w) (with_events (happened_at event s w ∷ []) (cond stopped [] (pass_behind s.setup.ifaces (event_of event s w).daemon (event_of event s w).world).text ∷ []) runs)) text (in_script s (cond stopped (stopped_of s.setup (stop_of event s w) (event_of event s w) loaded) (finished s.setup.ifaces (event_of event s w))))
came_kept first n done runs text event s w true (Ok rules) lt fits is h = stop_kept first n done runs text event s w (stop_of event s w) rules lt fits is h
came_kept first n done runs text event s w true (Err fault) lt fits is h = tt
came_kept first n done runs text event s w false loaded lt fits is h = event_kept first n done runs text event s w lt fits h _ refl

pub event_if : (first : World) (n : ℕ) (done : List (Option Step)) (runs : EventsOfRuns) (text : List ℕ) (event : events.Event) (s : Script) (w : World) (stopped : Bool) (pass : List ℕ) (came : LineOutcome Played) (can has : Bool)
    → KeptAfter first n done (with_stop stopped (stop_of event s w) (with_events (happened_at event s w ∷ []) (pass ∷ []) runs)) text (in_script s came)
    → KeptAfter first n done (with_stop stopped (stop_of event s w) (with_events (cond (can && has) (happened_at event s w ∷ []) []) (cond (can && has) (pass ∷ []) []) runs)) text (cond can (in_script s (cond has came (Refused BadLine (record { daemon = daemon_in s; world = w; disk = disk_in s })))) (Refused InputTooLong (Some s, w)))
event_if first n done runs text event s w stopped pass came true true k = k
event_if first n done runs text event s w stopped pass came true false k = tt
event_if first n done runs text event s w stopped pass came false has k = tt
