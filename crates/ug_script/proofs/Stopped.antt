-- An event in which the machine stops writes to no device; and each event of a script is lawful.
use Rattle.std.proofs.Common.{◌≡◌, ℕ, nat_le, length, Bool, true, false, cond, ◌||◌, List, Option, Some, None, inl, inr, refl, sym, ◌∙◌, ap, subst}
use Rattle.std.proofs.lemmas.Bool.{both_ways, cond_both}
use Rattle.ug_types.specs.Limits.{text_limit}
use Rattle.ug_kernel.specs.Calls.{Call, Names, Open, Read, Ask_alive, Put, Close}
use Rattle.ug_kernel.specs.Kernel.{Kernel}
use Rattle.ug_kernel.specs.Tree.{Prog, Return, Ask, Room}
use Rattle.ug_sysfs.specs.World.{World, answer_from, scripted_answer, event_begun, effect, entered, fate, halting, refusing_memory}
use Rattle.ug_script.specs.Play.{play}
use Rattle.ug_types.specs.declared.saved.Saved.{Saved}
use Rattle.ug_types.specs.declared.saved.Saved.TheVariants as saved
use Rattle.ug_ruleset.specs.RuleFile.{permanent_text}
use Rattle.ug_store.specs.DiskCalls.{DiskTold, Write_new, Sync_new, Swap}
use Rattle.ug_store.specs.PlayDisk.{play_disk}
use Rattle.ug_store.specs.Scripted.{DiskWorld, answer_of_fate, disk_answer, fate_by, plan_at, stops_by, with_number}
use Rattle.ug_store.specs.Store.{Ended, after_swap, after_sync_new, after_write_new, saving}
use Rattle.ug_store.specs.declared.disk.DiskAnswer.{DiskAnswer}
use Rattle.ug_store.specs.declared.disk.DiskAnswer.TheVariants as answer
use Rattle.ug_store.specs.declared.mishap.Planned.{Planned}
use Rattle.ug_store.proofs.PlayedDisk.{play_then_disk}
use Rattle.ug_core.specs.Answering.{acting, asking, deed_after}
use Rattle.ug_core.specs.Changes.{changed_by, is_saved}
use Rattle.ug_core.specs.Event.{DaemonState, handling, ready}
use Rattle.ug_core.specs.Laws.{AnswersEvent, IsInForce}
use Rattle.ug_core.specs.Policy.{Judging}
use Rattle.ug_core.specs.Storing.{after_saving, if_fits, if_saved, stored_with, storing}
use Rattle.ug_core.specs.declared.changes.Change.{Change}
use Rattle.ug_types.specs.declared.event.Event.{Event}
use Rattle.ug_types.specs.declared.event.Event.TheVariants.{Sweep, Order, Hint}
use Rattle.ug_core.specs.declared.storing.Stored.{Stored}
use Rattle.ug_core.specs.declared.storing.Stored.TheVariants as stored
use Rattle.ug_script.specs.Laws.{IsLawfulEvent}
use Rattle.ug_script.specs.Replay.{order_played_by, answered_from, disk_of, event_from, event_of, halted, tried_by}
use Rattle.ug_script.specs.Script.{Script, daemon_in, disk_in}
use Rattle.ug_script.proofs.FirstStop.{event_runs_on, event_stops}
use Rattle.ug_script.proofs.Halts.{halted_kernel}
use Rattle.ug_script.proofs.OnEntries.{each_on_entries}
use Rattle.ug_script.proofs.PassBehind.{event_ends, rules_behind}
use Rattle.ug_script.proofs.PassFits.{event_sound}
use Rattle.ug_script.proofs.PassRuns.{is_pass_behind}
use Rattle.ug_script.proofs.Lawful.{HoldsOf, answers, event_sure, handled, names_once, start_of, tells_event}

-- ---- a kernel that is halted

-- it stays so, and nothing is written to a device
record Unwritten (w t : World) : Type 0 where
  halted : t.halted ≡ true
  log : t.kernel.log ≡ w.kernel.log

call_fails : (w : World) (call : Call) → w.halted ≡ true → Unwritten w (answer_from (entered w) call).1
call_fails w call h =
    let u : World = entered w in
    record { halted = h; log = ap (λ (f : Option Bool). (effect f call u.kernel).1.log) (ap (λ (b : Bool). cond b (Some false) (fate u.calls None u.fails)) h) }

by_out : (w : World) (call : Call) → w.halted ≡ true → (out : Bool) → Unwritten w (cond out (refusing_memory w call) (answer_from (entered w) call)).1
by_out w call h true = record { halted = h; log = refl }
by_out w call h false = call_fails w call h

call_unwritten : (w : World) (call : Call) → w.halted ≡ true → Unwritten w (scripted_answer w call).1
call_unwritten w Names h = by_out w Names h w.ran_out
call_unwritten w (Open name control) h = by_out w (Open name control) h w.ran_out
call_unwritten w (Read name attr) h = by_out w (Read name attr) h w.ran_out
call_unwritten w (Ask_alive held) h = by_out w (Ask_alive held) h w.ran_out
call_unwritten w (Put held write) h = by_out w (Put held write) h w.ran_out
call_unwritten w (Close held) h = record { halted = h; log = refl }

play_unwritten : {R : Type 0} (p : Prog R) (w : World) → w.halted ≡ true → Unwritten w (play p w).1
play_unwritten (Return value) w h = record { halted = h; log = refl }
play_unwritten (Ask call next) w h =
    let one = call_unwritten w call h in
    let rest = play_unwritten (next (scripted_answer w call).0) (scripted_answer w call).1 one.halted in
    record { halted = rest.halted; log = rest.log ∙ one.log }
play_unwritten (Room next) w h = play_unwritten (next true) w h

order_unwritten : (event : Event) (d : DaemonState) (w : World) (o : DiskWorld) → w.halted ≡ true → Unwritten w (order_played_by event d w o).world
order_unwritten (Sweep moment) d w o h = record { halted = h; log = refl }
order_unwritten (Hint moment piece) d w o h = record { halted = h; log = refl }
order_unwritten (Order moment who line) d w o h =
    let c = play (asking d who line) w in
    let b = play_disk (storing d c.0.change) o in
    let asks = play_unwritten (asking d who line) w h in
    let acts = play_unwritten (acting who (stored_with b.0 c.0.change d) (deed_after b.0 c.0.deed)) c.1 asks.halted in
    record { halted = acts.halted; log = acts.log ∙ asks.log }

-- ---- a call of the disk in which the machine stops fails

or_plan : (stopped swaps : Bool) (plan : Option Planned) → stopped ≡ false → (answer_of_fate (fate_by stopped swaps plan) ≡ answer.Failed → ⊥) → (stopped || stops_by plan) ≡ false
or_plan false swaps None e h = refl
or_plan false swaps (Some p) e h = absurd (h refl)
or_plan true swaps plan e h = let none : ⊥ = cc in absurd none

write_stays : (text : List ℕ) (w : DiskWorld) → w.stopped ≡ false → ((disk_answer w (Write_new text)).0.answer ≡ answer.Failed → ⊥) → (disk_answer w (Write_new text)).1.stopped ≡ false
write_stays text w e = cond_both w.ran_out _ _ (λ (p : DiskTold (Write_new text) × DiskWorld). (p.0.answer ≡ answer.Failed → ⊥) → p.1.stopped ≡ false) (λ out h. e) (λ told h. or_plan w.stopped false (plan_at (with_number (Write_new text) w).calls None w.planned) e h)

sync_stays : (w : DiskWorld) → w.stopped ≡ false → ((disk_answer w Sync_new).0.answer ≡ answer.Failed → ⊥) → (disk_answer w Sync_new).1.stopped ≡ false
sync_stays w e = cond_both w.ran_out _ _ (λ (p : DiskTold Sync_new × DiskWorld). (p.0.answer ≡ answer.Failed → ⊥) → p.1.stopped ≡ false) (λ out h. e) (λ told h. or_plan w.stopped false (plan_at (with_number Sync_new w).calls None w.planned) e h)

swap_stays : (w : DiskWorld) → w.stopped ≡ false → ((disk_answer w Swap).0.answer ≡ answer.Failed → ⊥) → (disk_answer w Swap).1.stopped ≡ false
swap_stays w e = cond_both w.ran_out _ _ (λ (p : DiskTold Swap × DiskWorld). (p.0.answer ≡ answer.Failed → ⊥) → p.1.stopped ≡ false) (λ out h. e) (λ told h. or_plan w.stopped true (plan_at (with_number Swap w).calls None w.planned) e h)

-- where it has stopped behind a saving, that failed
abbrev StopFails : Saved × DiskWorld → Type 0
StopFails x = x.1.stopped ≡ true → (count : ℕ) × (x.0 ≡ saved.Failed count)

unstopped : {X : Type 0} (t : DiskWorld) → t.stopped ≡ false → t.stopped ≡ true → X
unstopped t e f = absurd (both_ways t.stopped e f)

done_unfailed : answer.Done ≡ answer.Failed → ⊥
done_unfailed e = cc

memory_unfailed : answer.Memory ≡ answer.Failed → ⊥
memory_unfailed e = cc

swap_fails : (a : DiskAnswer) (count : ℕ) (t : DiskWorld) → ((a ≡ answer.Failed → ⊥) → t.stopped ≡ false) → StopFails (play_disk (after_swap a count) t)
swap_fails answer.Done count t stays = λ e. unstopped t (stays done_unfailed) e
swap_fails answer.Failed count t stays = λ e. (count, refl)
swap_fails answer.Memory count t stays = λ e. unstopped t (stays memory_unfailed) e

sync_fails : (a : DiskAnswer) (count : ℕ) (t : DiskWorld) → ((a ≡ answer.Failed → ⊥) → t.stopped ≡ false) → StopFails (play_disk (after_sync_new a count) t)
sync_fails answer.Done count t stays =
    let x = disk_answer t Swap in
    swap_fails x.0.answer x.0.count x.1 (swap_stays t (stays done_unfailed))
sync_fails answer.Failed count t stays = λ e. (count, refl)
sync_fails answer.Memory count t stays = λ e. unstopped t (stays memory_unfailed) e

write_fails : (a : DiskAnswer) (count : ℕ) (t : DiskWorld) → ((a ≡ answer.Failed → ⊥) → t.stopped ≡ false) → StopFails (play_disk (after_write_new a count) t)
write_fails answer.Done count t stays =
    let x = disk_answer t Sync_new in
    sync_fails x.0.answer x.0.count x.1 (sync_stays t (stays done_unfailed))
write_fails answer.Failed count t stays = λ e. (count, refl)
write_fails answer.Memory count t stays = λ e. unstopped t (stays memory_unfailed) e

saving_fails : (text : List ℕ) (w : DiskWorld) → w.stopped ≡ false → StopFails (play_disk (saving text) w)
unfolding saving
saving_fails text w e =
    let x = disk_answer w (Write_new text) in
    write_fails x.0.answer x.0.count x.1 (write_stays text w e)

-- and so did the save of an order
abbrev StoreFails : Stored × DiskWorld → Type 0
StoreFails x = x.1.stopped ≡ true → (count : ℕ) × (x.0 ≡ stored.Failed count)

store_fails : (d : DaemonState) (change : Option Change) (o : DiskWorld) → o.stopped ≡ false → StoreFails (play_disk (storing d change) o)
unfolding storing
store_fails d None o e = λ f. unstopped o e f
store_fails d (Some change) o e = by_saved (is_saved change d.sweep.judge.rules)
  where
    text : List ℕ
    text = permanent_text (changed_by change d.sweep.judge).rules

    by_fits : (b : Bool) → StoreFails (play_disk (if_fits text b) o)
    by_fits true = subst StoreFails (sym (play_then_disk (saving text) (λ (q : Saved). Ended (after_saving q)) o)) (λ f. let x = saving_fails text o e f in (x.0, ap after_saving x.1))
    by_fits false = λ f. unstopped o e f

    by_saved : (b : Bool) → StoreFails (play_disk (if_saved d.sweep.judge change b) o)
    by_saved true = by_fits (nat_le (length text) text_limit)
    by_saved false = λ f. unstopped o e f

-- ---- an event

failed_unforced : (p : Judging) (change : Option Change) (became : Stored) (count : ℕ) → became ≡ stored.Failed count → IsInForce p change became → ⊥
failed_unforced p None became count e h = let none : stored.Failed count ≡ stored.NotNeeded = sym e ∙ h in let no : ⊥ = cc in no
failed_unforced p (Some change) stored.NotNeeded count e h = let none : ⊥ = cc in none
failed_unforced p (Some change) stored.Done count e h = let none : ⊥ = cc in none
failed_unforced p (Some change) (stored.Failed n) count e h = h
failed_unforced p (Some change) stored.TooLong count e h = h
failed_unforced p (Some change) stored.Memory count e h = h

-- an order whose save failed was refused, and wrote to no device
refused_log : (event : Event) (k : Kernel) (d : DaemonState) (became : Stored) (l : Kernel) (e : DaemonState) (count : ℕ) → became ≡ stored.Failed count → AnswersEvent event k d became l e → l.log ≡ k.log
refused_log (Sweep moment) k d became l e count is h = ap (λ (x : Kernel). x.log) h.0
refused_log (Hint moment piece) k d became l e count is h = ap (λ (x : Kernel). x.log) h.0
refused_log (Order moment who line) k d became l e count is (inl h) = h.quiet.log
refused_log (Order moment who line) k d became l e count is (inr (inl h)) = absurd (failed_unforced d.sweep.judge h.1.outcome.change became count is h.1.in_force)
refused_log (Order moment who line) k d became l e count is (inr (inr h)) = absurd (failed_unforced d.sweep.judge h.change became count is h.in_force)

stored_fails : (event : Event) (d : DaemonState) (w : World) (o : DiskWorld) → o.stopped ≡ false → (order_played_by event d w o).disk.stopped ≡ true → (count : ℕ) × ((order_played_by event d w o).became ≡ stored.Failed count)
stored_fails (Sweep moment) d w o e f = unstopped o e f
stored_fails (Hint moment piece) d w o e f = unstopped o e f
stored_fails (Order moment who line) d w o e f = store_fails d (play (asking d who line) w).0.change o e f

halts : (o : DiskWorld) (w : World) → o.stopped ≡ true → (halted o w).halted ≡ true
halts o w e = ap (λ (b : Bool). (cond b (halting w) w).halted) e

-- the order, whether the machine stopped before it or in its save
answered_log : (event : Event) (d : DaemonState) (w : World) (o : DiskWorld) → HoldsOf d w → (answered_from event d w o).disk.stopped ≡ true → (stopped : Bool) → (tried_by d o).1.stopped ≡ stopped → (answered_from event d w o).world.kernel.log ≡ w.kernel.log
answered_log event d w o h e true is =
    let q : DiskWorld = (tried_by d o).1 in
    (order_unwritten event (ready event (tried_by d o).0 d) (start_of d w o) q (halts q (event_begun w) is)).log ∙ ap (λ (k : Kernel). k.log) (halted_kernel q (event_begun w))
answered_log event d w o h e false is =
    let a = answered_from event d w o in
    let r : DaemonState = ready event (tried_by d o).0 d in
    let failed = stored_fails event r (start_of d w o) (tried_by d o).1 is e in
    refused_log event w.kernel r a.became a.world.kernel a.daemon failed.0 failed.1 (answers event d w o h)

pub event_unwritten : (event : Event) (d : DaemonState) (w : World) (o : DiskWorld) → HoldsOf d w → (event_from event d w o).disk.stopped ≡ true → (event_from event d w o).world.kernel.log ≡ w.kernel.log
event_unwritten event d w o h e =
    let a = answered_from event d w o in
    (play_unwritten (handling a.daemon) (halted a.disk a.world) (halts a.disk a.world e)).log
    ∙ ap (λ (k : Kernel). k.log) (halted_kernel a.disk a.world)
    ∙ answered_log event d w o h e (tried_by d o).1.stopped refl

pub lawful_event : (event : Event) (s : Script) (w : World) → HoldsOf (daemon_in s) w → (disk_in s).ran_out ≡ false → IsLawfulEvent event s w
lawful_event event s w h out = record {
  answers = answers event (daemon_in s) w (disk_of s) h;
  handled = handled event (daemon_in s) w (disk_of s) h;
  faults = λ e. tells_event event (daemon_in s) w (disk_of s) h e;
  once = names_once event (daemon_in s) w (disk_of s) h;
  room = event_sure event (daemon_in s) w (disk_of s) out;
  unwritten = λ e. event_unwritten event (daemon_in s) w (disk_of s) h e;
  stop = λ e. event_stops s.planned event (daemon_in s) w (disk_in s) out e;
  running = λ e. event_runs_on s.planned event (daemon_in s) w (disk_in s) out e;
  on_entries = λ g. each_on_entries event s w h g;
  bus = λ b. event_sound event (daemon_in s) w (disk_of s) h b;
  moved = (rules_behind s.setup.ifaces (event_of event s w).daemon (event_of event s w).world).moves;
  passed = λ e. is_pass_behind s.setup.ifaces (event_of event s w).daemon (event_of event s w).world (event_ends event (daemon_in s) w (disk_of s) h);
}
