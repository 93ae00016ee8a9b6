-- Each line keeps the kernel sound and each standing of a device.
use Rattle.std.proofs.Common.{◌≡◌, ℕ, ◌++◌, Bool, true, false, ◌||◌, List, [], ◌∷◌, Option, Some, None, refl, sym, ◌∙◌, ap, subst, inl}
use Rattle.std.proofs.lemmas.Option.{same_Some}
use Rattle.ug_kernel.specs.Kernel.{Kernel, IsKernel, Moves}
use Rattle.ug_kernel.proofs.Grow.{quiet_grows}
use Rattle.ug_kernel.proofs.Quiet.{moves_quiet}
use Rattle.ug_sysfs.specs.World.{IsUnfailing, World, Gives, scripted_answer, event_begun, carried, over, told}
use Rattle.ug_sysfs.specs.declared.script.Move.{Move}
use Rattle.ug_sysfs.specs.Count.{counts_each}
use Rattle.ug_sysfs.specs.Law.{does_what_it_may}
use Rattle.ug_sysfs.specs.Begins.{moved_moves, happened_moves}
use Rattle.ug_sysfs.specs.Sound.{moved_sound, happened_sound}
use Rattle.ug_types.specs.Elements.{AllDistinct}
use Rattle.ug_audit.specs.declared.entry.Entry as entries
use Rattle.ug_audit.specs.declared.entry.Entry.TheVariants as entry
use Rattle.ug_table.specs.State.{State, terms_for}
use Rattle.ug_table.specs.Laws.{Stand}
use Rattle.ug_table.specs.declared.standing.Standing.{Standing}
use Rattle.ug_table.proofs.Devices.{stand_stays}
use Rattle.ug_table.specs.Parts.{NamesOnce, unsettled_names}
use Rattle.ug_table.proofs.Swept.{told_swept}
use Rattle.ug_table.proofs.Faults.{sweeping_tells}
use Rattle.ug_table.proofs.Once.{told_once}
use Rattle.ug_table.proofs.Several.{names_part, told_names}
use Rattle.ug_script.specs.Play.{play, tells_memory}
use Rattle.ug_script.proofs.Wants.{memory_more}
use Rattle.ug_script.proofs.Plays.{Fixed, fails_stay, play_runs, play_told, play_then, play_way}
use Rattle.ug_uevent.specs.Streams.{Stream}
use Rattle.ug_core.specs.Event as event
use Rattle.ug_core.specs.Policy.{Judging, policy_answer, policy_later}
use Rattle.ug_core.specs.Event.{DaemonState, handling, ready}
use Rattle.ug_core.specs.Answering.{acting, asking, deed_after}
use Rattle.ug_kernel.specs.Tree.{Prog, Return, Ask, Room, Runs}
use Rattle.ug_types.specs.declared.saved.Saved.{Saved}
use Rattle.ug_types.specs.declared.saved.Saved.TheVariants as saved
use Rattle.ug_store.specs.PlayDisk.{play_disk}
use Rattle.ug_store.specs.Scripted.{IsUnplanned, DiskWorld, MemKeeps}
use Rattle.ug_store.proofs.PlayedDisk.{play_keeps_unplanned, play_runs_disk, play_stays_told}
use Rattle.ug_script.specs.Play.{NameNobody}
use Rattle.ug_script.proofs.Sweeps.{nobody_more}
use Rattle.ug_core.specs.Due.{AreDueInOrder, SettlesDueIn, TellsDue}
use Rattle.ug_core.specs.Laws.{AnswersEvent, Handled, RunsAnswer, SettlesDue, TellsSweep, TellsEvent}
use Rattle.ug_core.specs.Storing.{stored_with, storing}
use Rattle.ug_core.specs.Event.{trying}
use Rattle.ug_types.specs.declared.event.Event.{Event}
use Rattle.ug_types.specs.declared.event.Event.TheVariants.{Sweep, Order, Hint}
use Rattle.ug_core.proofs.Kept.{sweep_adds}
use Rattle.ug_kernel.proofs.Told.{told_run}
use Rattle.ug_core.specs.Values.{LogsValues}
use Rattle.ug_core.proofs.Values.{runs_values}
use Rattle.ug_core.proofs.Handled as handled_names
use Rattle.ug_core.proofs.Handled.{names_settle, names_tell, sweep_tells}
use Rattle.ug_core.proofs.Plain.{due_keeps_hub}
use Rattle.ug_core.proofs.Answered.{Answered, answering_made, answering_told, answered_stands, ready_failures, ready_names}
use Rattle.ug_core.proofs.Failures.{event_tells, event_names}
use Rattle.ug_steps.specs.declared.step.Plan.{Plan}
use Rattle.ug_steps.specs.declared.step.Plan.TheVariants as plan
use Rattle.ug_script.specs.Replay.{order_played_by, answered_from, event_from, halted, tried_by, planned}
use Rattle.ug_script.specs.Laws.{calls_of, faults_of}
use Rattle.ug_script.proofs.Answers.{SweepsSo, handling_ways}
use Rattle.ug_script.proofs.Halts.{answered_unplanned, answered_unstopped, halted_calls, halted_kernel, halted_not, halted_told}
use Rattle.ug_script.proofs.HintsRead.{played_takes}
use Rattle.ug_script.proofs.LastStages.{last_stage}
use Rattle.ug_script.proofs.OrdersPlayed.{answered_order, answered_saved, answered_so, answered_stream, answered_told, trying_so}

pub record Holds (standings : List Standing) (next : ℕ) (w : World) : Type 0 where
  pub told : w.ran_out ≡ false
  pub sound : IsKernel w.kernel
  pub stand : Stand w.kernel standings next

abbrev pub HoldsOf : DaemonState → World → Type 0
HoldsOf d w = Holds d.sweep.standings d.sweep.next w

pub moves_on : (ss : List Standing) (next : ℕ) (k l : Kernel) → Moves k l → Stand k ss next → Stand l ss next
moves_on ss next k l m s = stand_stays k l ss next (quiet_grows k l (moves_quiet k l m)) s

pub told_at : (w : World) → w.ran_out ≡ false → told w ≡ Some w.kernel
told_at w e = rw e refl

-- ---- the order of an event

pub order_runs : (event : Event) (d : DaemonState) (w : World) (o : DiskWorld) → RunsAnswer Gives MemKeeps event w o d (order_played_by event d w o).became (order_played_by event d w o).world (order_played_by event d w o).disk (order_played_by event d w o).daemon
order_runs (Sweep moment) d w o = (refl, refl, refl, refl)
order_runs (Hint moment piece) d w o = (refl, refl, refl, inl (played_takes piece d))
order_runs (Order moment who line) d w o =
    let c = play (asking d who line) w in
    let b = play_disk (storing d c.0.change) o in
    record {
      choice = c.0;
      behind = c.1;
      asks = play_runs (asking d who line) w;
      stores = play_runs_disk (storing d c.0.change) o;
      acts = play_runs (acting who (stored_with b.0 c.0.change d) (deed_after b.0 c.0.deed)) c.1;
    }

-- a kernel that is told stays so
world_told : (event : Event) (d : DaemonState) (w : World) (o : DiskWorld) → w.ran_out ≡ false → (order_played_by event d w o).world.ran_out ≡ false
world_told (Sweep moment) d w o told = told
world_told (Hint moment piece) d w o told = told
world_told (Order moment who line) d w o told =
    let c = play (asking d who line) w in
    let b = play_disk (storing d c.0.change) o in
    play_told (acting who (stored_with b.0 c.0.change d) (deed_after b.0 c.0.deed)) c.1 (play_told (asking d who line) w told)

-- and where no call is to fail, none is behind an order
pub play_calm : {R : Type 0} (p : Prog R) (w : World) → IsUnfailing w → IsUnfailing (play p w).1
play_calm (Return value) w e = e
play_calm (Ask call next) w e = play_calm (next (scripted_answer w call).0) (scripted_answer w call).1 (fails_stay w call e)
play_calm (Room next) w e = play_calm (next true) w e

world_calm : (event : Event) (d : DaemonState) (w : World) (o : DiskWorld) → IsUnfailing w → IsUnfailing (order_played_by event d w o).world
world_calm (Sweep moment) d w o none = none
world_calm (Hint moment piece) d w o none = none
world_calm (Order moment who line) d w o none =
    let c = play (asking d who line) w in
    let b = play_disk (storing d c.0.change) o in
    play_calm (acting who (stored_with b.0 c.0.change d) (deed_after b.0 c.0.deed)) c.1 (play_calm (asking d who line) w none)

pub answers : (event : Event) (d : DaemonState) (w : World) (o : DiskWorld) → HoldsOf d w → AnswersEvent event w.kernel (ready event (tried_by d o).0 d) (answered_from event d w o).became (answered_from event d w o).world.kernel (answered_from event d w o).daemon
answers event d w o h =
    let r : DaemonState = ready event (tried_by d o).0 d in
    let q : DiskWorld = (tried_by d o).1 in
    let s : World = halted q (event_begun w) in
    let a = answered_from event d w o in
    let alive : s.ran_out ≡ false = halted_told q (event_begun w) ∙ h.told in
    let run : a.world.ran_out ≡ false = world_told event r s q alive in
    let law = answering_told Gives told does_what_it_may MemKeeps event s q r a.became a.world a.disk a.daemon (order_runs event r s q) a.world.kernel (told_at a.world run) in
    let same : law.0 ≡ w.kernel = same_Some law.0 w.kernel (sym law.1 ∙ told_at s alive ∙ ap (λ (k : Kernel). Some k) (halted_kernel q (event_begun w))) in
    subst (λ (k : Kernel). AnswersEvent event k r a.became a.world.kernel a.daemon) same (law.2 (rw same h.sound) (rw same h.stand))

pub answered_holds : (event : Event) (d : DaemonState) (w : World) (o : DiskWorld) → HoldsOf d w → HoldsOf (answered_from event d w o).daemon (answered_from event d w o).world
answered_holds event d w o h =
    let r : DaemonState = ready event (tried_by d o).0 d in
    let a = answered_from event d w o in
    let stands = answered_stands event w.kernel r a.became a.world.kernel a.daemon h.sound h.stand (answers event d w o h) in
    let q : DiskWorld = (tried_by d o).1 in
    record { told = world_told event r (halted q (event_begun w)) q (halted_told q (event_begun w) ∙ h.told); sound = stands.0; stand = stands.1 }

-- the kernel that the sweep begins with
pub halted_holds : (d : DaemonState) (o : DiskWorld) (w : World) → HoldsOf d w → HoldsOf d (halted o w)
halted_holds d o w h = record {
  told = halted_told o w ∙ h.told;
  sound = subst (λ (k : Kernel). IsKernel k) (sym (halted_kernel o w)) h.sound;
  stand = subst (λ (k : Kernel). Stand k d.sweep.standings d.sweep.next) (sym (halted_kernel o w)) h.stand;
}

-- ---- the last stage

-- the names that are due are in order
pub due_order : (event : Event) (d : DaemonState) (w : World) (o : DiskWorld) → AreDueInOrder (answered_from event d w o).daemon.due
due_order event d w o = answered_order event (ready event (tried_by d o).0 d) (halted (tried_by d o).1 (event_begun w)) (tried_by d o).1 tt

pub plays_sweep : (a : DaemonState) (m : World) → play (handling a) m ≡ play (event.ended a (play (event.settling_due a.due a.sweep) m).0) (play (event.settling_due a.due a.sweep) m).1
unfolding handling
plays_sweep a m = play_then (event.settling_due a.due a.sweep) (event.ended a) m

due_settles : (due : Option (List (List ℕ))) (w : State Judging) (m t : World) (v : State Judging) → AreDueInOrder due → Runs Gives m (event.settling_due due w) v t → SettlesDueIn told due m w t v
due_settles None w m t v order r = told_swept Gives told does_what_it_may policy_answer policy_later m w t v r
due_settles (Some names) w m t v order r =
    names_settle Gives calls_of faults_of told names m w t v order
    (names_part Gives calls_of faults_of counts_each policy_answer policy_later (terms_for w) names m w t v r order)
    (told_names Gives told does_what_it_may policy_answer policy_later (terms_for w) names m w t v r)

due_once : (due : Option (List (List ℕ))) (w : State Judging) (m t : World) (v : State Judging) → AreDueInOrder due → Runs Gives m (event.settling_due due w) v t → NamesOnce told m w t v
due_once None w m t v order r = told_once Gives told does_what_it_may policy_answer policy_later m w t v r
due_once (Some names) w m t v order r =
    handled_names.names_once Gives calls_of faults_of told names m w t v order
    (names_part Gives calls_of faults_of counts_each policy_answer policy_later (terms_for w) names m w t v r order)
    (told_names Gives told does_what_it_may policy_answer policy_later (terms_for w) names m w t v r)

due_tells : (due : Option (List (List ℕ))) (w : State Judging) (m t : World) (v : State Judging) → AreDueInOrder due → Runs Gives m (event.settling_due due w) v t → TellsDue Gives calls_of faults_of due m w t v
due_tells None w m t v order r = sweep_tells Gives calls_of faults_of m w t v (sweeping_tells Gives calls_of faults_of counts_each policy_answer policy_later m w t v r)
due_tells (Some names) w m t v order r =
    names_tell Gives calls_of faults_of names m w t v (names_part Gives calls_of faults_of counts_each policy_answer policy_later (terms_for w) names m w t v r order)

pub swept_from : (a : DaemonState) (m : World) → AreDueInOrder a.due → HoldsOf a m → Handled m.kernel a (play (handling a) m).1.kernel (play (handling a) m).0
swept_from a m order h =
    let p = event.settling_due a.due a.sweep in
    let v : State Judging = (play p m).0 in
    let t : World = (play p m).1 in
    let run : t.ran_out ≡ false = play_told p m h.told in
    let swept = due_settles a.due a.sweep m t v order (play_runs p m) t.kernel (told_at t run) in
    let same : swept.0 ≡ m.kernel = same_Some swept.0 m.kernel (sym swept.1 ∙ told_at m h.told) in
    let whole = told_run Gives told does_what_it_may p m v t t.kernel (play_runs p m) (told_at t run) in
    let one : whole.kernel ≡ m.kernel = same_Some whole.kernel m.kernel (sym whole.was ∙ told_at m h.told) in
    rw (plays_sweep a m) (record {
      swept = v;
      law = subst (λ (k : Kernel). SettlesDue a.due k a.sweep t.kernel v) same (swept.2 (rw same h.sound) (rw same h.stand));
      values = subst (λ (k : Kernel). LogsValues k t.kernel) one (runs_values p whole.kernel v t.kernel (whole.run (rw one h.sound)).0);
      entries = refl;
      hub = due_keeps_hub Gives a.due m a.sweep v t (play_runs p m);
      access = refl;
      pending = refl;
      stream = refl;
      due = refl;
      event = refl;
      reply = refl;
      watch = refl;
    })

-- an event from a kernel that is told
pub handled : (event : Event) (d : DaemonState) (w : World) (o : DiskWorld) → HoldsOf d w → Handled (answered_from event d w o).world.kernel (answered_from event d w o).daemon (event_from event d w o).world.kernel (event_from event d w o).daemon
handled event d w o h =
    let a = answered_from event d w o in
    let p = event_from event d w o in
    subst (λ (k : Kernel). Handled k a.daemon p.world.kernel p.daemon) (halted_kernel a.disk a.world) (swept_from a.daemon (halted a.disk a.world) (due_order event d w o) (halted_holds a.daemon a.disk a.world (answered_holds event d w o h)))

-- no message is left of a piece
pub event_stream : (event : Event) (d : DaemonState) (w : World) (o : DiskWorld) → HoldsOf d w → d.stream.messages ≡ [] → (event_from event d w o).daemon.stream.messages ≡ []
event_stream event d w o h none =
    ap (λ (s : Stream). s.messages) (handled event d w o h).stream
    ∙ answered_stream event (ready event (tried_by d o).0 d) (halted (tried_by d o).1 (event_begun w)) (tried_by d o).1 none

-- an event, and what is still to come behind it
pub event_holds : (event : Event) (d : DaemonState) (w : World) (o : DiskWorld) → HoldsOf d w → HoldsOf (event_from event d w o).daemon (over (event_from event d w o).world)
event_holds event d w o h =
    let a = answered_from event d w o in
    let p = event_from event d w o in
    let law = handled event d w o h in
    let last = last_stage a.daemon.due a.world.kernel a.daemon.sweep p.world.kernel law.swept law.law in
    record {
      told = play_told (handling a.daemon) (halted a.disk a.world) (halted_holds a.daemon a.disk a.world (answered_holds event d w o h)).told;
      sound = happened_sound p.world.moves p.world.kernel last.sound;
      stand = moves_on p.daemon.sweep.standings p.daemon.sweep.next p.world.kernel (over p.world).kernel (happened_moves p.world.moves p.world.kernel) (subst (λ (v : State Judging). Stand p.world.kernel v.standings v.next) (sym law.entries) last.stand);
    }

-- a disk that is told stays so
pub event_disk : (event : Event) (d : DaemonState) (w : World) (o : DiskWorld) → o.ran_out ≡ false → (event_from event d w o).disk.ran_out ≡ false
event_disk event d w o out = answered_told event (ready event (tried_by d o).0 d) (halted (tried_by d o).1 (event_begun w)) (tried_by d o).1 (play_stays_told (trying d) o out)

pub move_holds : (action : Move) (d : DaemonState) (w : World) → HoldsOf d w → HoldsOf d (carried action w)
move_holds action d w h = record {
  told = h.told;
  sound = moved_sound action w.kernel h.sound;
  stand = moves_on d.sweep.standings d.sweep.next w.kernel (carried action w).kernel (moved_moves action w.kernel) h.stand;
}

-- what is scheduled changes no device
pub plan_holds : (p : Plan) (d : DaemonState) (w : World) → HoldsOf d w → HoldsOf d (planned p w)
plan_holds (plan.Move m) d w h = record { told = h.told; sound = h.sound; stand = h.stand }
plan_holds (plan.Fail f) d w h = record { told = h.told; sound = h.sound; stand = h.stand }
plan_holds (plan.OnDisk p) d w h = h

pub no_standing : (k : Kernel) → Stand k [] 1
no_standing k = record { devices = λ s a. absurd a; hashes = λ s a. absurd a; numbers = λ s a. absurd a; names = tt; order = tt; distinct = tt; done = λ control s a. absurd a }

-- what the event's entries tell of its calls

pub swept_tells : (a : DaemonState) (m : World) → AreDueInOrder a.due → TellsSweep Gives calls_of faults_of m a (play (handling a) m).1 (play (handling a) m).0
swept_tells a m order =
    let p = event.settling_due a.due a.sweep in
    let v : State Judging = (play p m).0 in
    let t : World = (play p m).1 in
    let law = due_tells a.due a.sweep m t v order (play_runs p m) in
    rw (plays_sweep a m) (record { swept = v; goes = law.goes; exact = law.exact; numbered = law.numbered; rises = law.rises; entries = refl })

-- what the order begins with, on the kernel
abbrev pub start_of : DaemonState → World → DiskWorld → World
start_of d w o = halted (tried_by d o).1 (event_begun w)

pub made_by : (event : Event) (d : DaemonState) (w : World) (o : DiskWorld) → HoldsOf d w → Answered Gives calls_of faults_of event (start_of d w o) (ready event (tried_by d o).0 d) (answered_from event d w o).became (answered_from event d w o).world (answered_from event d w o).daemon
made_by event d w o h =
    let tried = (tried_by d o).0 in
    let q : DiskWorld = (tried_by d o).1 in
    let a = answered_from event d w o in
    answering_made Gives calls_of faults_of counts_each MemKeeps event (start_of d w o) q (ready event tried d) a.became a.world a.disk a.daemon (halted_calls q (event_begun w)) (record { order = h.stand.order; distinct = h.stand.distinct; numbers = h.stand.numbers }) (ready_failures event tried d) (ready_names event tried d) (order_runs event (ready event tried d) (start_of d w o) q)

-- where the machine hasn't stopped, the sweep goes on from the kernel of the order
pub tells_event : (event : Event) (d : DaemonState) (w : World) (o : DiskWorld) → HoldsOf d w → (event_from event d w o).disk.stopped ≡ false → TellsEvent Gives calls_of faults_of event (event_begun w) (ready event (tried_by d o).0 d) (answered_from event d w o).became (answered_from event d w o).world (answered_from event d w o).daemon (event_from event d w o).world (event_from event d w o).daemon
tells_event event d w o h unstopped =
    let r : DaemonState = ready event (tried_by d o).0 d in
    let q : DiskWorld = (tried_by d o).1 in
    let a = answered_from event d w o in
    let p = event_from event d w o in
    let made = made_by event d w o h in
    let before : q.stopped ≡ false = answered_unstopped event r (start_of d w o) q unstopped in
    let sweep : TellsSweep Gives calls_of faults_of a.world a.daemon p.world p.daemon = subst (λ (v : World). TellsSweep Gives calls_of faults_of v a.daemon p.world p.daemon) (halted_not a.disk a.world unstopped) (swept_tells a.daemon (halted a.disk a.world) (due_order event d w o)) in
    subst (λ (v : World). TellsEvent Gives calls_of faults_of event v r a.became a.world a.daemon p.world p.daemon) (halted_not q (event_begun w) before)
    (event_tells Gives calls_of faults_of counts_each event (start_of d w o) r a.became a.world a.daemon p.world p.daemon made.made (halted_calls q (event_begun w)) made.along made.goes made.told sweep)

-- its entries are those of the order and some more, whether it has stopped or not
pub event_adds : (event : Event) (d : DaemonState) (w : World) (o : DiskWorld) → (added : List entries.Entry) × ((event_from event d w o).daemon.sweep.entries ≡ (answered_from event d w o).daemon.sweep.entries ++ added)
event_adds event d w o =
    let a = answered_from event d w o in
    let p = event_from event d w o in
    sweep_adds Gives calls_of faults_of (halted a.disk a.world) a.daemon p.world p.daemon (swept_tells a.daemon (halted a.disk a.world) (due_order event d w o))

swept_once : (a : DaemonState) (m : World) → AreDueInOrder a.due → unsettled_names a.sweep.entries ≡ [] → HoldsOf a m → AllDistinct (unsettled_names (play (handling a) m).0.sweep.entries)
swept_once a m order nameless h =
    let p = event.settling_due a.due a.sweep in
    let v : State Judging = (play p m).0 in
    let t : World = (play p m).1 in
    let run : t.ran_out ≡ false = play_told p m h.told in
    let once = due_once a.due a.sweep m t v order (play_runs p m) t.kernel (told_at t run) in
    let same : once.0 ≡ m.kernel = same_Some once.0 m.kernel (sym once.1 ∙ told_at m h.told) in
    let r = once.2 (rw same h.sound) (rw same h.stand) in
    rw (plays_sweep a m) (event_names a.event a.sweep.entries r.0 (v.entries ++ entry.End a.event ∷ []) nameless (ap (λ (es : List entries.Entry). es ++ entry.End a.event ∷ []) r.1) r.2)

pub names_once : (event : Event) (d : DaemonState) (w : World) (o : DiskWorld) → HoldsOf d w → AllDistinct (unsettled_names (event_from event d w o).daemon.sweep.entries)
names_once event d w o h =
    let a = answered_from event d w o in
    swept_once a.daemon (halted a.disk a.world) (due_order event d w o) (made_by event d w o h).nameless (halted_holds a.daemon a.disk a.world (answered_holds event d w o h))

-- ---- what an event's entries don't tell

-- what the sweep leaves, whatever its kernel
pub sweep_so : (a : DaemonState) (m : World) → Fixed (SweepsSo a) m (play (handling a) m).0
sweep_so a m = play_way (SweepsSo a) (handling a) m (handling_ways a)

ready_sure : (event : Event) (d : DaemonState) (tried : Option Saved) → (tried ≡ Some saved.Memory → ⊥) → tells_memory (ready event tried d).sweep.entries ≡ false
ready_sure (Sweep moment) d None sure = refl
ready_sure (Sweep moment) d (Some saved.Done) sure = refl
ready_sure (Sweep moment) d (Some (saved.Failed count)) sure = refl
ready_sure event d (Some saved.Memory) sure = absurd (sure refl)
ready_sure (Hint moment piece) d None sure = refl
ready_sure (Hint moment piece) d (Some saved.Done) sure = refl
ready_sure (Hint moment piece) d (Some (saved.Failed count)) sure = refl
ready_sure (Order moment who line) d None sure = refl
ready_sure (Order moment who line) d (Some saved.Done) sure = refl
ready_sure (Order moment who line) d (Some (saved.Failed count)) sure = refl

ready_nobody : (event : Event) (d : DaemonState) (tried : Option Saved) → NameNobody (ready event tried d).sweep.entries
ready_nobody (Sweep moment) d None = refl
ready_nobody (Sweep moment) d (Some became) = refl
ready_nobody (Hint moment piece) d None = refl
ready_nobody (Hint moment piece) d (Some became) = refl
ready_nobody (Order moment who line) d None = refl
ready_nobody (Order moment who line) d (Some became) = refl

-- a script refuses no memory
pub event_sure : (event : Event) (d : DaemonState) (w : World) (o : DiskWorld) → o.ran_out ≡ false → tells_memory (event_from event d w o).daemon.sweep.entries ≡ false
event_sure event d w o out =
    let r : DaemonState = ready event (tried_by d o).0 d in
    let a = answered_from event d w o in
    let x = answered_so event r (start_of d w o) (tried_by d o).1 (play_stays_told (trying d) o out) in
    let y = sweep_so a.daemon (halted a.disk a.world) in
    let before : tells_memory a.daemon.sweep.entries ≡ false = ap (λ (es : List entries.Entry). tells_memory es) x.entries ∙ memory_more r.sweep.entries x.rest ∙ ap (λ (b : Bool). b || tells_memory x.rest) (ready_sure event d (tried_by d o).0 (trying_so d o out).sure) ∙ x.wants in
    ap (λ (es : List entries.Entry). tells_memory es) y.so.entries ∙ memory_more a.daemon.sweep.entries y.so.rest ∙ ap (λ (b : Bool). b || tells_memory y.so.rest) before ∙ y.so.wants ∙ y.sure

-- where no call is to fail, an event names nobody
pub event_nobody : (event : Event) (d : DaemonState) (w : World) (o : DiskWorld) → w.ran_out ≡ false → IsUnfailing w → o.ran_out ≡ false → IsUnplanned o → NameNobody (event_from event d w o).daemon.sweep.entries
event_nobody event d w o run none out unplanned =
    let r : DaemonState = ready event (tried_by d o).0 d in
    let q : DiskWorld = (tried_by d o).1 in
    let a = answered_from event d w o in
    let tried : IsUnplanned q = play_keeps_unplanned (trying d) o unplanned in
    let still : IsUnplanned a.disk = answered_unplanned event r (start_of d w o) q tried in
    let x = answered_so event r (start_of d w o) q (play_stays_told (trying d) o out) in
    let y = sweep_so a.daemon (halted a.disk a.world) in
    let before : NameNobody a.daemon.sweep.entries = subst NameNobody (sym x.entries) (nobody_more r.sweep.entries x.rest (ready_nobody event d (tried_by d o).0) x.nobody) in
    let calm : IsUnfailing (start_of d w o) = subst (λ (v : World). IsUnfailing v) (sym (halted_not q (event_begun w) tried.1)) none in
    let calm_on : IsUnfailing (halted a.disk a.world) = subst (λ (v : World). IsUnfailing v) (sym (halted_not a.disk a.world still.1)) (world_calm event r (start_of d w o) q calm) in
    let alive : (halted a.disk a.world).ran_out ≡ false = halted_told a.disk a.world ∙ world_told event r (start_of d w o) q (halted_told q (event_begun w) ∙ run) in
    subst NameNobody (sym y.so.entries) (nobody_more a.daemon.sweep.entries y.so.rest before (y.so.nobody y.sure (y.calm alive calm_on)))

-- where nothing is planned for the disk, an event leaves no save that is pending
pub event_saved : (event : Event) (d : DaemonState) (w : World) (o : DiskWorld) → o.ran_out ≡ false → IsUnplanned o → d.pending ≡ false → (event_from event d w o).daemon.pending ≡ false
event_saved event d w o out none saved =
    let tried = (tried_by d o).0 in
    let r : DaemonState = ready event tried d in
    let a = answered_from event d w o in
    let calm : tried ≡ None = (trying_so d o out).calm saved in
    let begins : r.pending ≡ false = ap (λ (t : Option Saved). (ready event t d).pending) calm ∙ saved in
    (sweep_so a.daemon (halted a.disk a.world)).so.pending ∙ answered_saved event r (start_of d w o) (tried_by d o).1 (play_stays_told (trying d) o out) (play_keeps_unplanned (trying d) o none) begins
