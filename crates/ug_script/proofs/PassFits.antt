-- The numbers leave room for an event behind each event and its pass.
use Rattle.std.proofs.Common.{◌≡◌, ℕ, ◌+◌, ◌<◌, ◌≤◌, false, List, [], ap, ◌∙◌, arith, refl}
use Rattle.ug_kernel.proofs.Ways.{ways_run}
use Rattle.ug_sysfs.specs.World.{World, Gives, event_begun}
use Rattle.ug_table.specs.State.{State}
use Rattle.ug_iface.specs.declared.rules.IfaceRule.{IfaceRule}
use Rattle.ug_script.specs.Play.{play}
use Rattle.ug_script.proofs.Plays.{play_runs, play_told}
use Rattle.ug_core.specs.Answering.{acting, asking, deed_after}
use Rattle.ug_core.specs.Event.{DaemonState, handling, most_standings, ready, settling_due, trying}
use Rattle.ug_types.specs.Events.{FitsEvent}
use Rattle.ug_core.specs.Policy.{Judging}
use Rattle.ug_core.specs.Storing.{stored_with, storing}
use Rattle.ug_types.specs.declared.event.Event.{Event}
use Rattle.ug_types.specs.declared.event.Event.TheVariants.{Sweep, Order, Hint}
use Rattle.ug_store.specs.PlayDisk.{play_disk}
use Rattle.ug_store.specs.Scripted.{DiskWorld}
use Rattle.ug_store.proofs.PlayedDisk.{play_stays_told}
use Rattle.ug_script.specs.Laws.{coming_in}
use Rattle.ug_script.specs.Passes.{pass_behind}
use Rattle.ug_script.specs.Replay.{answered_from, event_from, halted, left_played, order_played_by, tried_by}
use Rattle.ug_script.proofs.BusSound.{IsSoundWorld, behind_sound, halted_sound, over_sound, play_sound}
use Rattle.ug_script.proofs.FewStandings.{event_few}
use Rattle.ug_script.proofs.Halts.{halted_faults, halted_told}
use Rattle.ug_script.proofs.Lawful.{HoldsOf, answered_holds, halted_holds, plays_sweep, start_of}
use Rattle.ug_script.proofs.Numbers.{FitsOf, along_faults, answer_calls, event_fits, found_few}
use Rattle.ug_script.proofs.OrdersPlayed.{answered_few}
use Rattle.ug_script.proofs.PassBehind.{event_ends}
use Rattle.ug_script.proofs.PassFaults.{pass_faults}
use Rattle.ug_script.proofs.Spent.{SpendsDue, due_low, due_spends}

-- ---- devices and interfaces stay sound in an event

order_sound : (event : Event) (d : DaemonState) (w : World) (o : DiskWorld) → w.ran_out ≡ false → IsSoundWorld w → IsSoundWorld (order_played_by event d w o).world
order_sound (Sweep moment) d w o e s = s
order_sound (Hint moment piece) d w o e s = s
order_sound (Order moment who line) d w o e s =
    let c = play (asking d who line) w in
    let b = play_disk (storing d c.0.change) o in
    play_sound (acting who (stored_with b.0 c.0.change d) (deed_after b.0 c.0.deed)) c.1 (play_told (asking d who line) w e) (play_sound (asking d who line) w e s)

pub event_sound : (event : Event) (d : DaemonState) (w : World) (o : DiskWorld) → HoldsOf d w → IsSoundWorld w → IsSoundWorld (event_from event d w o).world
event_sound event d w o h s =
    let q : DiskWorld = (tried_by d o).1 in
    let a = answered_from event d w o in
    let start : IsSoundWorld (halted q (event_begun w)) = halted_sound q (event_begun w) s in
    let middle : IsSoundWorld a.world = order_sound event (ready event (tried_by d o).0 d) (halted q (event_begun w)) q (halted_told q (event_begun w) ∙ h.told) start in
    play_sound (handling a.daemon) (halted a.disk a.world) (halted_told a.disk a.world ∙ (answered_holds event d w o h).told) (halted_sound a.disk a.world middle)

pub left_sound : (event : Event) (d : DaemonState) (w : World) (o : DiskWorld) (rules : List IfaceRule) → HoldsOf d w → IsSoundWorld w → IsSoundWorld (left_played rules (event_from event d w o)).world
left_sound event d w o rules h s =
    let p = event_from event d w o in
    over_sound (pass_behind rules p.daemon p.world).world (behind_sound rules p.daemon p.world (event_ends event d w o h).told (event_sound event d w o h s))

-- ---- faults

event_faults : (event : Event) (d : DaemonState) (w : World) (o : DiskWorld) → HoldsOf d w → o.ran_out ≡ false → coming_in w ≤ most_standings → FitsEvent event → d.stream.messages ≡ [] → (event_from event d w o).world.faults ≤ w.faults + 36765702
event_faults event d w o h out few fits none =
    let q : DiskWorld = (tried_by d o).1 in
    let r : DaemonState = ready event (tried_by d o).0 d in
    let still : q.ran_out ≡ false = play_stays_told (trying d) o out in
    let a = answered_from event d w o in
    let m : World = halted a.disk a.world in
    let u : State Judging = a.daemon.sweep in
    let p = settling_due a.daemon.due u in
    let t : World = (play p m).1 in
    let went = ways_run Gives (SpendsDue a.daemon.due u) p m (play p m).0 t (due_spends a.daemon.due u) (play_runs p m) in
    let listed = found_few went.made m t (halted_holds a.daemon a.disk a.world (answered_holds event d w o h)).sound went.along in
    let raised = along_faults went.made m t went.along in
    let made = went.so.made in
    let low = (due_low a.daemon.due went.made u (answered_few event r (start_of d w o) q fits none refl) listed (event_few event d w o h few).0).1 in
    let calls = answer_calls event r (start_of d w o) q still in
    let start = halted_faults q (event_begun w) in
    let middle = halted_faults a.disk a.world in
    let same : (event_from event d w o).world.faults ≡ t.faults = ap (λ (x : DaemonState × World). x.1.faults) (plays_sweep a.daemon m) in
    omega (arith, raised, made, low, calls, start, middle, same)

pub pass_fits : (n : ℕ) (event : Event) (d : DaemonState) (w : World) (o : DiskWorld) (rules : List IfaceRule) → n < 1048576 → HoldsOf d w → o.ran_out ≡ false → coming_in w ≤ most_standings → FitsEvent event → d.stream.messages ≡ [] → IsSoundWorld w → FitsOf n d w o → FitsOf (n + 1) (event_from event d w o).daemon (left_played rules (event_from event d w o)).world (event_from event d w o).disk
pass_fits n event d w o rules lt h out few fits none sound f =
    let p = event_from event d w o in
    let g = event_fits n event d w o lt h out few fits none f in
    let low = event_faults event d w o h out few fits none in
    let more = pass_faults rules p.daemon p.world (event_ends event d w o h).told (event_sound event d w o h sound) (event_few event d w o h few).1 in
    let before = f.few_faults in
    record {
      few_events = g.few_events;
      few_numbers = g.few_numbers;
      few_ids = g.few_ids;
      few_faults = omega (arith, low, more, before);
      few_disk_faults = g.few_disk_faults;
    }
