-- A table never has more standings than there are devices, with those that may still come when an event begins.
use Rattle.std.proofs.Common.{◌≤◌, length, arith}
use Rattle.ug_sysfs.specs.World.{World, event_begun}
use Rattle.ug_script.specs.Play.{play}
use Rattle.ug_store.specs.PlayDisk.{play_disk}
use Rattle.ug_store.specs.Scripted.{DiskWorld}
use Rattle.ug_core.specs.Answering.{acting, asking, deed_after}
use Rattle.ug_core.specs.Event.{DaemonState, handling, most_standings, ready}
use Rattle.ug_core.specs.Storing.{stored_with, storing}
use Rattle.ug_types.specs.declared.event.Event.{Event}
use Rattle.ug_types.specs.declared.event.Event.TheVariants.{Sweep, Order, Hint}
use Rattle.ug_script.specs.Laws.{coming_in}
use Rattle.ug_script.specs.Replay.{answered_from, event_from, halted, order_played_by, tried_by}
use Rattle.ug_script.proofs.FewDevices.{halted_few, play_few, standings_few}
use Rattle.ug_script.proofs.Lawful.{HoldsOf, answered_holds}
use Rattle.ug_script.proofs.PassBehind.{event_ends}

order_devices : (event : Event) (d : DaemonState) (w : World) (o : DiskWorld) → coming_in (order_played_by event d w o).world ≤ coming_in w
order_devices (Sweep moment) d w o = omega arith
order_devices (Hint moment piece) d w o = omega arith
order_devices (Order moment who line) d w o =
    let c = play (asking d who line) w in
    let b = play_disk (storing d c.0.change) o in
    let asked = play_few (asking d who line) w in
    let acted = play_few (acting who (stored_with b.0 c.0.change d) (deed_after b.0 c.0.deed)) c.1 in
    omega (arith, asked, acted)

answered_devices : (event : Event) (d : DaemonState) (w : World) (o : DiskWorld) → coming_in (answered_from event d w o).world ≤ coming_in w
answered_devices event d w o =
    let q : DiskWorld = (tried_by d o).1 in
    let ordered = order_devices event (ready event (tried_by d o).0 d) (halted q (event_begun w)) q in
    let same = halted_few q (event_begun w) in
    omega (arith, ordered, same)

pub event_devices : (event : Event) (d : DaemonState) (w : World) (o : DiskWorld) → coming_in (event_from event d w o).world ≤ coming_in w
event_devices event d w o =
    let a = answered_from event d w o in
    let before = answered_devices event d w o in
    let same = halted_few a.disk a.world in
    let swept = play_few (handling a.daemon) (halted a.disk a.world) in
    omega (arith, before, same, swept)

-- behind the order, and at the end
pub event_few : (event : Event) (d : DaemonState) (w : World) (o : DiskWorld) → HoldsOf d w → coming_in w ≤ most_standings → length (answered_from event d w o).daemon.sweep.standings ≤ most_standings × length (event_from event d w o).daemon.sweep.standings ≤ most_standings
event_few event d w o h few =
    let a = answered_from event d w o in
    let p = event_from event d w o in
    let first = standings_few a.world.kernel a.daemon.sweep.standings a.daemon.sweep.next (answered_holds event d w o h).stand in
    let last = standings_few p.world.kernel p.daemon.sweep.standings p.daemon.sweep.next (event_ends event d w o h).stand in
    let before = answered_devices event d w o in
    let after = event_devices event d w o in
    (omega (arith, few, first, before), omega (arith, few, last, after))
