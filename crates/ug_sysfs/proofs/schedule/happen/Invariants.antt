use Rattle.std.proofs.Common.{◌≡◌, ◌≤◌, length}
use Rattle.ug_kernel.specs.Kernel.{live_count}
use Rattle.ug_sysfs.specs.World.{happen, ifaces_happen, plugs, iface_adds}
use Rattle.ug_sysfs.proofs.schedule.happen.Given as goal

abbrev pub invariant-loop-moves : goal.invariant-loop-moves
invariant-loop-moves l = record {
  same : happen l.call l.after l.moves l.census.devices ≡ happen l.call l.after l.initial.moves l.initial.census.devices;
  interfaces : ifaces_happen l.call l.after l.moves l.census.devices l.interfaces.interfaces ≡ ifaces_happen l.call l.after l.initial.moves l.initial.census.devices l.initial.interfaces.interfaces;
  room : plugs l.moves ≤ l.census.room;
  places : iface_adds l.moves ≤ l.interfaces.room;
  few : live_count l.census.devices ≤ 65536;
}

abbrev pub decreases-loop-moves : goal.decreases-loop-moves
decreases-loop-moves l = length l.moves
