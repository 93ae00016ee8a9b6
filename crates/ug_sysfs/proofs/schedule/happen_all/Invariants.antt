use Rattle.std.proofs.Common.{◌≡◌, ◌≤◌, length}
use Rattle.ug_kernel.specs.Kernel.{live_count}
use Rattle.ug_sysfs.specs.World.{happen_all, ifaces_happen_all, plugs, iface_adds}
use Rattle.ug_sysfs.proofs.schedule.happen_all.Given as goal

abbrev pub invariant-loop-next : goal.invariant-loop-next
invariant-loop-next l = record {
  same : happen_all l.moves l.census.devices ≡ happen_all l.initial.moves l.initial.census.devices;
  interfaces : ifaces_happen_all l.moves l.census.devices l.interfaces.interfaces ≡ ifaces_happen_all l.initial.moves l.initial.census.devices l.initial.interfaces.interfaces;
  room : plugs l.moves ≤ l.census.room;
  places : iface_adds l.moves ≤ l.interfaces.room;
  few : live_count l.census.devices ≤ 65536;
}

abbrev pub decreases-loop-next : goal.decreases-loop-next
decreases-loop-next l = length l.moves
