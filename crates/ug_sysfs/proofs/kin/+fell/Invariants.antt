use Rattle.std.proofs.Common.{◌≡◌, ◌-◌, length}
use Rattle.ug_sysfs.proofs.Links.{Felling, still_left}
use Rattle.ug_sysfs.proofs.kin.+fell.Given as goal

abbrev pub decreases-fell : goal.decreases-fell
decreases-fell l = length l.roster.now.devices - l.place

abbrev pub invariant-loop-next : goal.invariant-loop-next
invariant-loop-next l = record {
  walk : Felling l.place l.initial.roster.devices l.roster.devices l.next;
  room : l.roster.room ≡ l.initial.roster.room;
}

abbrev pub decreases-loop-next : goal.decreases-loop-next
decreases-loop-next l = still_left l.next
