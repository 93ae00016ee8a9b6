use Rattle.std.proofs.Common.{take}
use Rattle.ug_uevent.specs.Cuts.{IsLastPlace}
use Rattle.ug_uevent.proofs.path.last_slash.Given as goal

abbrev pub invariant-loop-i : goal.invariant-loop-i
invariant-loop-i l = IsLastPlace 47 (take l.i l.path) l.last
