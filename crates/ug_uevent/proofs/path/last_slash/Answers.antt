use Rattle.std.proofs.Common.{sym, subst}
use Rattle.ug_uevent.specs.Cuts.{IsLastPlace}
use Rattle.ug_uevent.proofs.Paths.{last_here, last_kept}
use Rattle.ug_uevent.proofs.path.last_slash.Goals as goal
use Rattle.ug_uevent.proofs.path.last_slash.Goals.{then-byte-eq47, else-byte-eq47}

pub loop-i-preserved : goal.loop-i-preserved
loop-i-preserved c = elim c.if-byte-eq47.branch [
  | then-byte-eq47 w ↦ subst (IsLastPlace 47 _) (sym w.last-is) (last_here 47 c.args.path.now c.loop-i.i c.loop-i-test.true w.if-byte-eq47.true)
  | else-byte-eq47 w ↦ subst (IsLastPlace 47 _) (sym w.last-is) (last_kept 47 c.args.path.now c.loop-i.i c.loop-i.last c.loop-i-test.true w.if-byte-eq47.false c.loop-i.invariant)
]
