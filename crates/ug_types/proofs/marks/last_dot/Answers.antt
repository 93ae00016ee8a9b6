use Rattle.std.proofs.Common.{arith}
use Rattle.ug_types.proofs.Parents.{dot_more, no_dot_more}
use Rattle.ug_types.proofs.marks.last_dot.Goals as goal
use Rattle.ug_types.proofs.marks.last_dot.Goals.{then-byte-eq46, else-byte-eq46}

pub loop-i-preserved : goal.loop-i-preserved
loop-i-preserved c = elim c.if-byte-eq46.branch [
  | then-byte-eq46 w ↦ dot_more c.args.text.now c.loop-i.i c.if-byte-eq46.last (omega arith) w.if-byte-eq46.true w.last-is
  | else-byte-eq46 w ↦ no_dot_more c.args.text.now c.loop-i.i c.loop-i.last c.if-byte-eq46.last (omega arith) w.if-byte-eq46.false c.loop-i.invariant w.last-is
]
