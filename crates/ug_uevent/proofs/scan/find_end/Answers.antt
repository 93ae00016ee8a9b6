use Rattle.std.proofs.Common.{arith}
use Rattle.ug_uevent.proofs.Loops.{ends_nothing}
use Rattle.ug_uevent.proofs.Pieces.{too_long_at}
use Rattle.ug_uevent.proofs.scan.find_end.Goals as goal

pub returns-then-i-eq-LAST : goal.returns-then-i-eq-LAST
returns-then-i-eq-LAST c = too_long_at c.args.bytes.now c.loop-i.i c.loop-i.fresh c.loop-i-test.true (omega arith) (ends_nothing _ c.loop-i.fresh c.else-byte-eq0.either) c.loop-i.invariant.here
