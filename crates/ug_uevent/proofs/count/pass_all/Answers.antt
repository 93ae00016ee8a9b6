use Rattle.std.proofs.Common.{arith, take}
use Rattle.ug_uevent.specs.Streams.{stream_with_piece}
use Rattle.ug_uevent.proofs.Counts.{one_more}
use Rattle.ug_uevent.proofs.count.pass_all.Goals as goal

pub loop-byte-preserved : goal.loop-byte-preserved
loop-byte-preserved c = record {
  counts = λ s k. one_more c.pass-now.result s c.args.bytes.now c.loop-byte.byte-index c.loop-byte-test.true (c.pass-now.ensures.counts (stream_with_piece s (take c.loop-byte.byte-index c.args.bytes.now)) (c.loop-byte.invariant.counts s k));
  few = omega (arith, c.pass-now.ensures.few, c.loop-byte.invariant.few);
}
