use Rattle.std.proofs.Common.{arith, ℕ, length-take, length-drop}
use Rattle.ug_types.proofs.Known.{put_more, put_failed, put_nothing, to_end}
use Rattle.ug_types.proofs.host.WriterSinkSink.put.Goals as goal

pub loop-at-preserved : goal.loop-at-preserved
loop-at-preserved g c = record {
  held = put_more (g.W.Write.contents c.args.self.now.writer) (g.W.Write.contents c.loop-at.self.writer) (g.W.Write.contents c.write.new.self) c.in-Ok.n c.loop-at.at c.args.bytes.now _ c.loop-at.invariant.held c.in-Ok.ensures.bytes (to_end c.loop-at.at c.args.bytes.now);
  within = omega (arith, c.in-Ok.ensures.bound, length-take {A = ℕ}, length-drop {A = ℕ});
  faults = c.loop-at.invariant.faults;
}

pub returns-then-n-eq0-clause-bytes : goal.returns-then-n-eq0-clause-bytes
returns-then-n-eq0-clause-bytes g c =
    put_failed (g.W.Write.contents c.args.self.now.writer) (g.W.Write.contents c.loop-at.self.writer) (g.W.Write.contents c.write.new.self) c.loop-at.at c.args.bytes.now c.loop-at.invariant.held
    (put_nothing (g.W.Write.contents c.loop-at.self.writer) (g.W.Write.contents c.write.new.self) c.in-Ok.n _ c.if-n-eq0.true c.in-Ok.ensures.bytes)

pub returns-in-Err-clause-bytes : goal.returns-in-Err-clause-bytes
returns-in-Err-clause-bytes g c =
    put_failed (g.W.Write.contents c.args.self.now.writer) (g.W.Write.contents c.loop-at.self.writer) (g.W.Write.contents c.write.new.self) c.loop-at.at c.args.bytes.now c.loop-at.invariant.held c.in-Err.ensures.bytes
