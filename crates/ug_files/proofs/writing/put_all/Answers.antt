use Rattle.std.proofs.Common.{arith, ℕ, length-take, length-drop}
use Rattle.ug_types.proofs.Known.{put_more, put_failed, put_nothing, to_end}
use Rattle.ug_files.proofs.writing.put_all.Goals as goal

pub loop-at-preserved : goal.loop-at-preserved
loop-at-preserved g c = record {
  held = put_more (g.W.Write.contents c.args.writer.now) (g.W.Write.contents c.loop-at.writer) (g.W.Write.contents c.write.new.self) c.in-Ok.n c.loop-at.at c.args.bytes.now _ c.loop-at.invariant.held c.in-Ok.ensures.bytes (to_end c.loop-at.at c.args.bytes.now);
  within = omega (arith, c.in-Ok.ensures.bound, length-take {A = ℕ}, length-drop {A = ℕ});
}

pub returns-then-n-eq0 : goal.returns-then-n-eq0
returns-then-n-eq0 g c =
    put_failed (g.W.Write.contents c.args.writer.now) (g.W.Write.contents c.loop-at.writer) (g.W.Write.contents c.write.new.self) c.loop-at.at c.args.bytes.now c.loop-at.invariant.held
    (put_nothing (g.W.Write.contents c.loop-at.writer) (g.W.Write.contents c.write.new.self) c.in-Ok.n _ c.if-n-eq0.true c.in-Ok.ensures.bytes)

pub returns-in-Err : goal.returns-in-Err
returns-in-Err g c =
    put_failed (g.W.Write.contents c.args.writer.now) (g.W.Write.contents c.loop-at.writer) (g.W.Write.contents c.write.new.self) c.loop-at.at c.args.bytes.now c.loop-at.invariant.held c.in-Err.ensures.bytes
