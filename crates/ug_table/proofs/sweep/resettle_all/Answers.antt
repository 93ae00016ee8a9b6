use Rattle.std.proofs.Common.{arith}
use Rattle.ug_table.proofs.Loops.{resettling_more, notes_then}
use Rattle.ug_table.proofs.sweep.resettle_all.Goals as goal

pub loop-name-preserved : goal.loop-name-preserved
loop-name-preserved g c = record {
  runs = λ r t k. c.loop-name.invariant.runs r t (resettling_more g.Y.Sysfs.gives _ c.args.names.now c.loop-name.name-index c.name-item.result _ _ _ _ c.loop-name-test.true c.name-item.is c.settle_known-settled.ensures.runs r t k);
  room = omega (arith, c.settle_known-settled.ensures.journal.2);
  journal = notes_then _ _ _ _ c.args.out.now c.loop-name.out c.settle_known-settled.new.out c.loop-name.invariant.journal c.settle_known-settled.ensures.journal (omega arith);
  keeps = λ next o. c.settle_known-settled.ensures.keeps next (c.loop-name.invariant.keeps next o);
  len = omega (arith, c.settle_known-settled.ensures.len);
}
