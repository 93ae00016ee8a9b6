use Rattle.std.proofs.Common.{arith}
use Rattle.ug_table.proofs.Loops.{settling_more, notes_then}
use Rattle.ug_table.proofs.table.Table.settle_all.Goals as goal

pub loop-name-preserved : goal.loop-name-preserved
loop-name-preserved g c = record {
  runs = λ r t k. c.loop-name.invariant.runs r t (settling_more g.Y.Sysfs.gives g.A.Judge.answer g.A.Judge.later c.args.names.now _ c.loop-name.name-index c.name-item.result _ _ _ _ c.loop-name-test.true c.name-item.is c.settle-settled.ensures.runs r t k);
  room = omega (arith, c.settle-settled.ensures.journal.2);
  next = omega (arith, c.settle-settled.ensures.next);
  journal = notes_then _ _ _ _ c.args.out.now c.loop-name.out c.settle-settled.new.out c.loop-name.invariant.journal c.settle-settled.ensures.journal (omega arith);
  len = omega (arith, c.settle-settled.ensures.len);
  most = omega (arith, c.settle-settled.ensures.next);
}
