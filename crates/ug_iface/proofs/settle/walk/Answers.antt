use Rattle.std.proofs.Common.{refl, arith}
use Rattle.ug_iface.proofs.Walks.{walking_more, walking_ends}
use Rattle.ug_iface.proofs.settle.walk.Goals as goal

pub loop-name-init : goal.loop-name-init
loop-name-init g c = record { runs = λ r t k. k; len = omega arith; capacity = refl }

pub settle-requires : goal.settle-requires
settle-requires g c = omega (arith, c.requires, c.loop-name.invariant.len, c.loop-name.invariant.capacity, c.loop-name-test.true)

pub returns-then-not-settle-clause-len : goal.returns-then-not-settle-clause-len
returns-then-not-settle-clause-len g c = omega (arith, c.settle.ensures.len, c.loop-name.invariant.len, c.loop-name-test.true)

pub returns-then-not-settle-clause-runs : goal.returns-then-not-settle-clause-runs
returns-then-not-settle-clause-runs g c = c.loop-name.invariant.runs _ _ (walking_ends g.Y.Ifaces.serves _ c.args.names.now c.loop-name.name-index c.name-item.result _ _ _ _ c.settle.result c.if-not-settle.true c.loop-name-test.true c.name-item.is c.settle.ensures.runs)

pub loop-name-preserved : goal.loop-name-preserved
loop-name-preserved g c = record {
  runs = λ r t k. c.loop-name.invariant.runs r t (walking_more g.Y.Ifaces.serves _ c.args.names.now c.loop-name.name-index c.name-item.result _ _ _ _ c.settle.result c.if-not-settle.false c.loop-name-test.true c.name-item.is c.settle.ensures.runs r t k);
  len = omega (arith, c.settle.ensures.len, c.loop-name.invariant.len);
  capacity = grind (arith, c.settle.ensures.capacity, c.loop-name.invariant.capacity);
}
