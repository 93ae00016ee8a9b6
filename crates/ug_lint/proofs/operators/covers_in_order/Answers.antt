use Rattle.std.proofs.Common.{arith}
use Rattle.ug_lint.proofs.Tested.{lengths_apart, pair_failed, pair_more, pairs_ended}
use Rattle.ug_lint.proofs.operators.covers_in_order.Goals as goal

pub returns-then-values-others : goal.returns-then-values-others
returns-then-values-others g c = lengths_apart g.T.Covers.covers c.args.values.now c.args.others.now c.if-values-others.true

pub returns-then-not-covers : goal.returns-then-not-covers
returns-then-not-covers g c = pair_failed g.T.Covers.covers c.args.values.now c.args.others.now c.loop-place.place c.if-values-others.false c.index-values-place.result c.index-others-place.result c.covers.result (omega arith) (omega arith) c.index-values-place.is c.index-others-place.is c.covers.ensures c.if-not-covers.true c.loop-place.invariant

pub loop-place-preserved : goal.loop-place-preserved
loop-place-preserved g c = pair_more g.T.Covers.covers c.args.values.now c.args.others.now c.loop-place.place c.if-values-others.false c.index-values-place.result c.index-others-place.result c.covers.result (omega arith) (omega arith) c.index-values-place.is c.index-others-place.is c.covers.ensures c.if-not-covers.false c.loop-place.invariant

pub returns : goal.returns
returns g c = pairs_ended g.T.Covers.covers c.args.values.now c.args.others.now c.loop-place.place c.if-values-others.false c.loop-place-test.false c.loop-place.invariant
