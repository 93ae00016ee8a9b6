use Rattle.ug_match.specs.Operators.{matches_some}
use Rattle.ug_lint.proofs.Tested.{any_found, any_more, any_ended}
use Rattle.ug_lint.proofs.operators.some_covers.Goals as goal

pub returns-then-covers_some : goal.returns-then-covers_some
returns-then-covers_some g c = any_found (matches_some g.T.Covers.covers c.args.others.now) c.args.values.now c.loop-value.value-index c.value-item.result c.covers_some.result c.loop-value-test.true c.value-item.is c.covers_some.ensures c.if-covers_some.true c.loop-value.invariant

pub loop-value-preserved : goal.loop-value-preserved
loop-value-preserved g c = any_more (matches_some g.T.Covers.covers c.args.others.now) c.args.values.now c.loop-value.value-index c.value-item.result c.covers_some.result c.loop-value-test.true c.value-item.is c.covers_some.ensures c.if-covers_some.false c.loop-value.invariant

pub returns : goal.returns
returns g c = any_ended (matches_some g.T.Covers.covers c.args.others.now) c.args.values.now c.loop-value.value-index c.loop-value-test.false c.loop-value.invariant
