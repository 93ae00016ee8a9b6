use Rattle.ug_match.specs.Operators.{matches_some}
use Rattle.ug_lint.proofs.Tested.{all_failed, all_more, all_ended}
use Rattle.ug_lint.proofs.operators.each_covers.Goals as goal

pub returns-then-not-covers_some : goal.returns-then-not-covers_some
returns-then-not-covers_some g c = all_failed (matches_some g.T.Covers.covers c.args.others.now) c.args.values.now c.loop-value.value-index c.value-item.result c.covers_some.result c.loop-value-test.true c.value-item.is c.covers_some.ensures c.if-not-covers_some.true c.loop-value.invariant

pub loop-value-preserved : goal.loop-value-preserved
loop-value-preserved g c = all_more (matches_some g.T.Covers.covers c.args.others.now) c.args.values.now c.loop-value.value-index c.value-item.result c.covers_some.result c.loop-value-test.true c.value-item.is c.covers_some.ensures c.if-not-covers_some.false c.loop-value.invariant

pub returns : goal.returns
returns g c = all_ended (matches_some g.T.Covers.covers c.args.others.now) c.args.values.now c.loop-value.value-index c.loop-value-test.false c.loop-value.invariant
