use Rattle.ug_lint.specs.Implied.{covers_all}
use Rattle.ug_lint.proofs.Tested.{all_failed, all_more, all_ended}
use Rattle.ug_lint.proofs.operators.each_covers_all.Goals as goal

pub returns-then-not-covers_all : goal.returns-then-not-covers_all
returns-then-not-covers_all g c = all_failed (covers_all g.T.Covers.covers c.args.others.now) c.args.values.now c.loop-value.value-index c.value-item.result c.covers_all.result c.loop-value-test.true c.value-item.is c.covers_all.ensures c.if-not-covers_all.true c.loop-value.invariant

pub loop-value-preserved : goal.loop-value-preserved
loop-value-preserved g c = all_more (covers_all g.T.Covers.covers c.args.others.now) c.args.values.now c.loop-value.value-index c.value-item.result c.covers_all.result c.loop-value-test.true c.value-item.is c.covers_all.ensures c.if-not-covers_all.false c.loop-value.invariant

pub returns : goal.returns
returns g c = all_ended (covers_all g.T.Covers.covers c.args.others.now) c.args.values.now c.loop-value.value-index c.loop-value-test.false c.loop-value.invariant
