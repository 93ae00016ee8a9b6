use Rattle.ug_lint.proofs.Tested.{any_found, any_more, any_ended}
use Rattle.ug_lint.proofs.operators.is_covered.Goals as goal

pub returns-then-covers : goal.returns-then-covers
returns-then-covers g c = any_found (λ value. g.T.Covers.covers value c.args.other.now) c.args.values.now c.loop-value.value-index c.value-item.result c.covers.result c.loop-value-test.true c.value-item.is c.covers.ensures c.if-covers.true c.loop-value.invariant

pub loop-value-preserved : goal.loop-value-preserved
loop-value-preserved g c = any_more (λ value. g.T.Covers.covers value c.args.other.now) c.args.values.now c.loop-value.value-index c.value-item.result c.covers.result c.loop-value-test.true c.value-item.is c.covers.ensures c.if-covers.false c.loop-value.invariant

pub returns : goal.returns
returns g c = any_ended (λ value. g.T.Covers.covers value c.args.other.now) c.args.values.now c.loop-value.value-index c.loop-value-test.false c.loop-value.invariant
