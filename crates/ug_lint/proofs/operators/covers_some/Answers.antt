use Rattle.ug_lint.proofs.Tested.{any_found, any_more, any_ended}
use Rattle.ug_lint.proofs.operators.covers_some.Goals as goal

pub returns-then-covers : goal.returns-then-covers
returns-then-covers g c = any_found (λ other. g.T.Covers.covers c.args.value.now other) c.args.others.now c.loop-other.other-index c.other-item.result c.covers.result c.loop-other-test.true c.other-item.is c.covers.ensures c.if-covers.true c.loop-other.invariant

pub loop-other-preserved : goal.loop-other-preserved
loop-other-preserved g c = any_more (λ other. g.T.Covers.covers c.args.value.now other) c.args.others.now c.loop-other.other-index c.other-item.result c.covers.result c.loop-other-test.true c.other-item.is c.covers.ensures c.if-covers.false c.loop-other.invariant

pub returns : goal.returns
returns g c = any_ended (λ other. g.T.Covers.covers c.args.value.now other) c.args.others.now c.loop-other.other-index c.loop-other-test.false c.loop-other.invariant
