use Rattle.ug_lint.proofs.Tested.{all_failed, all_more, all_ended}
use Rattle.ug_lint.proofs.operators.covers_all.Goals as goal

pub returns-then-not-covers : goal.returns-then-not-covers
returns-then-not-covers g c = all_failed (λ other. g.T.Covers.covers c.args.value.now other) c.args.others.now c.loop-other.other-index c.other-item.result c.covers.result c.loop-other-test.true c.other-item.is c.covers.ensures c.if-not-covers.true c.loop-other.invariant

pub loop-other-preserved : goal.loop-other-preserved
loop-other-preserved g c = all_more (λ other. g.T.Covers.covers c.args.value.now other) c.args.others.now c.loop-other.other-index c.other-item.result c.covers.result c.loop-other-test.true c.other-item.is c.covers.ensures c.if-not-covers.false c.loop-other.invariant

pub returns : goal.returns
returns g c = all_ended (λ other. g.T.Covers.covers c.args.value.now other) c.args.others.now c.loop-other.other-index c.loop-other-test.false c.loop-other.invariant
