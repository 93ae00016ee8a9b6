use Rattle.ug_match.specs.Operators.{is_matched}
use Rattle.ug_lint.proofs.Tested.{all_failed, all_more, all_ended}
use Rattle.ug_lint.proofs.operators.each_covered.Goals as goal

pub returns-then-not-is_covered : goal.returns-then-not-is_covered
returns-then-not-is_covered g c = all_failed (is_matched g.T.Covers.covers c.args.values.now) c.args.others.now c.loop-other.other-index c.other-item.result c.is_covered.result c.loop-other-test.true c.other-item.is c.is_covered.ensures c.if-not-is_covered.true c.loop-other.invariant

pub loop-other-preserved : goal.loop-other-preserved
loop-other-preserved g c = all_more (is_matched g.T.Covers.covers c.args.values.now) c.args.others.now c.loop-other.other-index c.other-item.result c.is_covered.result c.loop-other-test.true c.other-item.is c.is_covered.ensures c.if-not-is_covered.false c.loop-other.invariant

pub returns : goal.returns
returns g c = all_ended (is_matched g.T.Covers.covers c.args.values.now) c.args.others.now c.loop-other.other-index c.loop-other-test.false c.loop-other.invariant
