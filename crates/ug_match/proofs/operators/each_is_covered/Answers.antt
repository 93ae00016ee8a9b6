use Rattle.std.proofs.Common.{refl}
use Rattle.ug_match.specs.Operators.{is_matched}
use Rattle.ug_match.proofs.Passing.{all_more, all_failed, all_end}
use Rattle.ug_match.proofs.operators.each_is_covered.Goals as goal

pub loop-value-init : goal.loop-value-init
loop-value-init g c = refl

pub loop-value-preserved : goal.loop-value-preserved
loop-value-preserved g c = all_more (is_matched g.T.Covers.covers c.args.rules.now) c.args.device.now c.loop-value.value-index c.value-item.result c.is_covered.result c.loop-value-test.true c.value-item.is c.is_covered.ensures c.if-not-is_covered.false c.loop-value.invariant

pub returns-then-not-is_covered : goal.returns-then-not-is_covered
returns-then-not-is_covered g c = all_failed (is_matched g.T.Covers.covers c.args.rules.now) c.args.device.now c.loop-value.value-index c.value-item.result c.is_covered.result c.loop-value-test.true c.value-item.is c.is_covered.ensures c.if-not-is_covered.true

pub returns : goal.returns
returns g c = all_end (is_matched g.T.Covers.covers c.args.rules.now) c.args.device.now c.loop-value.value-index c.loop-value-test.false c.loop-value.invariant
