use Rattle.std.proofs.Common.{refl}
use Rattle.ug_match.proofs.Passing.{any_more, any_found, any_end}
use Rattle.ug_match.proofs.operators.covers_some.Goals as goal

pub loop-value-init : goal.loop-value-init
loop-value-init g c = refl

pub loop-value-preserved : goal.loop-value-preserved
loop-value-preserved g c = any_more (λ value. g.T.Covers.covers c.args.rule.now value) c.args.device.now c.loop-value.value-index c.value-item.result c.covers.result c.loop-value-test.true c.value-item.is c.covers.ensures c.if-covers.false c.loop-value.invariant

pub returns-then-covers : goal.returns-then-covers
returns-then-covers g c = any_found (λ value. g.T.Covers.covers c.args.rule.now value) c.args.device.now c.loop-value.value-index c.value-item.result c.covers.result c.loop-value-test.true c.value-item.is c.covers.ensures c.if-covers.true

pub returns : goal.returns
returns g c = any_end (λ value. g.T.Covers.covers c.args.rule.now value) c.args.device.now c.loop-value.value-index c.loop-value-test.false c.loop-value.invariant
