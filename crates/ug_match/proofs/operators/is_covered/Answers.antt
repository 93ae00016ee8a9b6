use Rattle.std.proofs.Common.{refl}
use Rattle.ug_match.proofs.Passing.{any_more, any_found, any_end}
use Rattle.ug_match.proofs.operators.is_covered.Goals as goal

pub loop-rule-init : goal.loop-rule-init
loop-rule-init g c = refl

pub loop-rule-preserved : goal.loop-rule-preserved
loop-rule-preserved g c = any_more (λ rule. g.T.Covers.covers rule c.args.value.now) c.args.rules.now c.loop-rule.rule-index c.rule-item.result c.covers.result c.loop-rule-test.true c.rule-item.is c.covers.ensures c.if-covers.false c.loop-rule.invariant

pub returns-then-covers : goal.returns-then-covers
returns-then-covers g c = any_found (λ rule. g.T.Covers.covers rule c.args.value.now) c.args.rules.now c.loop-rule.rule-index c.rule-item.result c.covers.result c.loop-rule-test.true c.rule-item.is c.covers.ensures c.if-covers.true

pub returns : goal.returns
returns g c = any_end (λ rule. g.T.Covers.covers rule c.args.value.now) c.args.rules.now c.loop-rule.rule-index c.loop-rule-test.false c.loop-rule.invariant
