use Rattle.std.proofs.Common.{refl}
use Rattle.ug_match.specs.Operators.{matches_some}
use Rattle.ug_match.proofs.Passing.{any_more, any_found, any_end}
use Rattle.ug_match.proofs.operators.one_covers.Goals as goal

pub loop-rule-init : goal.loop-rule-init
loop-rule-init g c = refl

pub loop-rule-preserved : goal.loop-rule-preserved
loop-rule-preserved g c = any_more (matches_some g.T.Covers.covers c.args.device.now) c.args.rules.now c.loop-rule.rule-index c.rule-item.result c.covers_some.result c.loop-rule-test.true c.rule-item.is c.covers_some.ensures c.if-covers_some.false c.loop-rule.invariant

pub returns-then-covers_some : goal.returns-then-covers_some
returns-then-covers_some g c = any_found (matches_some g.T.Covers.covers c.args.device.now) c.args.rules.now c.loop-rule.rule-index c.rule-item.result c.covers_some.result c.loop-rule-test.true c.rule-item.is c.covers_some.ensures c.if-covers_some.true

pub returns : goal.returns
returns g c = any_end (matches_some g.T.Covers.covers c.args.device.now) c.args.rules.now c.loop-rule.rule-index c.loop-rule-test.false c.loop-rule.invariant
