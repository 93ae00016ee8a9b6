use Rattle.std.proofs.Common.{refl}
use Rattle.ug_match.specs.Operators.{matches_some}
use Rattle.ug_match.proofs.Passing.{all_more, all_failed, all_end}
use Rattle.ug_match.proofs.operators.each_covers.Goals as goal

pub loop-rule-init : goal.loop-rule-init
loop-rule-init g c = refl

pub loop-rule-preserved : goal.loop-rule-preserved
loop-rule-preserved g c = all_more (matches_some g.T.Covers.covers c.args.device.now) c.args.rules.now c.loop-rule.rule-index c.rule-item.result c.covers_some.result c.loop-rule-test.true c.rule-item.is c.covers_some.ensures c.if-not-covers_some.false c.loop-rule.invariant

pub returns-then-not-covers_some : goal.returns-then-not-covers_some
returns-then-not-covers_some g c = all_failed (matches_some g.T.Covers.covers c.args.device.now) c.args.rules.now c.loop-rule.rule-index c.rule-item.result c.covers_some.result c.loop-rule-test.true c.rule-item.is c.covers_some.ensures c.if-not-covers_some.true

pub returns : goal.returns
returns g c = all_end (matches_some g.T.Covers.covers c.args.device.now) c.args.rules.now c.loop-rule.rule-index c.loop-rule-test.false c.loop-rule.invariant
