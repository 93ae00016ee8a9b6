use Rattle.std.proofs.Common.{refl, arith}
use Rattle.ug_match.proofs.Passing.{pair_passes, pair_fails, pairs_end}
use Rattle.ug_match.proofs.operators.covers_in_order.Goals as goal

pub loop-i-init : goal.loop-i-init
loop-i-init g c = refl

pub loop-i-preserved : goal.loop-i-preserved
loop-i-preserved g c = pair_passes g.T.Covers.covers c.args.rules.now c.args.device.now c.loop-i.i c.index-rules-i.result c.index-device-i.result c.covers.result (omega arith) (omega arith) c.index-rules-i.is c.index-device-i.is c.covers.ensures c.if-not-covers.false c.loop-i.invariant

pub returns-then-not-covers : goal.returns-then-not-covers
returns-then-not-covers g c = pair_fails g.T.Covers.covers c.args.rules.now c.args.device.now c.loop-i.i c.index-rules-i.result c.index-device-i.result c.covers.result (omega arith) (omega arith) c.index-rules-i.is c.index-device-i.is c.covers.ensures c.if-not-covers.true c.loop-i.invariant

pub returns : goal.returns
returns g c = pairs_end g.T.Covers.covers c.args.rules.now c.args.device.now c.loop-i.i (omega arith) (omega arith) c.loop-i.invariant
