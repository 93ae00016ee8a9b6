use Rattle.std.proofs.Common.{arith}
use Rattle.ug_types.proofs.Parents.{dash_found, no_dash_more}
use Rattle.ug_types.proofs.marks.first_dash.Goals as goal

pub returns-then-byte-eq45-clause-front : goal.returns-then-byte-eq45-clause-front
returns-then-byte-eq45-clause-front c = dash_found c.args.text.now c.loop-i.i (omega arith) c.loop-i.invariant c.if-byte-eq45.true

pub loop-i-preserved : goal.loop-i-preserved
loop-i-preserved c = no_dash_more c.args.text.now c.loop-i.i (omega arith) c.loop-i.invariant c.if-byte-eq45.false
