use Rattle.ug_types.proofs.Listed.{listed_here, listed_behind, listed_nowhere}
use Rattle.ug_types.proofs.memory.is_listed.Goals as goal

pub returns-then-n-number : goal.returns-then-n-number
returns-then-n-number c = listed_here c.args.numbers.now c.loop-n.n-index c.args.number c.loop-n-test.true c.if-n-number.true c.loop-n.invariant

pub loop-n-preserved : goal.loop-n-preserved
loop-n-preserved c = listed_behind c.args.numbers.now c.loop-n.n-index c.args.number c.loop-n-test.true c.if-n-number.false c.loop-n.invariant

pub returns : goal.returns
returns c = listed_nowhere c.args.numbers.now c.loop-n.n-index c.args.number c.loop-n-test.false c.loop-n.invariant
