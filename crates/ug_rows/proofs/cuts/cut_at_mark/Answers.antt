use Rattle.ug_rows.proofs.Cutting.{found_here, not_found, passed}
use Rattle.ug_rows.proofs.cuts.cut_at_mark.Goals as goal

pub returns-then-byte-mark-clause-some : goal.returns-then-byte-mark-clause-some
returns-then-byte-mark-clause-some c = found_here c.args.mark c.args.text.now c.loop-i.i _ c.loop-i-test.true c.if-byte-mark.true c.loop-i.invariant

pub loop-i-preserved : goal.loop-i-preserved
loop-i-preserved c = passed c.args.mark c.args.text.now c.loop-i.i _ c.loop-i-test.true c.if-byte-mark.false c.loop-i.invariant

pub returns-clause-none : goal.returns-clause-none
returns-clause-none c = not_found c.args.mark c.args.text.now c.loop-i.i c.loop-i-test.false c.loop-i.invariant
