use Rattle.std.proofs.Common.{arith}
use Rattle.ug_lines.proofs.FirstLine.{line_longer, line_ended, line_last}
use Rattle.ug_lines.proofs.first_line.next_line.Goals as goal

pub returns-then-byte-eq10-clause-lines : goal.returns-then-byte-eq10-clause-lines
returns-then-byte-eq10-clause-lines c = line_ended c.loop-i.i c.args.text.now (omega arith) c.if-byte-eq10.true c.loop-i.invariant

pub loop-i-preserved : goal.loop-i-preserved
loop-i-preserved c = line_longer c.loop-i.i c.args.text.now (omega arith) c.if-byte-eq10.false c.loop-i.invariant

pub returns-clause-lines : goal.returns-clause-lines
returns-clause-lines c = line_last c.loop-i.i c.args.text.now c.requires (omega arith) c.loop-i.invariant
