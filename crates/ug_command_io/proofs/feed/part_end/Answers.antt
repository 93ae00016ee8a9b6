use Rattle.std.proofs.Common.{arith, ◌-◌, length}
use Rattle.ug_lines.proofs.Splitting.{line-take_more, line-take_all}
use Rattle.ug_command_io.proofs.feed.part_end.Goals as goal

pub loop-i-preserved : goal.loop-i-preserved
loop-i-preserved c = record {
  within = omega arith;
  front = line-take_more c.args.bytes.now c.loop-i.i c.loop-i-test.true c.loop-i.invariant.front c.if-bytes-i-eq10.false;
}

pub returns-clause-front : goal.returns-clause-front
returns-clause-front c = line-take_all c.args.bytes.now c.loop-i.i (length c.args.bytes.now - 1) (omega arith) c.loop-i.invariant.front
