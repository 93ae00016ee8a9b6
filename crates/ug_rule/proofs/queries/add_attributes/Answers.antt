use Rattle.std.proofs.Common.{arith}
use Rattle.ug_rule.proofs.Attributes.{goes_on, stops, ends}
use Rattle.ug_rule.proofs.queries.add_attributes.Goals as goal

pub loop-named-preserved : goal.loop-named-preserved
loop-named-preserved c = record {
  here = goes_on c.loop-named.invariant.here.0 c.args.line.now c.args.ending c.loop-named.query c.loop-named.tokens c.next_name.new.tokens c.in-Some.named c.add_once.new.query c.add_once.new.tokens _ c.in-Some.ensures.is c.in-Some.ensures.shorter c.loop-named.invariant.here.1 c.in-Ok.ensures.is c.add_once.ensures.shorter c.loop-named.invariant.here.2;
  shorter = omega (arith, c.add_once.ensures.shorter, c.in-Some.ensures.shorter, c.loop-named.invariant.shorter);
}

pub returns-in-Err-clause-is : goal.returns-in-Err-clause-is
returns-in-Err-clause-is c = stops c.loop-named.invariant.here.0 c.args.line.now c.args.ending c.loop-named.query c.loop-named.tokens c.next_name.new.tokens c.in-Some.named c.in-Err.stop c.add_once.new.query c.add_once.new.tokens _ c.in-Some.ensures.is c.in-Some.ensures.shorter c.loop-named.invariant.here.1 c.in-Err.ensures.is c.loop-named.invariant.here.2

pub returns-clause-is : goal.returns-clause-is
returns-clause-is c = ends c.loop-named.invariant.here.0 c.args.line.now c.args.ending c.loop-named.query c.loop-named.tokens c.next_name.new.tokens _ c.in_default.ensures.is c.loop-named.invariant.here.1 c.loop-named.invariant.here.2
