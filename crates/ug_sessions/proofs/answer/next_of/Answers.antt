use Rattle.std.proofs.Common.{arith}
use Rattle.ug_sessions.proofs.Each.{each_more, each_done, rest_same}
use Rattle.ug_sessions.proofs.Handing.{hands_first}
use Rattle.ug_sessions.specs.Answering.{Passes}
use Rattle.ug_sessions.proofs.answer.next_of.Goals as goal

pub loop-i-preserved : goal.loop-i-preserved
loop-i-preserved c = record {
  front = each_more Passes c.args.sessions.now c.loop-i.sessions c.loop-i.i c.index-sessions-i.result c.next_line_of.new.session (omega (arith, c.loop-i.auto.sessions)) c.loop-i.auto.sessions c.loop-i.invariant.same c.loop-i.invariant.front c.in-None.ensures;
  same = rest_same c.args.sessions.now c.loop-i.sessions c.loop-i.i c.next_line_of.new.session c.loop-i.invariant.same;
}

pub returns : goal.returns
returns c = each_done Passes c.args.sessions.now c.loop-i.sessions c.loop-i.i (omega (arith, c.loop-i.auto.sessions)) c.loop-i.auto.sessions c.loop-i.invariant.front

pub returns-in-Some : goal.returns-in-Some
returns-in-Some c = hands_first c.args.sessions.now c.loop-i.sessions c.loop-i.i c.index-sessions-i.result c.next_line_of.new.session c.in-Some.line (omega (arith, c.loop-i.auto.sessions)) c.loop-i.invariant.same c.loop-i.invariant.front c.in-Some.ensures
