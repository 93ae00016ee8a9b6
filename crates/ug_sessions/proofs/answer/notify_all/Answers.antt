use Rattle.std.proofs.Common.{arith}
use Rattle.ug_sessions.proofs.Each.{each_more, each_done, rest_same}
use Rattle.ug_sessions.specs.Answering.{NoticesOne, may_listen}
use Rattle.ug_sessions.proofs.answer.notify_all.Goals as goal

pub loop-i-preserved : goal.loop-i-preserved
loop-i-preserved c = record {
  front = each_more (NoticesOne (may_listen c.args.acl.now c.args.section) c.args.text.now) c.args.sessions.now c.loop-i.sessions c.loop-i.i c.index-sessions-i.result c.notify_one.new.session (omega (arith, c.loop-i.auto.sessions)) c.loop-i.auto.sessions c.loop-i.invariant.same c.loop-i.invariant.front c.notify_one.ensures;
  same = rest_same c.args.sessions.now c.loop-i.sessions c.loop-i.i c.notify_one.new.session c.loop-i.invariant.same;
}

pub returns : goal.returns
returns c = each_done (NoticesOne (may_listen c.args.acl.now c.args.section) c.args.text.now) c.args.sessions.now c.loop-i.sessions c.loop-i.i (omega (arith, c.loop-i.auto.sessions)) c.loop-i.auto.sessions c.loop-i.invariant.front
