use Rattle.std.proofs.Common.{◌∙◌}
use Rattle.ug_serve.proofs.Notifying.{notifies_next}
use Rattle.ug_serve.proofs.respond.notify_of_all.Goals as goal

pub loop-entry-preserved : goal.loop-entry-preserved
loop-entry-preserved c = record {
  principals = c.notify_of.ensures.0 ∙ c.loop-entry.invariant.principals;
  listeners = c.notify_of.ensures.1 ∙ c.loop-entry.invariant.listeners;
  sessions = notifies_next c.args.acl.now c.args.entries.now c.loop-entry.entry-index c.entry-item.result c.args.server.now.sessions c.loop-entry.server.sessions c.notify_of.new.server.sessions c.loop-entry-test.true c.entry-item.is c.loop-entry.invariant.sessions c.notify_of.ensures.2;
}
