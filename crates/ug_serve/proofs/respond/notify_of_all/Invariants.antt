use Rattle.std.proofs.Common.{◌≡◌, take}
use Rattle.ug_serve.specs.Responses.{Notifies}
use Rattle.ug_serve.proofs.respond.notify_of_all.Given as goal

abbrev pub invariant-loop-entry : goal.invariant-loop-entry
invariant-loop-entry l = record {
  principals : l.server.principals ≡ l.fn.server.principals;
  listeners : l.server.listeners ≡ l.fn.server.listeners;
  sessions : Notifies l.acl (take l.entry-index l.entries) l.fn.server.sessions l.server.sessions;
}
