use Rattle.ug_iface.specs.Calls.{Names_of}
use Rattle.ug_sysfs.proofs.IfaceGiving.{ended_serves, refused_serves}
use Rattle.ug_sysfs.proofs.sim.iface_calls.SimKernelIfaces.list_ifaces.Goals as goal

pub returns : goal.returns
returns c = record {
  serves = ended_serves c.args.self.now c.enter.new.self c.list_ifaces_now-answer.new.self c.leave.new.self (Names_of c.args.name.now) c.list_ifaces_now-answer.result tt c.if-not-enter.ensures c.list_ifaces_now-answer.ensures.effects c.leave.ensures;
  few = c.list_ifaces_now-answer.ensures.few;
  named = c.list_ifaces_now-answer.ensures.named;
  distinct = c.list_ifaces_now-answer.ensures.distinct;
}

pub returns-then-not-enter : goal.returns-then-not-enter
returns-then-not-enter c = record {
  serves = refused_serves c.args.self.now c.enter.new.self (Names_of c.args.name.now) tt c.if-not-enter.ensures;
  few = tt;
  named = tt;
  distinct = tt;
}
