use Rattle.ug_iface.specs.Calls.{Ask}
use Rattle.ug_sysfs.proofs.IfaceGiving.{ended_serves, refused_serves}
use Rattle.ug_sysfs.proofs.sim.iface_calls.SimKernelIfaces.probe_iface.Goals as goal

pub returns : goal.returns
returns c = ended_serves c.args.self.now c.enter.new.self c.probe_iface_now-answer.new.self c.leave.new.self (Ask c.args.held.0) c.probe_iface_now-answer.result tt c.if-not-enter.ensures c.probe_iface_now-answer.ensures c.leave.ensures

pub returns-then-not-enter : goal.returns-then-not-enter
returns-then-not-enter c = refused_serves c.args.self.now c.enter.new.self (Ask c.args.held.0) tt c.if-not-enter.ensures
