use Rattle.ug_iface.specs.Calls.{Put_off}
use Rattle.ug_sysfs.proofs.IfaceGiving.{ended_serves, refused_serves}
use Rattle.ug_sysfs.proofs.sim.iface_calls.SimKernelIfaces.write_off.Goals as goal

pub returns : goal.returns
returns c = ended_serves c.args.self.now c.enter.new.self c.write_off_now-answer.new.self c.leave.new.self (Put_off c.args.held.0) c.write_off_now-answer.result tt c.if-not-enter.ensures c.write_off_now-answer.ensures c.leave.ensures

pub returns-then-not-enter : goal.returns-then-not-enter
returns-then-not-enter c = refused_serves c.args.self.now c.enter.new.self (Put_off c.args.held.0) tt c.if-not-enter.ensures
