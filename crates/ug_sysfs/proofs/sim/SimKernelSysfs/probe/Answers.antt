use Rattle.std.proofs.Common.{◌≡◌, [], ◌∷◌, sym}
use Rattle.ug_kernel.specs.Calls.{Ask_alive}
use Rattle.ug_kernel.specs.declared.record.Asked.TheVariants as asked
use Rattle.ug_kernel.specs.declared.record.CallRecord.{CallRecord}
use Rattle.ug_sysfs.specs.Reply.{calls_listed}
use Rattle.ug_sysfs.proofs.Giving.{ended_gives, lost_gives, refused_gives}
use Rattle.ug_sysfs.proofs.sim.SimKernelSysfs.probe.Goals as goal

pub returns-then-end : goal.returns-then-end
returns-then-end c =
    let made : CallRecord = record { asked = asked.Probe c.args.held; kind = c.kind_of_probe-kind.result } in
    let listed : calls_listed (Ask_alive c.args.held.0) c.probe_now-answer.result ≡ made ∷ [] = λ i. record { asked = asked.Probe c.args.held; kind = (sym c.kind_of_probe-kind.ensures) i } ∷ [] in
    ended_gives c.args.self.now c.enter.new.self c.probe_now-answer.new.self c.end.new.self (Ask_alive c.args.held.0) c.probe_now-answer.result made tt c.if-not-enter.ensures c.probe_now-answer.ensures listed c.if-end.ensures

pub returns-else-end : goal.returns-else-end
returns-else-end c =
    let made : CallRecord = record { asked = asked.Probe c.args.held; kind = c.kind_of_probe-kind.result } in
    let listed : calls_listed (Ask_alive c.args.held.0) c.probe_now-answer.result ≡ made ∷ [] = λ i. record { asked = asked.Probe c.args.held; kind = (sym c.kind_of_probe-kind.ensures) i } ∷ [] in
    lost_gives c.args.self.now c.enter.new.self c.probe_now-answer.new.self c.end.new.self (Ask_alive c.args.held.0) c.probe_now-answer.result made tt c.if-not-enter.ensures c.probe_now-answer.ensures listed c.if-end.ensures

pub returns-then-not-enter : goal.returns-then-not-enter
returns-then-not-enter c = refused_gives c.args.self.now c.enter.new.self (Ask_alive c.args.held.0) tt c.if-not-enter.ensures
