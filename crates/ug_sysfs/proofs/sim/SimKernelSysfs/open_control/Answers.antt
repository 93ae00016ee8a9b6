use Rattle.std.proofs.Common.{◌≡◌, [], ◌∷◌, sym}
use Rattle.ug_kernel.specs.Calls.{Open}
use Rattle.ug_kernel.specs.declared.record.Asked.TheVariants as asked
use Rattle.ug_kernel.specs.declared.record.CallRecord.{CallRecord}
use Rattle.ug_sysfs.specs.Reply.{calls_listed}
use Rattle.ug_sysfs.proofs.Giving.{ended_gives, lost_gives, refused_gives}
use Rattle.ug_sysfs.proofs.sim.SimKernelSysfs.open_control.Goals as goal

pub returns-then-end : goal.returns-then-end
returns-then-end c =
    let made : CallRecord = record { asked = asked.Open c.args.name.now c.args.control; kind = c.kind_of_opened-kind.result } in
    let listed : calls_listed (Open c.args.name.now c.args.control) c.open_now-answer.result ≡ made ∷ [] = λ i. record { asked = asked.Open c.args.name.now c.args.control; kind = (sym c.kind_of_opened-kind.ensures) i } ∷ [] in
    ended_gives c.args.self.now c.enter.new.self c.open_now-answer.new.self c.end.new.self (Open c.args.name.now c.args.control) c.open_now-answer.result made tt c.if-not-enter.ensures c.open_now-answer.ensures listed c.if-end.ensures

pub returns-else-end : goal.returns-else-end
returns-else-end c =
    let made : CallRecord = record { asked = asked.Open c.args.name.now c.args.control; kind = c.kind_of_opened-kind.result } in
    let listed : calls_listed (Open c.args.name.now c.args.control) c.open_now-answer.result ≡ made ∷ [] = λ i. record { asked = asked.Open c.args.name.now c.args.control; kind = (sym c.kind_of_opened-kind.ensures) i } ∷ [] in
    lost_gives c.args.self.now c.enter.new.self c.open_now-answer.new.self c.end.new.self (Open c.args.name.now c.args.control) c.open_now-answer.result made tt c.if-not-enter.ensures c.open_now-answer.ensures listed c.if-end.ensures

pub returns-then-not-enter : goal.returns-then-not-enter
returns-then-not-enter c = refused_gives c.args.self.now c.enter.new.self (Open c.args.name.now c.args.control) tt c.if-not-enter.ensures
