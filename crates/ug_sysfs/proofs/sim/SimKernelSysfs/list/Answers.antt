use Rattle.std.proofs.Common.{◌≡◌, [], ◌∷◌, sym}
use Rattle.ug_kernel.specs.Calls.{Names}
use Rattle.ug_kernel.specs.declared.record.Asked.TheVariants as asked
use Rattle.ug_kernel.specs.declared.record.CallRecord.{CallRecord}
use Rattle.ug_sysfs.specs.Reply.{calls_listed}
use Rattle.ug_sysfs.proofs.Giving.{ended_gives, lost_gives, refused_gives}
use Rattle.ug_sysfs.proofs.sim.SimKernelSysfs.list.Goals as goal

pub returns-then-end : goal.returns-then-end
returns-then-end c =
    let made : CallRecord = record { asked = asked.List; kind = c.kind_of_listing-kind.result } in
    let listed : calls_listed Names c.list_now-answer.result ≡ made ∷ [] = λ i. record { asked = asked.List; kind = (sym c.kind_of_listing-kind.ensures) i } ∷ [] in
    record {
      gives = ended_gives c.args.self.now c.enter.new.self c.list_now-answer.new.self c.end.new.self Names c.list_now-answer.result made tt c.if-not-enter.ensures c.list_now-answer.ensures.effects listed c.if-end.ensures;
      few = c.list_now-answer.ensures.few;
      distinct = c.list_now-answer.ensures.distinct;
    }

pub returns-else-end : goal.returns-else-end
returns-else-end c =
    let made : CallRecord = record { asked = asked.List; kind = c.kind_of_listing-kind.result } in
    let listed : calls_listed Names c.list_now-answer.result ≡ made ∷ [] = λ i. record { asked = asked.List; kind = (sym c.kind_of_listing-kind.ensures) i } ∷ [] in
    record {
      gives = lost_gives c.args.self.now c.enter.new.self c.list_now-answer.new.self c.end.new.self Names c.list_now-answer.result made tt c.if-not-enter.ensures c.list_now-answer.ensures.effects listed c.if-end.ensures;
      few = tt;
      distinct = tt;
    }

pub returns-then-not-enter : goal.returns-then-not-enter
returns-then-not-enter c = record {
  gives = refused_gives c.args.self.now c.enter.new.self Names tt c.if-not-enter.ensures;
  few = tt;
  distinct = tt;
}
