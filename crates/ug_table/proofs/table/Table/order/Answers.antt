use Rattle.std.proofs.Common.{None, refl, sym, subst}
use Rattle.ug_audit.specs.Journal.{noted_in}
use Rattle.ug_table.specs.State.{State, state_of}
use Rattle.ug_table.specs.Order.{StandInOrder}
use Rattle.ug_table.specs.Orders.{OrdersOne}
use Rattle.ug_table.specs.Table.{TableState}
use Rattle.ug_table.proofs.Loops.{same_state}
use Rattle.ug_table.proofs.Ordered.{order_part, order_marks, order_verdict, order_short, told_orders}
use Rattle.ug_table.proofs.NamedStandings.{stands_at}
use Rattle.ug_table.proofs.table.Table.order.Goals as goal

pub returns-clause-part : goal.returns-clause-part
returns-clause-part g c s e = order_part g.Y.Sysfs.gives g.Y.Sysfs.calls g.Y.Sysfs.faults g.met.Y.Sysfs.counted c.args.self.now.next c.args.number c.args.verdict c.args.who c.args.on _ s _ _ _ (subst (λ (v : TableState). StandInOrder v.next v.standings) c.self.view_is c.self.invariant.0) e c.order_numbered.ensures.runs

pub returns-clause-law : goal.returns-clause-law
returns-clause-law g c =
    let h = c.order_numbered in
    let w : State (Unit {0}) = state_of None c.args.self.now tt (noted_in c.args.out.now).entries in
    subst (λ (v : State (Unit {0})). OrdersOne g.Y.Sysfs.told c.args.number c.args.verdict c.args.who c.args.on c.args.sysfs.now w h.new.sysfs v h.result)
    (sym (same_state h.new.self.standings h.new.self.standings _ _ _ _ tt None (noted_in h.new.out).entries refl h.ensures.next h.ensures.listed))
    (told_orders g.Y.Sysfs.gives g.Y.Sysfs.told g.met.Y.Sysfs.did c.args.number c.args.verdict c.args.who c.args.on _ w _ _ h.ensures.runs)

pub returns-clause-verdict : goal.returns-clause-verdict
returns-clause-verdict g c = order_verdict g.Y.Sysfs.gives c.args.self.now.next c.args.number c.args.verdict c.args.who c.args.on _ _ _ _ (subst (λ (v : TableState). StandInOrder v.next v.standings) c.self.view_is c.self.invariant.0) c.order_numbered.ensures.runs

pub returns-clause-marks : goal.returns-clause-marks
returns-clause-marks g c =
    let x = stands_at c.args.number c.args.self.now.standings _ refl c.requires.stands in
    order_marks g.Y.Sysfs.gives c.args.self.now.next c.args.number c.args.verdict c.args.who c.args.on _ x.0 _ _ _ (subst (λ (v : TableState). StandInOrder v.next v.standings) c.self.view_is c.self.invariant.0) x.1 c.order_numbered.ensures.runs

pub returns-clause-memory : goal.returns-clause-memory
returns-clause-memory g c e =
    let x = stands_at c.args.number c.args.self.now.standings _ refl c.requires.stands in
    order_short g.Y.Sysfs.gives c.args.number c.args.verdict c.args.who c.args.on _ x.0 _ _ _ x.1 c.order_numbered.ensures.runs e
