use Rattle.std.proofs.Common.{refl, sym, subst}
use Rattle.ug_audit.specs.Journal.{noted_in}
use Rattle.ug_table.specs.State.{State, state_of}
use Rattle.ug_table.specs.One.{ResettlesOne}
use Rattle.ug_table.proofs.Loops.{same_state}
use Rattle.ug_table.proofs.NamedStandings.{stands_at}
use Rattle.ug_table.proofs.One.{numbered_part, told_resettles, numbered_leaves, needs_room}
use Rattle.ug_table.specs.Table.{TableState}
use Rattle.ug_table.specs.Order.{StandInOrder}
use Rattle.ug_table.proofs.table.Table.resettle.Goals as goal

pub returns-clause-part : goal.returns-clause-part
returns-clause-part g c s e = numbered_part g.Y.Sysfs.gives g.Y.Sysfs.calls g.Y.Sysfs.faults g.met.Y.Sysfs.counted _ _ _ s _ _ _ e c.settle_numbered.ensures.runs

pub returns-clause-law : goal.returns-clause-law
returns-clause-law g c =
    let h = c.settle_numbered in
    let w : State (Unit {0}) = state_of c.args.hub_default c.args.self.now tt (noted_in c.args.out.now).entries in
    subst (λ (v : State (Unit {0})). ResettlesOne c.args.hub_default g.Y.Sysfs.told c.args.number c.args.sysfs.now w h.new.sysfs v h.result)
    (sym (same_state h.new.self.standings h.new.self.standings _ _ _ _ tt c.args.hub_default (noted_in h.new.out).entries refl h.ensures.next h.ensures.listed))
    (told_resettles g.Y.Sysfs.gives g.Y.Sysfs.told g.met.Y.Sysfs.did c.args.hub_default c.args.number _ w _ _ h.ensures.runs)

pub returns-clause-marks : goal.returns-clause-marks
returns-clause-marks g c =
    let x = stands_at c.args.number c.args.self.now.standings _ refl c.requires.stands in
    numbered_leaves g.Y.Sysfs.gives _ c.args.self.now.next c.args.number _ x.0 _ _ _ (subst (λ (v : TableState). StandInOrder v.next v.standings) c.self.view_is c.self.invariant.0) x.1 c.settle_numbered.ensures.runs

pub returns-clause-memory : goal.returns-clause-memory
returns-clause-memory g c e =
    let x = stands_at c.args.number c.args.self.now.standings _ refl c.requires.stands in
    needs_room g.Y.Sysfs.gives _ c.args.self.now.next c.args.number _ x.0 _ _ _ (subst (λ (v : TableState). StandInOrder v.next v.standings) c.self.view_is c.self.invariant.0) x.1 c.settle_numbered.ensures.runs e
