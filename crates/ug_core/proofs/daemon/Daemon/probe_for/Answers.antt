use Rattle.std.proofs.Common.{ℕ, List, Bool, Option, refl, sym, ap, subst, ◌∙◌}
use Rattle.ug_kernel.specs.Tree.{Runs}
use Rattle.ug_table.specs.declared.standing.Standing.{Standing}
use Rattle.ug_core.specs.Answering.{by_permanent, by_standing, only}
use Rattle.ug_core.specs.declared.choosing.Deed.TheVariants as deed
use Rattle.ug_core.specs.Policy.{judging_of}
use Rattle.ug_core.proofs.Probing.{chosen_runs, stands_so}
use Rattle.ug_core.proofs.daemon.Daemon.probe_for.Goals as goal

pub returns-in-Alive-clause-runs : goal.returns-in-Alive-clause-runs
returns-in-Alive-clause-runs g c =
    let p = judging_of g.Z.Zone.clock g.R.Rng.stream c.args.self.now.policy in
    let x = stands_so c.args.number c.args.self.now.table.standings c.args.judged.now c.requires in
    let runs : Runs g.Y.Sysfs.gives c.probe.new.sysfs (by_permanent p c.args.number c.args.verdict c.args.permanent x.0 c.in-Alive.on) c.choose_for_good.result c.probe.new.sysfs =
    subst (λ (b : Bool). Runs g.Y.Sysfs.gives c.probe.new.sysfs (by_permanent p c.args.number c.args.verdict b x.0 c.in-Alive.on) c.choose_for_good.result c.probe.new.sysfs) (sym c.if-permanent.true)
    (chosen_runs g.Y.Sysfs.gives c.probe.new.sysfs p c.args.number c.args.verdict c.in-Alive.on c.choose_for_good.result c.args.judged.now x.0.judged x.2 c.choose_for_good.ensures.chosen) in
    subst (λ (o : Option Standing). Runs g.Y.Sysfs.gives c.args.sysfs.now (by_standing p c.args.number c.args.verdict c.args.permanent o) c.choose_for_good.result c.probe.new.sysfs) (sym x.1)
    (_, c.probe.new.sysfs, c.in-Alive.ensures.call x.0 x.1, runs)

pub returns-in-Alive-2-clause-runs : goal.returns-in-Alive-2-clause-runs
returns-in-Alive-2-clause-runs g c =
    let p = judging_of g.Z.Zone.clock g.R.Rng.stream c.args.self.now.policy in
    let x = stands_so c.args.number c.args.self.now.table.standings c.args.judged.now c.requires in
    subst (λ (o : Option Standing). Runs g.Y.Sysfs.gives c.args.sysfs.now (by_standing p c.args.number c.args.verdict c.args.permanent o) c.only.result c.probe.new.sysfs) (sym x.1)
    (_, c.probe.new.sysfs, c.in-Alive.ensures.call x.0 x.1, subst (λ (b : Bool). Runs g.Y.Sysfs.gives c.probe.new.sysfs (by_permanent p c.args.number c.args.verdict b x.0 c.in-Alive.on) c.only.result c.probe.new.sysfs) (sym c.if-permanent.false) (c.only.ensures ∙ ap (λ (ls : List (List ℕ)). only (deed.SetVerdict c.args.number c.args.verdict c.in-Alive.on ls)) c.new.ensures, refl))

pub returns-in-Gone-clause-runs : goal.returns-in-Gone-clause-runs
returns-in-Gone-clause-runs g c =
    let p = judging_of g.Z.Zone.clock g.R.Rng.stream c.args.self.now.policy in
    let x = stands_so c.args.number c.args.self.now.table.standings c.args.judged.now c.requires in
    subst (λ (o : Option Standing). Runs g.Y.Sysfs.gives c.args.sysfs.now (by_standing p c.args.number c.args.verdict c.args.permanent o) c.refuse.result c.probe.new.sysfs) (sym x.1) (_, c.probe.new.sysfs, c.in-Gone.ensures.call x.0 x.1, (c.refuse.ensures, refl))

pub returns-in-Failed-clause-runs : goal.returns-in-Failed-clause-runs
returns-in-Failed-clause-runs g c =
    let p = judging_of g.Z.Zone.clock g.R.Rng.stream c.args.self.now.policy in
    let x = stands_so c.args.number c.args.self.now.table.standings c.args.judged.now c.requires in
    subst (λ (o : Option Standing). Runs g.Y.Sysfs.gives c.args.sysfs.now (by_standing p c.args.number c.args.verdict c.args.permanent o) c.refuse-in-Failed.result c.probe.new.sysfs) (sym x.1) (_, c.probe.new.sysfs, c.in-Failed.ensures.call x.0 x.1, (cc, refl))
