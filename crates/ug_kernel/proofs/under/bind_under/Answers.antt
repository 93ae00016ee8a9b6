use Rattle.std.proofs.Common.{List, ℕ, sym, subst}
use Rattle.ug_types.specs.Names.{parent_of}
use Rattle.ug_kernel.specs.Tree.{Runs}
use Rattle.ug_kernel.proofs.Grow.{some_same}
use Rattle.ug_kernel.specs.Bind.{binding_under}
use Rattle.ug_kernel.proofs.UnderShapes.{told_under, under_fault, under_in_order}
use Rattle.ug_kernel.proofs.under.bind_under.Goals as goal

pub returns-in-Some-clause-runs : goal.returns-in-Some-clause-runs
returns-in-Some-clause-runs g c above e = subst (λ (v : List ℕ). Runs g.Y.Sysfs.gives c.args.sysfs.now (binding_under c.args.name.now v c.args.parent.0) c.bind_beside.result c.bind_beside.new.sysfs) (some_same (parent_of c.args.name.now) _ above (sym c.in-Some.ensures) e) c.bind_beside.ensures

pub returns-in-Some-clause-law : goal.returns-in-Some-clause-law
returns-in-Some-clause-law g c = told_under g.Y.Sysfs.gives g.Y.Sysfs.told g.met.Y.Sysfs.did _ _ _ _ _ _ (sym c.in-Some.ensures) c.bind_beside.ensures

pub returns-in-Some-clause-fault : goal.returns-in-Some-clause-fault
returns-in-Some-clause-fault g c = under_fault g.Y.Sysfs.gives g.Y.Sysfs.calls g.Y.Sysfs.faults g.met.Y.Sysfs.counted _ _ _ _ _ _ (sym c.in-Some.ensures) c.bind_beside.ensures

pub returns-in-Some-clause-order : goal.returns-in-Some-clause-order
returns-in-Some-clause-order g c = under_in_order g.Y.Sysfs.gives _ _ _ _ _ _ (sym c.in-Some.ensures) c.bind_beside.ensures
