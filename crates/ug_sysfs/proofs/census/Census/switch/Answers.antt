use Rattle.std.proofs.Common.{sym, ◌∙◌, ap, subst, arith}
use Rattle.ug_kernel.specs.Kernel.{live_count}
use Rattle.ug_sysfs.specs.Counted.{HaveLiveParents}
use Rattle.ug_sysfs.specs.Kin.{HasKin}
use Rattle.ug_sysfs.specs.Listed.{Listed}
use Rattle.ug_sysfs.specs.Living.{Wanes}
use Rattle.ug_sysfs.specs.World.{switched}
use Rattle.ug_sysfs.proofs.Kept.{count_switched}
use Rattle.ug_sysfs.proofs.Links.{has_kin_switched, live_parents_switched}
use Rattle.ug_sysfs.proofs.Lives.{wanes_switched, wanes_then}
use Rattle.ug_sysfs.proofs.census.Census.switch.Goals as goal

pub invariant_of-self : goal.invariant_of-self
invariant_of-self c =
    let v = c.self.invariant in
    let ds = c.self.inside.roster.devices in
    let now = sym c.switch.ensures.devices in
    record {
      was = v.was;
      wanes = subst (Wanes v.was) now (wanes_then v.was ds (switched c.args.write c.args.i ds) v.wanes (wanes_switched c.args.write c.args.i ds));
      listed = v.listed;
      room = omega (arith, v.room, c.switch.ensures.room);
      kin = subst (HasKin c.self.inside.kin.items) now (has_kin_switched c.self.inside.kin.items c.args.write c.args.i ds v.kin);
      kin_room = omega (arith, v.kin_room, c.switch.ensures.room);
      parents = subst HaveLiveParents now (live_parents_switched c.args.write c.args.i ds v.parents);
    }

pub returns-clause-few : goal.returns-clause-few
returns-clause-few c = ap live_count c.switch.ensures.devices ∙ count_switched c.args.write c.args.i c.self.inside.roster.devices ∙ ap (λ (x : Listed). live_count x.devices) c.self.view_is
