use Rattle.std.proofs.Common.{◌<◌, length, take, drop, ◌∙◌, ap, arith}
use Rattle.ug_kernel.specs.Kernel.{live_count}
use Rattle.ug_kernel.proofs.Stayed.{live_count_begins}
use Rattle.ug_sysfs.specs.Devices.{fall}
use Rattle.ug_sysfs.specs.Listed.{Listed}
use Rattle.ug_sysfs.proofs.Links.{fells_fall, has_kin_begins, tree_fells, tree_of_kin}
use Rattle.ug_sysfs.proofs.Lives.{wanes_begins, wanes_then}
use Rattle.ug_sysfs.proofs.census.Census.unplug.Goals as goal

pub invariant_of-self : goal.invariant_of-self
invariant_of-self c =
    let v = c.self.invariant in
    let ds = c.self.inside.roster.devices in
    let es = c.fell.new.roster.devices in
    let w = c.fell.ensures.devices in
    record {
      was = v.was;
      wanes = wanes_then v.was ds es v.wanes (wanes_begins ds es w.facts w.number);
      listed = v.listed;
      room = omega (arith, v.room, c.fell.ensures.room);
      kin = has_kin_begins c.self.inside.kin.items ds es w.facts w.number v.kin;
      kin_room = omega (arith, v.kin_room, c.fell.ensures.room);
      parents = (tree_fells c.args.target ds es (tree_of_kin c.self.inside.kin.items ds v.kin v.parents) w).parents;
    }

pub returns-then-target-len-clause-devices : goal.returns-then-target-len-clause-devices
returns-then-target-len-clause-devices c =
    let v = c.self.invariant in
    let t = c.args.target in
    let ds = c.self.inside.roster.devices in
    let es = c.fell.new.roster.devices in
    let lt : t < length ds = omega (arith, c.if-target-len.true, c.len.ensures, c.self.inside.kin.ok.0, v.kin.number) in
    ap (λ (x : Listed). x.devices) c.tidy.ensures
    ∙ fells_fall t ds es lt (tree_of_kin c.self.inside.kin.items ds v.kin v.parents) c.fell.ensures.devices
    ∙ ap (λ (x : Listed). fall t (take t x.devices) (drop t x.devices)) c.self.view_is

pub returns-then-target-len-clause-few : goal.returns-then-target-len-clause-few
returns-then-target-len-clause-few c =
    let w = c.fell.ensures.devices in
    let less = live_count_begins c.self.inside.roster.devices c.fell.new.roster.devices w.facts w.number in
    omega (arith, less, ap (λ (x : Listed). live_count x.devices) c.tidy.ensures, ap (λ (x : Listed). live_count x.devices) c.self.view_is)
