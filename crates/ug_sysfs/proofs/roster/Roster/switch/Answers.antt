use Rattle.std.proofs.Common.{◌<◌, length, set, refl, ap, ◌∙◌, arith}
use Rattle.std.proofs.lemmas.Option.{slice_get_read}
use Rattle.ug_sysfs.specs.Listed.{Listed}
use Rattle.ug_sysfs.specs.World.{switched}
use Rattle.ug_sysfs.proofs.Kept.{indexed_switched, switched_at}
use Rattle.ug_sysfs.proofs.roster.Roster.switch.Goals as goal

pub invariant_of-self : goal.invariant_of-self
invariant_of-self c =
    let lt : c.args.i < length c.self.inside.all.items = omega (arith, c.if-i-len.true, c.len.ensures, c.self.inside.all.ok.0) in
    let am = slice_get_read c.self.inside.all.items _ c.args.i _ refl lt c.index_mut.ensures.value in
    indexed_switched c.self.inside _ c.args.i c.index_mut.result.now c.args.write c.self.invariant am refl (ap (set c.self.inside.all.items c.args.i) c.switch_device.ensures) refl refl refl

pub returns-then-i-len-clause-devices : goal.returns-then-i-len-clause-devices
returns-then-i-len-clause-devices c =
    let lt : c.args.i < length c.self.inside.all.items = omega (arith, c.if-i-len.true, c.len.ensures, c.self.inside.all.ok.0) in
    let am = slice_get_read c.self.inside.all.items _ c.args.i _ refl lt c.index_mut.ensures.value in
    ap (set c.self.inside.all.items c.args.i) c.switch_device.ensures
    ∙ switched_at c.args.write c.args.i c.self.inside.all.items c.index_mut.result.now am
    ∙ ap (λ (x : Listed). switched c.args.write c.args.i x.devices) c.self.view_is
