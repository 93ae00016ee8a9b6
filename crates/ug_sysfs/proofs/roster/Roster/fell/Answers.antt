use Rattle.std.proofs.Common.{◌≡◌, ◌<◌, true, length, not, set, sym, subst, refl, ap, ◌∙◌, arith}
use Rattle.std.proofs.lemmas.Option.{slice_get_read, same_Some}
use Rattle.ug_kernel.specs.declared.device.Device.{Device}
use Rattle.ug_sysfs.specs.Listed.{Listed}
use Rattle.ug_sysfs.specs.Devices.{with_gone}
use Rattle.ug_sysfs.specs.Living.{is_live, is_live_at}
use Rattle.ug_sysfs.proofs.Kept.{count_gone, indexed_gone, gone_at, was_gone}
use Rattle.ug_sysfs.proofs.roster.Roster.fell.Goals as goal

pub returns-then-device-clause-devices : goal.returns-then-device-clause-devices
returns-then-device-clause-devices c =
    let lt : c.args.i < length c.self.inside.all.items = subst (λ (x : Listed). c.args.i < length x.devices) (sym c.self.view_is) c.requires in
    let at = slice_get_read c.self.inside.all.items _ c.args.i _ refl lt c.index-device.ensures in
    subst (λ (x : Listed). x.devices ≡ with_gone c.args.i x.devices) c.self.view_is (was_gone c.self.inside.all.items c.args.i _ at c.if-device.true)

pub overflow_sub-self : goal.overflow_sub-self
overflow_sub-self c =
    let lt : c.args.i < length c.self.inside.all.items = subst (λ (x : Listed). c.args.i < length x.devices) (sym c.self.view_is) c.requires in
    let at = slice_get_read c.self.inside.all.items _ c.args.i _ refl lt c.index-device.ensures in
    let count = count_gone c.self.inside.all.items c.args.i c.index-device.result.now at c.if-device.false in
    omega (arith, count, c.self.invariant.live)

pub invariant_of-self : goal.invariant_of-self
invariant_of-self c =
    let lt : c.args.i < length c.self.inside.all.items = subst (λ (x : Listed). c.args.i < length x.devices) (sym c.self.view_is) c.requires in
    let at = slice_get_read c.self.inside.all.items _ c.args.i _ refl lt c.index-device.ensures in
    let am = slice_get_read c.self.inside.all.items _ c.args.i _ refl lt c.index_mut.ensures.value in
    let same : c.index_mut.result.now ≡ c.index-device.result.now = same_Some _ _ (sym am ∙ at) in
    let count = count_gone c.self.inside.all.items c.args.i c.index-device.result.now at c.if-device.false in
    indexed_gone c.self.inside _ c.args.i c.index-device.result.now c.self.invariant at c.if-device.false c.remove.ensures.updates.0 (ap (λ (x : Device). set c.self.inside.all.items c.args.i (record x { gone = true })) same) refl refl c.remove.ensures.spare (omega (arith, count, c.self.invariant.live))

pub returns-clause-live : goal.returns-clause-live
returns-clause-live c =
    let lt : c.args.i < length c.self.inside.all.items = subst (λ (x : Listed). c.args.i < length x.devices) (sym c.self.view_is) c.requires in
    let at = slice_get_read c.self.inside.all.items _ c.args.i _ refl lt c.index-device.ensures in
    sym (ap is_live at ∙ ap not c.if-device.false) ∙ ap (λ (x : Listed). is_live_at x.devices c.args.i) c.self.view_is

pub returns-clause-devices : goal.returns-clause-devices
returns-clause-devices c =
    let lt : c.args.i < length c.self.inside.all.items = subst (λ (x : Listed). c.args.i < length x.devices) (sym c.self.view_is) c.requires in
    let am = slice_get_read c.self.inside.all.items _ c.args.i _ refl lt c.index_mut.ensures.value in
    gone_at c.self.inside.all.items c.args.i c.index_mut.result.now am ∙ ap (λ (x : Listed). with_gone c.args.i x.devices) c.self.view_is
