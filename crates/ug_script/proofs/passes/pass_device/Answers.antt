use Rattle.std.proofs.Common.{◌≡◌, ◌++◌, ◌∷◌, [], List, sym, ◌∙◌, ap, subst}
use Rattle.ug_iface.specs.declared.settle.IfaceEntry.{IfaceEntry}
use Rattle.ug_iface.specs.Order.{iface_cmp}
use Rattle.ug_iface.specs.Settle.{Aim, RunsPass, aim_of}
use Rattle.ug_sysfs.specs.Serving.{ServesIfaces}
use Rattle.ug_sysfs.specs.World.{World}
use Rattle.ug_script.specs.Passes.{IsPassedOver, pass_tells_memory}
use Rattle.ug_script.specs.PassLines.{told_text}
use Rattle.ug_script.proofs.Folders.{ok_then}
use Rattle.ug_script.proofs.PassPlays.{device_play}
use Rattle.ug_script.proofs.PassWalk.{device_passed}
use Rattle.ug_script.proofs.passes.pass_device.Goals as goal

pub returns : goal.returns
returns c =
    let aim : Aim = aim_of c.args.rules.now c.args.device.now c.args.standing.now.number c.args.standing.now.held.0 in
    let w : World = c.args.kernel.now in
    let v : World = c.settle_ifaces-end.new.fs in
    let told : List IfaceEntry = c.settle_ifaces-end.new.out.items in
    ok_then c.push_device.result (c.push_device.new.text.items ≡ c.args.text.now.items ++ told_text aim.device.via_port c.as_slice-2.result.now c.settle_ifaces-end.result) (IsPassedOver (aim ∷ []) w c.args.text.now.items v c.push_device.new.text.items)
    (λ text. device_passed aim w c.settle_ifaces-end.result told v c.args.text.now.items c.push_device.new.text.items
    (device_play aim w c.settle_ifaces-end.result told v (subst (λ (es : List IfaceEntry). RunsPass ServesIfaces iface_cmp aim w es c.settle_ifaces-end.result told v) c.new-entries.ensures.items c.settle_ifaces-end.ensures.runs))
    (ap (pass_tells_memory c.settle_ifaces-end.result) (sym c.as_slice.ensures.value) ∙ sym c.tells_memory.ensures ∙ c.if-tells_memory.false)
    (text ∙ ap (λ (es : List IfaceEntry). c.args.text.now.items ++ told_text aim.device.via_port es c.settle_ifaces-end.result) c.as_slice-2.ensures.value))
    c.push_device.ensures
