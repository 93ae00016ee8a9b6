use Rattle.std.proofs.Common.{Option, sym, ◌∙◌, ap}
use Rattle.std.proofs.lemmas.Bool.{cond-true, cond-false}
use Rattle.ug_kernel.specs.declared.device.HeldFile.{HeldFile}
use Rattle.ug_sysfs.specs.World.{if_live, live_place}
use Rattle.ug_sysfs.proofs.Gets.{got, got_none}
use Rattle.ug_sysfs.proofs.devices.live_held.Goals as goal

pub returns-then-device : goal.returns-then-device
returns-then-device c = sym (ap (λ (o : Option HeldFile). live_place o c.args.devices.now) (got c.args.held.now c.args.number c.get.result c.in-Some.file c.get.ensures.lookup c.in-Some.is) ∙ ap (if_live c.in-Some.file.now.device) (got c.args.devices.now c.in-Some.file.now.device c.get-in-Some.result c.in-Some-get.device c.get-in-Some.ensures.lookup c.in-Some-get.is) ∙ cond-true c.in-Some-get.device.now.gone _ _ c.if-device.true)

pub returns-else-device : goal.returns-else-device
returns-else-device c = sym (ap (λ (o : Option HeldFile). live_place o c.args.devices.now) (got c.args.held.now c.args.number c.get.result c.in-Some.file c.get.ensures.lookup c.in-Some.is) ∙ ap (if_live c.in-Some.file.now.device) (got c.args.devices.now c.in-Some.file.now.device c.get-in-Some.result c.in-Some-get.device c.get-in-Some.ensures.lookup c.in-Some-get.is) ∙ cond-false c.in-Some-get.device.now.gone _ _ c.if-device.false)

pub returns-in-None-get : goal.returns-in-None-get
returns-in-None-get c = sym (ap (λ (o : Option HeldFile). live_place o c.args.devices.now) (got c.args.held.now c.args.number c.get.result c.in-Some.file c.get.ensures.lookup c.in-Some.is) ∙ ap (if_live c.in-Some.file.now.device) (got_none c.args.devices.now c.in-Some.file.now.device c.get-in-Some.result c.get-in-Some.ensures.lookup c.in-None-get.is))

pub returns-in-None : goal.returns-in-None
returns-in-None c = sym (ap (λ (o : Option HeldFile). live_place o c.args.devices.now) (got_none c.args.held.now c.args.number c.get.result c.get.ensures.lookup c.in-None.is))
