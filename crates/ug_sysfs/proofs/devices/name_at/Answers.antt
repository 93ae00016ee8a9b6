use Rattle.std.proofs.Common.{sym, ◌∙◌, ap}
use Rattle.std.proofs.lemmas.Bool.{cond-true, cond-false}
use Rattle.ug_sysfs.specs.Living.{live_name}
use Rattle.ug_sysfs.proofs.Gets.{got, got_none}
use Rattle.ug_sysfs.proofs.devices.name_at.Goals as goal

pub returns-then-device : goal.returns-then-device
returns-then-device c = sym (ap live_name (got c.args.devices.now c.args.place c.get.result c.in-Some.device c.get.ensures.lookup c.in-Some.is) ∙ cond-true c.in-Some.device.now.gone _ _ c.if-device.true)

pub returns-else-device : goal.returns-else-device
returns-else-device c = sym (ap live_name (got c.args.devices.now c.args.place c.get.result c.in-Some.device c.get.ensures.lookup c.in-Some.is) ∙ cond-false c.in-Some.device.now.gone _ _ c.if-device.false)

pub returns-in-None : goal.returns-in-None
returns-in-None c = sym (ap live_name (got_none c.args.devices.now c.args.place c.get.result c.get.ensures.lookup c.in-None.is))
