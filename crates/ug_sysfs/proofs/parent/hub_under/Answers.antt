use Rattle.std.proofs.Common.{sym, ◌∙◌, ap}
use Rattle.ug_kernel.specs.Kernel.{hub_of}
use Rattle.ug_sysfs.specs.Devices.{hub_under}
use Rattle.ug_sysfs.proofs.Gets.{got, got_none}
use Rattle.ug_sysfs.proofs.parent.hub_under.Goals as goal

pub returns-in-Some-controller : goal.returns-in-Some-controller
returns-in-Some-controller c = sym (ap (hub_under c.args.parent) (got c.args.devices.now c.args.parent c.get.result c.in-Some.device c.get.ensures.lookup c.in-Some.is) ∙ ap (hub_of c.args.parent) c.in-Some-controller.is)

pub returns-in-None-controller : goal.returns-in-None-controller
returns-in-None-controller c = sym (ap (hub_under c.args.parent) (got c.args.devices.now c.args.parent c.get.result c.in-Some.device c.get.ensures.lookup c.in-Some.is) ∙ ap (hub_of c.args.parent) c.in-None-controller.is)

pub returns-in-None : goal.returns-in-None
returns-in-None c = sym (ap (hub_under c.args.parent) (got_none c.args.devices.now c.args.parent c.get.result c.get.ensures.lookup c.in-None.is))
