use Rattle.std.proofs.Common.{ℕ, Option, sym, ◌∙◌, ap}
use Rattle.ug_kernel.specs.Kernel.{default_in}
use Rattle.ug_sysfs.specs.Devices.{controller_default}
use Rattle.ug_sysfs.proofs.Gets.{got, got_none}
use Rattle.ug_sysfs.proofs.parent.controller_default.Goals as goal

pub returns-in-Some-get : goal.returns-in-Some-get
returns-in-Some-get c = sym (ap (λ (o : Option ℕ). controller_default o c.args.devices.now) c.in-Some.is ∙ ap default_in (got c.args.devices.now c.in-Some.controller c.get.result c.in-Some-get.device c.get.ensures.lookup c.in-Some-get.is))

pub returns-in-None-get : goal.returns-in-None-get
returns-in-None-get c = sym (ap (λ (o : Option ℕ). controller_default o c.args.devices.now) c.in-Some.is ∙ ap default_in (got_none c.args.devices.now c.in-Some.controller c.get.result c.get.ensures.lookup c.in-None-get.is))
