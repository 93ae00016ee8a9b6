use Rattle.std.proofs.Common.{ℕ, Option, sym, ◌∙◌, ap}
use Rattle.ug_sysfs.specs.World.{alive_of, probed_at}
use Rattle.ug_sysfs.proofs.Gets.{got, got_none}
use Rattle.ug_sysfs.proofs.devices.probed_at.Goals as goal

pub returns-in-Some-get : goal.returns-in-Some-get
returns-in-Some-get c = sym (ap (λ (o : Option ℕ). probed_at o c.args.devices.now) c.in-Some.is ∙ ap alive_of (got c.args.devices.now c.in-Some.i c.get.result c.in-Some-get.device c.get.ensures.lookup c.in-Some-get.is))

pub returns-in-None-get : goal.returns-in-None-get
returns-in-None-get c = sym (ap (λ (o : Option ℕ). probed_at o c.args.devices.now) c.in-Some.is ∙ ap alive_of (got_none c.args.devices.now c.in-Some.i c.get.result c.get.ensures.lookup c.in-None-get.is))
