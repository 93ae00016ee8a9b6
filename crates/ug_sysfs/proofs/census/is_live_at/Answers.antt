use Rattle.std.proofs.Common.{sym, ap}
use Rattle.ug_sysfs.specs.Living.{is_live}
use Rattle.ug_sysfs.proofs.Gets.{got, got_none}
use Rattle.ug_sysfs.proofs.census.is_live_at.Goals as goal

pub returns-in-Some : goal.returns-in-Some
returns-in-Some c = sym (ap is_live (got c.args.devices.now c.args.place c.get.result c.in-Some.device c.get.ensures.lookup c.in-Some.is))

pub returns-in-None : goal.returns-in-None
returns-in-None c = sym (ap is_live (got_none c.args.devices.now c.args.place c.get.result c.get.ensures.lookup c.in-None.is))
