use Rattle.std.proofs.Common.{sym, ap}
use Rattle.ug_sysfs.specs.Kin.{older_in}
use Rattle.ug_sysfs.proofs.Gets.{got, got_none}
use Rattle.ug_sysfs.proofs.kin.next_older.Goals as goal

pub returns-in-Some : goal.returns-in-Some
returns-in-Some c = sym (ap older_in (got c.args.kin.now c.args.child c.get.result c.in-Some.kin c.get.ensures.lookup c.in-Some.is))

pub returns-in-None : goal.returns-in-None
returns-in-None c = sym (ap older_in (got_none c.args.kin.now c.args.child c.get.result c.get.ensures.lookup c.in-None.is))
