use Rattle.std.proofs.Common.{ℕ, Option, sym, ◌∙◌, ap}
use Rattle.ug_sysfs.specs.Serving.{iface_read, triple_in}
use Rattle.ug_sysfs.proofs.Gets.{got, got_none}
use Rattle.ug_sysfs.proofs.interfaces.iface_read.Goals as goal

pub returns-in-Some-get : goal.returns-in-Some-get
returns-in-Some-get c = sym (ap (λ (o : Option ℕ). iface_read o c.args.interfaces.now) c.in-Some.is ∙ ap triple_in (got c.args.interfaces.now c.in-Some.place c.get.result c.in-Some-get.interface c.get.ensures.lookup c.in-Some-get.is))

pub returns-in-None-get : goal.returns-in-None-get
returns-in-None-get c = sym (ap (λ (o : Option ℕ). iface_read o c.args.interfaces.now) c.in-Some.is ∙ ap triple_in (got_none c.args.interfaces.now c.in-Some.place c.get.result c.get.ensures.lookup c.in-None-get.is))
