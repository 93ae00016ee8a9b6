use Rattle.std.proofs.Common.{ℕ, Option, sym, ◌∙◌, ap}
use Rattle.ug_sysfs.specs.Kin.{youngest_in, youngest_under}
use Rattle.ug_sysfs.proofs.Gets.{got, got_none}
use Rattle.ug_sysfs.proofs.kin.youngest_under.Goals as goal

pub returns-in-Some-get : goal.returns-in-Some-get
returns-in-Some-get c = sym (ap (λ (o : Option ℕ). youngest_under o c.args.kin.now) c.in-Some.is ∙ ap youngest_in (got c.args.kin.now c.in-Some.parent c.get.result c.in-Some-get.kin c.get.ensures.lookup c.in-Some-get.is))

pub returns-in-None-get : goal.returns-in-None-get
returns-in-None-get c = sym (ap (λ (o : Option ℕ). youngest_under o c.args.kin.now) c.in-Some.is ∙ ap youngest_in (got_none c.args.kin.now c.in-Some.parent c.get.result c.get.ensures.lookup c.in-None-get.is))
