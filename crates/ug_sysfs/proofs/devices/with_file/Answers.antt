use Rattle.std.proofs.Common.{ℕ, Option, sym, ◌∙◌, ap}
use Rattle.std.proofs.lemmas.Bool.{cond-true, cond-false}
use Rattle.ug_sysfs.specs.World.{if_has, with_file}
use Rattle.ug_sysfs.proofs.Gets.{got, got_none}
use Rattle.ug_sysfs.proofs.devices.with_file.Goals as goal

pub returns-then-has_file : goal.returns-then-has_file
returns-then-has_file c = sym (ap (λ (o : Option ℕ). with_file c.args.control o c.args.devices.now) c.in-Some.is ∙ ap (if_has c.args.control c.in-Some.i) (got c.args.devices.now c.in-Some.i c.get.result c.in-Some-get.device c.get.ensures.lookup c.in-Some-get.is) ∙ cond-true _ _ _ (sym c.has_file.ensures ∙ c.if-has_file.true))

pub returns-else-has_file : goal.returns-else-has_file
returns-else-has_file c = sym (ap (λ (o : Option ℕ). with_file c.args.control o c.args.devices.now) c.in-Some.is ∙ ap (if_has c.args.control c.in-Some.i) (got c.args.devices.now c.in-Some.i c.get.result c.in-Some-get.device c.get.ensures.lookup c.in-Some-get.is) ∙ cond-false _ _ _ (sym c.has_file.ensures ∙ c.if-has_file.false))

pub returns-in-None-get : goal.returns-in-None-get
returns-in-None-get c = sym (ap (λ (o : Option ℕ). with_file c.args.control o c.args.devices.now) c.in-Some.is ∙ ap (if_has c.args.control c.in-Some.i) (got_none c.args.devices.now c.in-Some.i c.get.result c.get.ensures.lookup c.in-None-get.is))
