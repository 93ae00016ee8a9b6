use Rattle.std.proofs.Common.{ℕ, Option, inl, inr, sym, ◌∙◌, ap}
use Rattle.ug_sysfs.specs.World.{read_at, read_from}
use Rattle.ug_sysfs.proofs.Gets.{got, got_none}
use Rattle.ug_sysfs.proofs.devices.read_at.Goals as goal

pub returns-in-Some-get : goal.returns-in-Some-get
returns-in-Some-get c =
    let same = ap (λ (o : Option ℕ). read_at c.args.attr o c.args.devices.now) c.in-Some.is ∙ ap (read_from c.args.attr) (got c.args.devices.now c.in-Some.i c.get.result c.in-Some-get.device c.get.ensures.lookup c.in-Some-get.is) in
    elim c.read_file.ensures [
      | inl is ↦ inl (is ∙ sym same)
      | inr is ↦ inr is
    ]

pub returns-in-None-get : goal.returns-in-None-get
returns-in-None-get c = inl (sym (ap (λ (o : Option ℕ). read_at c.args.attr o c.args.devices.now) c.in-Some.is ∙ ap (read_from c.args.attr) (got_none c.args.devices.now c.in-Some.i c.get.result c.get.ensures.lookup c.in-None-get.is)))
