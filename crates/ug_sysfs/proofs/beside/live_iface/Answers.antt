use Rattle.std.proofs.Common.{ℕ, Option, sym, ◌∙◌, ap}
use Rattle.ug_sysfs.specs.Interfaces.{live_iface_at}
use Rattle.ug_sysfs.proofs.Gets.{got, got_none}
use Rattle.ug_sysfs.proofs.beside.live_iface.Goals as goal

pub returns-in-Some : goal.returns-in-Some
returns-in-Some c = c.if_iface_live.ensures ∙ sym (ap (λ (o : Option ℕ). live_iface_at o c.args.interfaces.now c.args.devices.now) (got c.args.files.now c.args.held c.get.result c.in-Some.place c.get.ensures.lookup c.in-Some.is))

pub returns-in-None : goal.returns-in-None
returns-in-None c = sym (ap (λ (o : Option ℕ). live_iface_at o c.args.interfaces.now c.args.devices.now) (got_none c.args.files.now c.args.held c.get.result c.get.ensures.lookup c.in-None.is))
