use Rattle.std.proofs.Common.{Option, sym, ◌∙◌, ap}
use Rattle.std.proofs.lemmas.Bool.{cond-true, cond-false}
use Rattle.ug_iface.specs.declared.interface.Interface.{Interface}
use Rattle.ug_sysfs.specs.Interfaces.{if_iface_live}
use Rattle.ug_sysfs.proofs.Gets.{got, got_none}
use Rattle.ug_sysfs.proofs.beside.if_iface_live.Goals as goal

pub returns-then-interface : goal.returns-then-interface
returns-then-interface c = sym (ap (λ (o : Option Interface). if_iface_live c.args.place o c.args.devices.now) (got c.args.interfaces.now c.args.place c.get.result c.in-Some.interface c.get.ensures.lookup c.in-Some.is) ∙ cond-true c.in-Some.interface.now.gone _ _ c.if-interface.true)

pub returns-else-interface : goal.returns-else-interface
returns-else-interface c = c.if_on_live.ensures ∙ sym (ap (λ (o : Option Interface). if_iface_live c.args.place o c.args.devices.now) (got c.args.interfaces.now c.args.place c.get.result c.in-Some.interface c.get.ensures.lookup c.in-Some.is) ∙ cond-false c.in-Some.interface.now.gone _ _ c.if-interface.false)

pub returns-in-None : goal.returns-in-None
returns-in-None c = sym (ap (λ (o : Option Interface). if_iface_live c.args.place o c.args.devices.now) (got_none c.args.interfaces.now c.args.place c.get.result c.get.ensures.lookup c.in-None.is))
