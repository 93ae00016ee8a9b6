use Rattle.std.proofs.Common.{◌≡◌, ◌<◌, ◌+◌, ◌-◌, true, sym, ◌∙◌, subst, arith}
use Rattle.ug_sysfs.specs.Interfaces.{IfaceList, can_add}
use Rattle.ug_sysfs.proofs.Apart.{holds_added}
use Rattle.ug_sysfs.proofs.interfaces.Interfaces.add.Goals as goal

pub invariant_of-self : goal.invariant_of-self
invariant_of-self c =
    let can : can_add c.args.device c.args.new.name c.self.inside.all.items ≡ true = subst (λ (x : IfaceList). can_add c.args.device c.args.new.name x.interfaces ≡ true) (sym c.self.view_is) (sym c.can_add.ensures ∙ c.if-can_add.true) in
    let room : 0 < c.self.inside.room = subst (λ (x : IfaceList). 0 < x.room) (sym c.self.view_is) c.requires.room in
    let less : c.self.inside.room - 1 + 1 ≡ c.self.inside.room = omega (arith, room) in
    holds_added c.self.inside _ c.args.device c.args.new c.self.invariant can room c.push_reserved.ensures.items less c.push_reserved.ensures.capacity
