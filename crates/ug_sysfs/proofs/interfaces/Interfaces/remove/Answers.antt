use Rattle.std.proofs.Common.{◌<◌, length, refl, ◌∙◌, ap, arith}
use Rattle.std.proofs.lemmas.Option.{slice_get_read}
use Rattle.ug_sysfs.specs.Interfaces.{IfaceList, with_iface_gone}
use Rattle.ug_sysfs.proofs.Apart.{holds_set, gone_stays, gone_at_place}
use Rattle.ug_sysfs.proofs.interfaces.Interfaces.remove.Goals as goal

pub invariant_of-self : goal.invariant_of-self
invariant_of-self c =
    let lt : c.args.place < length c.self.inside.all.items = omega (arith, c.if-place-len.true, c.len.ensures, c.self.inside.all.ok.0) in
    let am = slice_get_read c.self.inside.all.items _ c.args.place _ refl lt c.index_mut.ensures.value in
    holds_set c.self.inside _ c.args.place c.index_mut.result.now _ c.self.invariant am (gone_stays c.index_mut.result.now) refl refl refl

pub returns-then-place-len-clause-interfaces : goal.returns-then-place-len-clause-interfaces
returns-then-place-len-clause-interfaces c =
    let lt : c.args.place < length c.self.inside.all.items = omega (arith, c.if-place-len.true, c.len.ensures, c.self.inside.all.ok.0) in
    let am = slice_get_read c.self.inside.all.items _ c.args.place _ refl lt c.index_mut.ensures.value in
    gone_at_place c.self.inside.all.items c.args.place c.index_mut.result.now am
    ∙ ap (λ (x : IfaceList). with_iface_gone c.args.place x.interfaces) c.self.view_is
