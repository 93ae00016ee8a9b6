use Rattle.std.proofs.Common.{◌<◌, ℕ, Option, length, refl, sym, ap, ◌∙◌, arith}
use Rattle.std.proofs.lemmas.Option.{slice_get_read}
use Rattle.ug_sysfs.specs.declared.kin.Kin.{Kin}
use Rattle.ug_sysfs.specs.Kin.{led_to, with_child}
use Rattle.ug_sysfs.proofs.kin.lead.Goals as goal

pub returns-then-parent-len-clause-items : goal.returns-then-parent-len-clause-items
returns-then-parent-len-clause-items c =
    let p = c.in-Some.parent in
    let kin = c.args.kin.now.items in
    let lt : p < length kin = omega arith in
    let am = slice_get_read kin _ p _ refl lt c.index_mut.ensures.value in
    sym (ap (λ (o : Option ℕ). with_child c.args.child o kin) c.in-Some.is ∙ ap (λ (o : Option Kin). led_to c.args.child p o kin) am)
