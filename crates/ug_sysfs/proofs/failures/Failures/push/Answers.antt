use Rattle.std.proofs.Common.{Bool, cond, eqb, List, [], ◌∷◌, ◌++◌, Option, Some, None, nat_cmp, sym, ◌∙◌, ap}
use Rattle.std.specs.BTreeMap.{get}
use Rattle.std.specs.Cmp.{unsigned_tied}
use Rattle.ug_sysfs.specs.declared.script.Failing.{Failing}
use Rattle.ug_sysfs.specs.World.{fate}
use Rattle.ug_sysfs.proofs.Fates.{fate_push}
use Rattle.ug_sysfs.proofs.failures.Failures.push.Goals as goal

pub invariant_of-self-2 : goal.invariant_of-self-2
invariant_of-self-2 c =
    let f = c.args.failing in
    λ n. c.in_ok-insert.ensures.updates.0 n
    ∙ ap (λ (b : Bool). cond b (Some f.effect) (get nat_cmp c.self.inside.last n)) (unsigned_tied f.call n)
    ∙ ap (λ (o : Option Bool). cond (eqb f.call n) (Some f.effect) o) (c.self.invariant n)
    ∙ sym (fate_push n None c.self.inside.told.items f)
    ∙ ap (fate n None) (sym (c.push_reserved.ensures.items ∙ ap (λ (xs : List Failing). xs ++ f ∷ []) c.reserve.ensures.items))
