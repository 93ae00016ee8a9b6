use Rattle.std.proofs.Common.{◌+◌, ◌∙◌, sym, ap, subst, take}
use Rattle.std.proofs.lemmas.List.{take_all}
use Rattle.ug_serve.specs.Access.{AreOnce, with_new}
use Rattle.ug_serve.proofs.Once.{once_next}
use Rattle.ug_serve.proofs.listed.list_once.Goals as goal

pub loop-who-preserved : goal.loop-who-preserved
loop-who-preserved c =
    let i = c.loop-who.who-index in
    subst (λ ps. AreOnce (take (i + 1) c.args.added.now) ps) (sym (c.in_ok-push_new.ensures ∙ ap (λ who. with_new who c.loop-who.principals.items) c.who-item.is)) (once_next c.args.added.now c.loop-who.principals.items i c.who-item.result c.loop-who-test.true c.loop-who.invariant)

pub returns : goal.returns
returns c = subst (λ added. AreOnce added c.loop-who.principals.items) (take_all c.loop-who.who-index c.args.added.now c.loop-who-test.false) c.loop-who.invariant
