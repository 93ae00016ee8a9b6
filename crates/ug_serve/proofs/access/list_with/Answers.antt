use Rattle.std.proofs.Common.{◌++◌, ◌∙◌, ap, subst}
use Rattle.std.proofs.lemmas.Result.{IfOk-weaker}
use Rattle.ug_serve.specs.Access.{AreListed}
use Rattle.ug_serve.proofs.Once.{listed_with}
use Rattle.ug_serve.proofs.access.list_with.Goals as goal

pub returns-clause-listed : goal.returns-clause-listed
returns-clause-listed c =
    IfOk-weaker c.list_in_order.result _ _ (λ principals listed.
    listed_with c.args.added.now.acl c.add_users.new.added.acl c.args.users.now c.add_users.new.added.principals.items principals
    (c.in_ok-add_users.ensures.principals ∙ ap (λ l. l ++ c.args.users.now) c.requires) c.in_ok-add_users.ensures.acl (subst (λ added. AreListed added principals) c.as_slice.ensures.value listed)) c.list_in_order.ensures.listed
