use Rattle.std.proofs.Common.{sym, ◌∙◌}
use Rattle.std.specs.Prelude.{◌||◌}
use Rattle.ug_acl.specs.Pairs.{holds_privilege}
use Rattle.ug_acl.specs.Asking.{pairs_asked}
use Rattle.ug_acl.proofs.UnitedMembers.{there, not_there}
use Rattle.ug_acl.proofs.united_text.is_united.Goals as goal

pub returns-then-is_wanted : goal.returns-then-is_wanted
returns-then-is_wanted c = there (λ pair. holds_privilege c.args.granted.now pair.0 pair.1 || holds_privilege (pairs_asked c.args.asked.now) pair.0 pair.1) c.args.section c.args.privilege c.is_privilege.result c.is_privilege.ensures
    (sym c.is_wanted.ensures ∙ c.if-is_wanted.true)

pub returns-else-is_wanted : goal.returns-else-is_wanted
returns-else-is_wanted c = not_there (λ pair. holds_privilege c.args.granted.now pair.0 pair.1 || holds_privilege (pairs_asked c.args.asked.now) pair.0 pair.1) c.args.section c.args.privilege c.is_wanted.result c.if-is_wanted.false
    (sym c.is_wanted.ensures)
