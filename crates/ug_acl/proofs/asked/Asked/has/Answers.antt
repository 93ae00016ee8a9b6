use Rattle.std.proofs.Common.{sym, ap, ◌∙◌}
use Rattle.ug_acl.specs.Asking.{listed_in}
use Rattle.ug_acl.specs.Lists.{lists_privilege}
use Rattle.ug_acl.proofs.UnitedMembers.{there, not_there}
use Rattle.ug_acl.proofs.asked.Asked.has.Goals as goal

pub returns-then-has : goal.returns-then-has
returns-then-has c = there (λ pair. lists_privilege (listed_in c.args.self.now pair.0) pair.1) c.args.section c.args.privilege c.is_privilege.result c.is_privilege.ensures
    (ap (λ listed. lists_privilege listed c.args.privilege) (sym c.in_section.ensures) ∙ sym c.has.ensures ∙ c.if-has.true)

pub returns-else-has : goal.returns-else-has
returns-else-has c = not_there (λ pair. lists_privilege (listed_in c.args.self.now pair.0) pair.1) c.args.section c.args.privilege c.has.result c.if-has.false
    (ap (λ listed. lists_privilege listed c.args.privilege) (sym c.in_section.ensures) ∙ sym c.has.ensures)
