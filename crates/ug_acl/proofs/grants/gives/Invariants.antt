use Rattle.std.proofs.Common.{◌≡◌, drop, ◌&&◌}
use Rattle.std.specs.List.{list_any}
use Rattle.ug_acl.specs.Pairs.{same_section}
use Rattle.ug_acl.specs.Words.{has_privilege}
use Rattle.ug_acl.proofs.grants.gives.Given as goal

abbrev pub invariant-loop-g : goal.invariant-loop-g
invariant-loop-g l = list_any (λ g. same_section g.section l.section && has_privilege g.privileges l.privilege) (drop l.g-index l.given) ≡ list_any (λ g. same_section g.section l.section && has_privilege g.privileges l.privilege) l.given
