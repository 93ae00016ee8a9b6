use Rattle.std.proofs.Common.{◌≡◌, drop, ◌&&◌}
use Rattle.std.specs.List.{list_any}
use Rattle.ug_types.specs.Principals.{same_principal}
use Rattle.ug_acl.specs.Kept.{pairs_kept}
use Rattle.ug_acl.specs.Pairs.{holds_privilege}
use Rattle.ug_acl.proofs.acl.is_added.Given as goal

abbrev pub invariant-loop-a : goal.invariant-loop-a
invariant-loop-a l = list_any (λ a. same_principal a.who l.who && holds_privilege (pairs_kept a.kept) l.section l.privilege) (drop l.a-index l.all) ≡ list_any (λ a. same_principal a.who l.who && holds_privilege (pairs_kept a.kept) l.section l.privilege) l.all
