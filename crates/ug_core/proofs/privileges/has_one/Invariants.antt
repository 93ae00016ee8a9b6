use Rattle.std.proofs.Common.{◌≡◌, drop}
use Rattle.ug_core.specs.Privileges.{is_granted}
use Rattle.ug_core.proofs.privileges.has_one.Given as goal

abbrev pub invariant-loop-section : goal.invariant-loop-section
invariant-loop-section l = is_granted l.acl l.who (drop l.section-index l.needed) ≡ is_granted l.acl l.who l.needed
