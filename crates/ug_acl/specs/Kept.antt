-- Grants as they are kept, and the pairs that they stand for.
use Rattle.std.specs.Prelude.{List}
use Rattle.std.specs.List.{filter}
use Rattle.ug_types.specs.declared.access.Section.{Section}
use Rattle.ug_types.specs.declared.access.Section.TheVariants.{Devices, Policy, Exceptions, Parameters}
use Rattle.ug_acl.specs.declared.grants.Kept.{Kept}
use Rattle.ug_acl.specs.declared.privileges.Privileges.{Privileges}
use Rattle.ug_acl.specs.Pairs.{Pair, all_pairs}
use Rattle.ug_acl.specs.Words.{has_privilege}

abbrev pub kept_in : Kept → Section → Privileges
kept_in g Devices = g.devices
kept_in g Policy = g.policy
kept_in g Exceptions = g.exceptions
kept_in g Parameters = g.parameters

abbrev pub pairs_kept : Kept → List Pair
pairs_kept g = filter (λ pair. has_privilege (kept_in g pair.0) pair.1) all_pairs
