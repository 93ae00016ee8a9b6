-- What is asked for, and what it is united with.
use Rattle.std.specs.Prelude.{◌||◌, List}
use Rattle.std.specs.List.{filter}
use Rattle.ug_types.specs.declared.access.Section.{Section}
use Rattle.ug_types.specs.declared.access.Section.TheVariants.{Devices, Policy, Exceptions, Parameters}
use Rattle.ug_acl.specs.Pairs.{Pair, all_pairs, holds_privilege}
use Rattle.ug_acl.specs.declared.asked.Asked.{Asked}
use Rattle.ug_acl.specs.declared.lists.Listed.{Listed}
use Rattle.ug_acl.specs.Lists.{lists_privilege}

abbrev pub listed_in : Asked → Section → Listed
listed_in asked Devices = asked.devices
listed_in asked Policy = asked.policy
listed_in asked Exceptions = asked.exceptions
listed_in asked Parameters = asked.parameters

-- the privileges that are asked for, in the order of all that there are
abbrev pub pairs_asked : Asked → List Pair
pairs_asked asked = filter (λ pair. lists_privilege (listed_in asked pair.0) pair.1) all_pairs

-- those that are in one list or the other
abbrev pub united : List Pair → List Pair → List Pair
united some more =
    filter (λ pair. holds_privilege some pair.0 pair.1
    || holds_privilege more pair.0 pair.1) all_pairs
