-- Who may do what.
use Rattle.std.specs.Prelude.{Bool, ◌&&◌, List}
use Rattle.std.specs.List.{list_any}
use Rattle.ug_types.specs.Principals.{Named, same_principal}
use Rattle.ug_types.specs.declared.access.Section.{Section}
use Rattle.ug_types.specs.declared.access.Privilege.{Privilege}
use Rattle.ug_acl.specs.declared.acl.Added.{Added}
use Rattle.ug_acl.specs.Kept.{pairs_kept}
use Rattle.ug_acl.specs.Pairs.{Pair, holds_privilege}

-- what was added for a user or a group
pub record Addition : Type 0 where
  pub who : Named
  pub grants : List Pair

abbrev pub addition : Named → List Pair → Addition
addition who grants = record { who = who; grants = grants }

abbrev pub addition_of : Added → Addition
addition_of a = addition a.who (pairs_kept a.kept)

-- whether a privilege is in the union of what was added for the user or group
abbrev pub is_allowed : List Addition → Named → Section → Privilege → Bool
is_allowed all who section privilege =
    list_any (λ a. same_principal a.who who && holds_privilege a.grants section privilege) all
