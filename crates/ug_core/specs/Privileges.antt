-- Which requests a user or a group may make.
use Rattle.std.specs.Prelude.{Bool, if◌then◌else◌, List, [], ◌∷◌, Option, Some, None}
use Rattle.std.specs.List.{list_any}
use Rattle.ug_types.specs.Principals.{Named}
use Rattle.ug_types.specs.declared.access.Section.{Section}
use Rattle.ug_types.specs.declared.access.Privilege.{Privilege}
use Rattle.ug_types.specs.declared.refusal.Refusal.{Refusal}
use Rattle.ug_types.specs.declared.refusal.Refusal.TheVariants as refusal
use Rattle.ug_acl.specs.Acls.{Addition, is_allowed}

-- whether one of these privileges is held
abbrev pub is_granted : List Addition → Named → List (Section × Privilege) → Bool
is_granted access who needed =
    list_any (λ (p : Section × Privilege). is_allowed access who p.0 p.1) needed

-- a refusal names the first of them
abbrev pub first_denied : List (Section × Privilege) → Option Refusal
first_denied [] = None
first_denied (p ∷ needed) = Some (refusal.Denied p.0 p.1)

-- where none is held
abbrev pub denied_of : List Addition → Named → List (Section × Privilege) → Option Refusal
denied_of access who needed = if is_granted access who needed then None else first_denied needed
