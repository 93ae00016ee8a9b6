-- Which privileges there are: usbguard-daemon.conf(5), IPC access control files.
use Rattle.std.specs.Prelude.{Bool, true, false, ◌&&◌, List, [], ◌∷◌}
use Rattle.std.specs.List.{list_any}
use Rattle.ug_types.specs.declared.access.Section.{Section}
use Rattle.ug_types.specs.declared.access.Section.TheVariants.{Devices, Policy, Exceptions, Parameters}
use Rattle.ug_types.specs.declared.access.Privilege.{Privilege}
use Rattle.ug_types.specs.declared.access.Privilege.TheVariants.{Modify, Listen}
use Rattle.ug_types.specs.declared.access.Privilege.TheVariants as privilege

-- a privilege in a section
abbrev pub Pair : Type 0
Pair = Section × Privilege

-- all that there are, in their order
abbrev pub all_pairs : List Pair
all_pairs =
    (Devices, Modify) ∷ (Devices, privilege.List) ∷ (Devices, Listen)
    ∷ (Policy, Modify) ∷ (Policy, privilege.List)
    ∷ (Exceptions, Listen)
    ∷ (Parameters, Modify) ∷ (Parameters, privilege.List) ∷ (Parameters, Listen) ∷ []

abbrev pub same_section : Section → Section → Bool
same_section Devices Devices = true
same_section Policy Policy = true
same_section Exceptions Exceptions = true
same_section Parameters Parameters = true
same_section a b = false

abbrev pub same_privilege : Privilege → Privilege → Bool
same_privilege Modify Modify = true
same_privilege privilege.List privilege.List = true
same_privilege Listen Listen = true
same_privilege a b = false

abbrev pub same_pair : Pair → Pair → Bool
same_pair a b = same_section a.0 b.0 && same_privilege a.1 b.1

-- whether a privilege is among them
abbrev pub holds_privilege : List Pair → Section → Privilege → Bool
holds_privilege pairs section privilege =
    list_any (λ pair. same_pair pair (section, privilege)) pairs
