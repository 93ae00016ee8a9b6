-- Names of interfaces in order.
use Rattle.std.specs.Prelude.{List, [], ◌∷◌, if◌then◌else◌}
use Rattle.std.specs.declared.cmp.Ordering.{Ordering}
use Rattle.std.specs.Ordering.{is_gt, nat_cmp, ordering_then}
use Rattle.ug_types.specs.Names.{sweep_cmp}
use Rattle.ug_iface.specs.declared.name.IfaceName.{IfaceName}

-- by their device's name, and then by configuration and number
abbrev pub iface_cmp : IfaceName → IfaceName → Ordering
iface_cmp a b =
    ordering_then (sweep_cmp a.device b.device)
    (ordering_then (nat_cmp a.config b.config) (nat_cmp a.number b.number))

-- behind each name that comes before it
abbrev pub in_iface_place : IfaceName → List IfaceName → List IfaceName
in_iface_place name [] = name ∷ []
in_iface_place name (first ∷ names) =
    if is_gt (iface_cmp name first) then first ∷ in_iface_place name names
    else name ∷ first ∷ names

abbrev pub in_iface_order : List IfaceName → List IfaceName
in_iface_order [] = []
in_iface_order (name ∷ names) = in_iface_place name (in_iface_order names)
