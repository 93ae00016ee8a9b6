-- When a value of a rule matches whatever a value of another rule matches.
use Rattle.std.specs.Prelude.{ℕ, Bool, true, false, ◌&&◌, nat_eq, Option, Some, None}
use Rattle.ug_types.specs.declared.rule.Id.{Id}
use Rattle.ug_types.specs.declared.rule.Iface.{Iface}

-- a number that is given is given there too, and is the same
abbrev pub number_covers : Option ℕ → Option ℕ → Bool
number_covers None other = true
number_covers (Some m) None = false
number_covers (Some m) (Some n) = nat_eq m n

abbrev pub id_covers : Id → Id → Bool
id_covers v w = number_covers v.vendor w.vendor && number_covers v.product w.product

abbrev pub interface_covers : Iface → Iface → Bool
interface_covers v w =
    nat_eq v.class w.class && number_covers v.subclass w.subclass
    && number_covers v.protocol w.protocol
