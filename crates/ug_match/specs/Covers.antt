-- When a value of a rule matches a value of a device.
use Rattle.std.specs.Prelude.{ℕ, List, Bool, true, ◌&&◌, nat_eq, Option, Some, None}
use Rattle.std.specs.Cmp.Lexicographic.{pointwise}
use Rattle.ug_types.specs.declared.record.Triple.{Triple}
use Rattle.ug_types.specs.declared.rule.Id.{Id}
use Rattle.ug_types.specs.declared.rule.Iface.{Iface}
use Rattle.ug_match.specs.declared.covers.DeviceId.{DeviceId}

-- a number that isn't given matches every number
abbrev pub covers_number : Option ℕ → ℕ → Bool
covers_number None n = true
covers_number (Some m) n = nat_eq m n

abbrev pub covers_id : Id → DeviceId → Bool
covers_id rule device =
    covers_number rule.vendor device.vendor && covers_number rule.product device.product

abbrev pub covers_interface : Iface → Triple → Bool
covers_interface rule device =
    nat_eq rule.class device.class && covers_number rule.subclass device.subclass
    && covers_number rule.protocol device.protocol

abbrev pub covers_text : List ℕ → List ℕ → Bool
covers_text rule device = pointwise nat_eq rule device
