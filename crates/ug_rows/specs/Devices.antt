-- The device that a rule tells, where it is one that the daemon makes of a device.
use Rattle.std.specs.Prelude.{ℕ, nat_eq, nat_le, ◌&&◌, if◌then◌else◌, Bool, false, List, [], ◌∷◌, length, map, Option, Some, None, option_and_then, option_map, unwrap_or}
use Rattle.ug_types.proofs.Spelled.{read}
use Rattle.ug_types.specs.Reading.{ends_name}
use Rattle.ug_types.specs.declared.reading.Reading.{Reading}
use Rattle.ug_types.specs.declared.reading.Reading.TheVariants.{Start}
use Rattle.ug_types.specs.declared.record.DeviceRecord.{DeviceRecord}
use Rattle.ug_types.specs.declared.record.Triple.{Triple}
use Rattle.ug_types.specs.declared.rule.Id.{Id}
use Rattle.ug_types.specs.declared.rule.Iface.{Iface}
use Rattle.ug_types.specs.declared.rule.Query.{Query}
use Rattle.ug_types.specs.declared.rule.Values.{Values}

-- the values of an attribute; one that isn't given has none
abbrev pub given_items : {X : Type 0} → Option (Values X) → List X
given_items None = []
given_items (Some values) = values.items

abbrev pub first_text : List (List ℕ) → List ℕ
first_text [] = []
first_text (text ∷ texts) = text

-- the first value, or nothing
abbrev pub first_told : Option (Values (List ℕ)) → List ℕ
first_told values = first_text (given_items values)

-- a part that isn't given counts as 0
abbrev pub given_part : Option ℕ → ℕ
given_part part = unwrap_or part 0

abbrev pub first_id : List Id → ℕ × ℕ
first_id [] = (0, 0)
first_id (id ∷ ids) = (given_part id.vendor, given_part id.product)

abbrev pub told_id : Option (Values Id) → ℕ × ℕ
told_id values = first_id (given_items values)

abbrev pub told_triple : Iface → Triple
told_triple iface = record {
  class = iface.class;
  subclass = given_part iface.subclass;
  protocol = given_part iface.protocol;
}

abbrev pub told_triples : Option (Values Iface) → List Triple
told_triples values = map told_triple (given_items values)

abbrev pub ends_port : Option Reading → Bool
ends_port None = false
ends_port (Some reading) = ends_name reading

-- the name of a device
unfoldable pub is_port_name : List ℕ → Bool
is_port_name text = ends_port (read (Some Start) text) && nat_le (length text) 31

abbrev pub told_port : List ℕ → Option (List ℕ)
told_port text = if is_port_name text then Some text else None

-- as long as a hash is
abbrev pub hash_in : List ℕ → Option (List ℕ)
hash_in text = if nat_eq (length text) 44 then Some text else None

abbrev pub device_at : Query → List ℕ → List ℕ → DeviceRecord
device_at query port hash = record {
  vendor = (told_id query.id).0;
  product = (told_id query.id).1;
  serial = first_told query.serial;
  name = first_told query.name;
  hash = hash;
  parent_hash = first_told query.parent_hash;
  via_port = port;
  interfaces = told_triples query.interface;
  connect = first_told query.connect;
}

-- by the first value of each attribute; there is none without a port or a hash
unfoldable pub told_device : Query → Option DeviceRecord
told_device query =
    option_and_then
    (λ port. option_map (λ hash. device_at query port hash) (hash_in (first_told query.hash)))
    (told_port (first_told query.via_port))
