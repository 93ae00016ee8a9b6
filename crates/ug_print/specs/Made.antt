-- Whether a rule is the one that is made of a device, whatever its target.
use Rattle.std.specs.Prelude.{ℕ, nat_eq, Bool, true, false, ◌&&◌, is_none, List, [], ◌∷◌, Option, None, Some, length}
use Rattle.std.specs.Cmp.Lexicographic.{pointwise}
use Rattle.std.specs.List.{list_all, zip}
use Rattle.ug_types.specs.declared.record.DeviceRecord.{DeviceRecord}
use Rattle.ug_types.specs.declared.record.Triple.{Triple}
use Rattle.ug_types.specs.declared.rule.Id.{Id}
use Rattle.ug_types.specs.declared.rule.Iface.{Iface}
use Rattle.ug_types.specs.declared.rule.Op.{Op}
use Rattle.ug_types.specs.declared.rule.Op.TheVariants.{AllOf, OneOf, NoneOf, Equals, EqualsOrdered}
use Rattle.ug_types.specs.declared.rule.Query.{Query}
use Rattle.ug_types.specs.declared.rule.Rule.{Rule}
use Rattle.ug_types.specs.declared.rule.Values.{Values}

abbrev pub is_equals : Op → Bool
is_equals Equals = true
is_equals AllOf = false
is_equals OneOf = false
is_equals NoneOf = false
is_equals EqualsOrdered = false

abbrev pub is_number : ℕ → Option ℕ → Bool
is_number n (Some value) = nat_eq value n
is_number n None = false

-- one item, which is the text
abbrev pub is_just_text : List ℕ → List (List ℕ) → Bool
is_just_text text (item ∷ []) = pointwise nat_eq item text
is_just_text text [] = false
is_just_text text (first ∷ second ∷ items) = false

abbrev pub is_one_text : List ℕ → Option (Values (List ℕ)) → Bool
is_one_text text (Some values) = is_equals values.op && is_just_text text values.items
is_one_text text None = false

abbrev pub is_port : Bool → List ℕ → Option (Values (List ℕ)) → Bool
is_port true port values = is_one_text port values
is_port false port values = is_none values

abbrev pub is_just_id : ℕ → ℕ → List Id → Bool
is_just_id vendor product (item ∷ []) =
    is_number vendor item.vendor && is_number product item.product
is_just_id vendor product [] = false
is_just_id vendor product (first ∷ second ∷ items) = false

abbrev pub is_one_id : ℕ → ℕ → Option (Values Id) → Bool
is_one_id vendor product (Some values) =
    is_equals values.op && is_just_id vendor product values.items
is_one_id vendor product None = false

abbrev pub is_interface : Iface → Triple → Bool
is_interface item triple =
    nat_eq item.class triple.class && is_number triple.subclass item.subclass
    && is_number triple.protocol item.protocol

abbrev pub are_interfaces : List Iface → List Triple → Bool
are_interfaces items triples =
    nat_eq (length items) (length triples)
    && list_all (λ (pair : Iface × Triple). is_interface pair.0 pair.1) (zip items triples)

-- not given where the device has none
abbrev pub is_for_interfaces : List Triple → Option (Values Iface) → Bool
is_for_interfaces [] values = is_none values
is_for_interfaces (triple ∷ triples) (Some values) =
    is_equals values.op && are_interfaces values.items (triple ∷ triples)
is_for_interfaces (triple ∷ triples) None = false

-- all that is known of the device, each as equals, and the port only if it is asked for
abbrev pub is_query_of : DeviceRecord → Bool → Query → Bool
is_query_of device with_port query =
    is_one_id device.vendor device.product query.id
    && is_one_text device.serial query.serial
    && is_one_text device.name query.name
    && is_one_text device.hash query.hash
    && is_one_text device.parent_hash query.parent_hash
    && is_port with_port device.via_port query.via_port
    && is_for_interfaces device.interfaces query.interface
    && is_one_text device.connect query.connect
    && is_none query.label

-- and no conditions
unfoldable pub is_made_of : DeviceRecord → Bool → Rule → Bool
is_made_of device with_port rule = is_query_of device with_port rule.query && is_none rule.conds
