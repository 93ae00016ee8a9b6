-- The rule that is made of a device.
use Rattle.std.specs.Prelude.{Bool, if◌then◌else◌, List, [], ◌∷◌, map, Option, None, Some}
use Rattle.ug_types.specs.declared.record.DeviceRecord.{DeviceRecord}
use Rattle.ug_types.specs.declared.record.Triple.{Triple}
use Rattle.ug_types.specs.declared.rule.Iface.{Iface}
use Rattle.ug_types.specs.declared.rule.Op.TheVariants.{Equals}
use Rattle.ug_types.specs.declared.rule.Query.{Query}
use Rattle.ug_types.specs.declared.rule.Rule.{Rule}
use Rattle.ug_types.specs.declared.rule.Values.{Values}
use Rattle.ug_types.specs.declared.verdict.Target.{Target}

abbrev pub equals : {X : Type 0} → List X → Option (Values X)
equals items = Some (record { op = Equals; items = items })

abbrev pub interface_of_triple : Triple → Iface
interface_of_triple triple =
    record {
      class = triple.class;
      subclass = Some triple.subclass;
      protocol = Some triple.protocol;
    }

-- in the device's order, and not given where there are none
abbrev pub interfaces_value : List Triple → Option (Values Iface)
interfaces_value [] = None
interfaces_value (triple ∷ triples) = equals (map interface_of_triple (triple ∷ triples))

-- all that is known of the device, each as equals, and the port only if it is asked for
unfoldable pub device_query : DeviceRecord → Bool → Query
device_query device with_port = record {
  id = equals (record { vendor = Some device.vendor; product = Some device.product } ∷ []);
  serial = equals (device.serial ∷ []);
  name = equals (device.name ∷ []);
  hash = equals (device.hash ∷ []);
  parent_hash = equals (device.parent_hash ∷ []);
  via_port = if with_port then equals (device.via_port ∷ []) else None;
  interface = interfaces_value device.interfaces;
  connect = equals (device.connect ∷ []);
  label = None;
}

unfoldable pub generated_of : DeviceRecord → Target → Bool → Rule
generated_of device target with_port =
    record { target = target; query = device_query device with_port; conds = None }
