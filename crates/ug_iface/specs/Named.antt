-- Which interfaces of a device rules name.
use Rattle.std.specs.Prelude.{Bool, ◌&&◌, List}
use Rattle.std.specs.List.{list_any}
use Rattle.ug_types.specs.declared.record.DeviceRecord.{DeviceRecord}
use Rattle.ug_types.specs.declared.record.Triple.{Triple}
use Rattle.ug_match.specs.Covers.{covers_interface}
use Rattle.ug_match.specs.Queries.{query_matches}
use Rattle.ug_iface.specs.declared.rules.IfaceRule.{IfaceRule}

-- the query matches the device, and each part that is given of the interface's type is its own
abbrev pub rule_names : DeviceRecord → Triple → IfaceRule → Bool
rule_names device triple rule =
    query_matches rule.query device && covers_interface rule.iface triple

-- some rule names interfaces of that type of that device
abbrev pub is_named_off : List IfaceRule → DeviceRecord → Triple → Bool
is_named_off rules device triple = list_any (rule_names device triple) rules
