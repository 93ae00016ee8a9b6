-- Which devices a query matches.
use Rattle.std.specs.Prelude.{List, [], ◌∷◌, Bool, true, ◌&&◌, Option, Some, None}
use Rattle.ug_types.specs.declared.record.DeviceRecord.{DeviceRecord}
use Rattle.ug_types.specs.declared.rule.Values.{Values}
use Rattle.ug_types.specs.declared.rule.Query.{Query}
use Rattle.ug_match.specs.Covers.{covers_id, covers_interface, covers_text}
use Rattle.ug_match.specs.Operators.{holds}

-- an attribute that isn't given matches every device
abbrev pub attribute : {X Y : Type 0} → (X → Y → Bool) → Option (Values X) → List Y → Bool
attribute covers None device = true
attribute covers (Some values) device = holds covers values.op values.items device

-- each attribute holds; a label always does
unfoldable pub query_matches : Query → DeviceRecord → Bool
query_matches query device =
    attribute covers_id query.id (record { vendor = device.vendor; product = device.product } ∷ [])
    && attribute covers_text query.serial (device.serial ∷ [])
    && attribute covers_text query.name (device.name ∷ [])
    && attribute covers_text query.hash (device.hash ∷ [])
    && attribute covers_text query.parent_hash (device.parent_hash ∷ [])
    && attribute covers_text query.via_port (device.via_port ∷ [])
    && attribute covers_interface query.interface device.interfaces
    && attribute covers_text query.connect (device.connect ∷ [])
