-- What is known of a device from its files.
use Rattle.std.specs.Prelude.{ℕ, Bool, nat_eq, if◌then◌else◌, List, [], ◌∷◌}
use Rattle.std.specs.Prelude.{Option, None, Some, Result, Ok, Err}
use Rattle.ug_types.specs.declared.record.Attrs.{Attrs}
use Rattle.ug_types.specs.declared.record.DeviceRecord.{DeviceRecord}
use Rattle.ug_types.specs.declared.record.Judged.{Judged}
use Rattle.ug_types.specs.declared.record.Judged.TheVariants.{Good, Malformed}
use Rattle.ug_record.specs.declared.descriptors.Descr.{Descr}
use Rattle.ug_record.specs.Reading.{PlacedFault, decoded, triples_of}
use Rattle.ug_record.specs.Hash.{hash_of}

-- the file without one newline at its end
abbrev pub without_newline : List ℕ → List ℕ
without_newline [] = []
without_newline (b ∷ []) = if nat_eq b 10 then [] else b ∷ []
without_newline (b ∷ c ∷ bytes) = b ∷ without_newline (c ∷ bytes)

-- the hash of a device, from its files and what its descriptors say
abbrev pub hash_under : Attrs → Descr → List ℕ
hash_under attrs descr =
    hash_of (without_newline attrs.product) descr.vendor descr.product
    (without_newline attrs.serial) attrs.descriptors

abbrev pub hash_or_empty : Attrs → Result Descr PlacedFault → List ℕ
hash_or_empty attrs (Ok descr) = hash_under attrs descr
hash_or_empty attrs (Err fault) = []

-- The hash that a device's children see: of its own files; empty where one of those that it is made
-- of was too long, or where its descriptors are malformed.
abbrev pub child_hash_of : Attrs → Bool → List ℕ
child_hash_of attrs core_long =
    if core_long then [] else hash_or_empty attrs (decoded attrs.descriptors)

-- empty for no parent, and for one with a file that was too long or whose descriptors are malformed
unfoldable pub parent_hash_of : Option Attrs → List ℕ
parent_hash_of None = []
parent_hash_of (Some attrs) = child_hash_of attrs attrs.too_long

-- under the parent's hash
abbrev pub record_with : List ℕ → Attrs → List ℕ → Descr → DeviceRecord
record_with name attrs parent_hash descr = record {
  vendor = descr.vendor;
  product = descr.product;
  serial = without_newline attrs.serial;
  name = without_newline attrs.product;
  hash = hash_under attrs descr;
  parent_hash = parent_hash;
  via_port = name;
  interfaces = triples_of descr;
  connect = without_newline attrs.connect;
}

abbrev pub judged_by : List ℕ → Attrs → List ℕ → Result Descr PlacedFault → Judged
judged_by name attrs parent_hash (Ok descr) = Good (record_with name attrs parent_hash descr)
judged_by name attrs parent_hash (Err fault) = Malformed fault.kind fault.place

-- of a device's node name, its files, and its parent's hash
abbrev pub judged_under : List ℕ → Attrs → List ℕ → Judged
judged_under name attrs parent_hash =
    if attrs.too_long then Malformed 8 0
    else judged_by name attrs parent_hash (decoded attrs.descriptors)

-- of a device's node name, its files, and the files of its parent if it has one
unfoldable pub judged_of : List ℕ → Attrs → Option Attrs → Judged
judged_of name attrs parent = judged_under name attrs (parent_hash_of parent)
