-- What the descriptors of a device say, read from the front, and the first fault in them.
use Rattle.std.specs.Prelude.{ℕ, zero, suc, ◌+◌, ◌-◌, Bool, not, ◌&&◌, nat_eq, nat_lt, if◌then◌else◌, List, [], ◌∷◌, ◌++◌, length, take, drop, map, flat_map, slice_index, Option, None, Some, Result, Ok, Err, ◌≡◌}
use Rattle.std.specs.Int.{w16, from_le_bytes}
use Rattle.ug_types.specs.declared.record.Triple.{Triple}
use Rattle.ug_record.specs.declared.descriptors.Descr.{Descr}
use Rattle.ug_record.specs.declared.descriptors.Config.{Config}
use Rattle.ug_record.specs.declared.descriptors.IfaceDescr.{IfaceDescr}
use Rattle.ug_record.specs.declared.fault.DescrFault.{DescrFault}
use Rattle.ug_record.specs.declared.fault.DescrFault.TheVariants.{Malformed, Memory}

pub record PlacedFault : Type 0 where
  pub kind : ℕ
  pub place : ℕ

abbrev pub two_bytes_at : List ℕ → ℕ → ℕ
two_bytes_at bytes i = from_le_bytes w16 (slice_index bytes i ∷ slice_index bytes (i + 1) ∷ [])

abbrev pub triple_at : List ℕ → ℕ → Triple
triple_at bytes i =
    record {
      class = slice_index bytes i;
      subclass = slice_index bytes (i + 1);
      protocol = slice_index bytes (i + 2);
    }

-- an interface descriptor's fields
abbrev pub interface_fields : List ℕ → IfaceDescr
interface_fields piece =
    record {
      number = slice_index piece 2;
      alternate = slice_index piece 3;
      endpoints = slice_index piece 4;
      triple = triple_at piece 5;
    }

-- a configuration descriptor's fields, with its interface descriptors
abbrev pub config_of : List ℕ → List IfaceDescr → Config
config_of piece interfaces =
    record { value = slice_index piece 5; count = slice_index piece 4; items = interfaces }

-- a device descriptor's fields, with the configurations
abbrev pub descr_of : List ℕ → List Config → Descr
descr_of bytes configs =
    record {
      vendor = two_bytes_at bytes 8;
      product = two_bytes_at bytes 10;
      class = triple_at bytes 4;
      configurations = slice_index bytes 17;
      configs = configs;
    }

-- the kind of the fault at a descriptor, from its first byte on
abbrev pub kind_at : Bool → List ℕ → Option ℕ
kind_at configured rest =
    if nat_lt (slice_index rest 0) 2 then Some 3 else
    if nat_lt (length rest) (slice_index rest 0) then Some 4 else
    if nat_eq (slice_index rest 1) 2 && nat_lt (slice_index rest 0) 9 then Some 5 else
    if nat_eq (slice_index rest 1) 4 && nat_lt (slice_index rest 0) 9 then Some 6 else
    if nat_eq (slice_index rest 1) 4 && not configured then Some 7 else None

-- the last configuration has one more interface
abbrev pub with_interface : List Config → IfaceDescr → List Config
with_interface [] interface = []
with_interface (c ∷ []) interface = record c { items = c.items ++ interface ∷ [] } ∷ []
with_interface (c ∷ d ∷ configs) interface = c ∷ with_interface (d ∷ configs) interface

abbrev pub with_descriptor : List Config → List ℕ → List Config
with_descriptor configs piece =
    if nat_eq (slice_index piece 1) 2 then configs ++ config_of piece [] ∷ [] else
    if nat_eq (slice_index piece 1) 4 then with_interface configs (interface_fields piece) else
    configs

abbrev pub unless_fault : Option ℕ → ℕ → Result (List Config) PlacedFault
    → Result (List Config) PlacedFault
unless_fault None place read = read
unless_fault (Some kind) place read = Err (record { kind = kind; place = place })

-- the configurations with those that stand in the bytes behind a place, of which some are passed
-- over first
unfoldable pub configs_from : List Config → ℕ → ℕ → List ℕ → Result (List Config) PlacedFault
configs_from configs place passed [] = Ok configs
configs_from configs place (suc passed) (b ∷ bytes) = configs_from configs (place + 1) passed bytes
configs_from configs place zero (b ∷ bytes) =
    unless_fault (kind_at (not (nat_eq (length configs) 0)) (b ∷ bytes)) place
    (configs_from (with_descriptor configs (take b (b ∷ bytes))) (place + 1) (b - 1) bytes)

abbrev pub under : List ℕ → Result (List Config) PlacedFault → Result Descr PlacedFault
under bytes (Ok configs) = Ok (descr_of bytes configs)
under bytes (Err fault) = Err fault

-- what the whole of the bytes says
unfoldable pub decoded : List ℕ → Result Descr PlacedFault
decoded bytes =
    if nat_lt (length bytes) 18 then Err (record { kind = 1; place = length bytes }) else
    if not (nat_eq (slice_index bytes 0) 18 && nat_eq (slice_index bytes 1) 1)
    then Err (record { kind = 2; place = 0 }) else
    under bytes (configs_from [] 18 0 (drop 18 bytes))

-- an answer is what was read, unless memory was refused
abbrev pub AnswersDescr : {X : Type 0} → Result X DescrFault → Result X PlacedFault → Type 0
AnswersDescr (Ok descr) read = read ≡ Ok descr
AnswersDescr (Err (Malformed kind place)) read = read ≡ Err (record { kind = kind; place = place })
AnswersDescr (Err Memory) read = Unit {0}

abbrev pub triple_of : IfaceDescr → Triple
triple_of interface = interface.triple

abbrev pub config_triples : Config → List Triple
config_triples config = map triple_of config.items

-- one for each interface descriptor, in file order
abbrev pub triples_of : Descr → List Triple
triples_of descr = flat_map config_triples descr.configs
