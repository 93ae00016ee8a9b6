-- Descriptors as pieces that join to the bytes of the file: USB 2.0, 9.5 and 9.6.
use Rattle.std.specs.Prelude.{◌≡◌, ℕ, ◌<◌, ◌≤◌, ◌⊎◌, nat_eq, if◌then◌else◌, List, [], ◌∷◌, ◌++◌, length, take, drop, slice_index}
use Rattle.std.specs.List.{AllByRecursion, concat}
use Rattle.ug_record.specs.declared.descriptors.Descr.{Descr}
use Rattle.ug_record.specs.declared.descriptors.Config.{Config}
use Rattle.ug_record.specs.declared.descriptors.IfaceDescr.{IfaceDescr}
use Rattle.ug_record.specs.declared.fault.DescrFault.{DescrFault}
use Rattle.ug_record.specs.declared.fault.DescrFault.TheVariants.{Malformed, Memory}
use Rattle.ug_record.specs.Reading.{config_of, descr_of, interface_fields}

-- the descriptor of the device
abbrev pub IsDeviceDescriptor : List ℕ → Type 0
IsDeviceDescriptor piece =
    (length piece ≡ 18) × (slice_index piece 0 ≡ 18) × (slice_index piece 1 ≡ 1)

-- another descriptor: its first byte is its length, and a configuration or an interface has at
-- least 9 bytes
abbrev pub IsDescriptor : List ℕ → Type 0
IsDescriptor piece =
    (2 ≤ length piece) × (slice_index piece 0 ≡ length piece)
    × (slice_index piece 1 ≡ 2 → 9 ≤ length piece) × (slice_index piece 1 ≡ 4 → 9 ≤ length piece)

-- one of the pieces is a configuration
abbrev pub HasConfiguration : List (List ℕ) → Type 0
HasConfiguration pieces =
    (front : List (List ℕ)) × (piece : List ℕ) × (rest : List (List ℕ))
    × (pieces ≡ front ++ piece ∷ rest) × (slice_index piece 1 ≡ 2)

-- each interface has a configuration before it
abbrev pub AreConfigured : List (List ℕ) → Type 0
AreConfigured pieces =
    (front : List (List ℕ)) (piece : List ℕ) (rest : List (List ℕ)) → pieces ≡ front ++ piece ∷ rest
    → slice_index piece 1 ≡ 4 → HasConfiguration front

-- the interfaces up to the next configuration
abbrev pub interfaces_of : List (List ℕ) → List IfaceDescr
interfaces_of [] = []
interfaces_of (piece ∷ pieces) =
    if nat_eq (slice_index piece 1) 2 then [] else
    if nat_eq (slice_index piece 1) 4 then interface_fields piece ∷ interfaces_of pieces
    else interfaces_of pieces

-- each configuration has the interfaces between it and the next one
abbrev pub configs_of : List (List ℕ) → List Config
configs_of [] = []
configs_of (piece ∷ pieces) =
    if nat_eq (slice_index piece 1) 2
    then config_of piece (interfaces_of pieces) ∷ configs_of pieces else configs_of pieces

-- the bytes are well formed, and say this
pub record IsWellFormed (bytes : List ℕ) (descr : Descr) : Type 0 where
  pub device : List ℕ
  pub others : List (List ℕ)
  pub joined : bytes ≡ device ++ concat others
  pub is_device : IsDeviceDescriptor device
  pub each : AllByRecursion IsDescriptor others
  pub in_order : AreConfigured others
  pub says : descr ≡ descr_of device (configs_of others)

-- the faults at a descriptor, where what stands before it is well formed
abbrev pub FaultyDescriptor : Descr → List ℕ → ℕ → Type 0
FaultyDescriptor before rest kind =
    ((kind ≡ 3) × (slice_index rest 0 < 2))
    ⊎ (((kind ≡ 4) × (length rest < slice_index rest 0))
    ⊎ (((kind ≡ 5) × (slice_index rest 1 ≡ 2) × (slice_index rest 0 < 9))
    ⊎ (((kind ≡ 6) × (slice_index rest 1 ≡ 4) × (slice_index rest 0 < 9))
    ⊎ ((kind ≡ 7) × (slice_index rest 1 ≡ 4) × (before.configs ≡ [])))))

-- the first fault stands at a descriptor, and none of a lesser kind does
pub record BadDescriptor (bytes : List ℕ) (kind place : ℕ) : Type 0 where
  pub before : Descr
  pub good : IsWellFormed (take place bytes) before
  pub begins : place < length bytes
  pub faulty : FaultyDescriptor before (drop place bytes) kind
  pub least : (lesser : ℕ) → lesser < kind → FaultyDescriptor before (drop place bytes) lesser → ⊥

abbrev pub IsTruncated : List ℕ → ℕ → ℕ → Type 0
IsTruncated bytes kind place = (kind ≡ 1) × (place ≡ length bytes) × (length bytes < 18)

abbrev pub IsOtherFront : List ℕ → ℕ → ℕ → Type 0
IsOtherFront bytes kind place =
    (kind ≡ 2) × (place ≡ 0) × (18 ≤ length bytes)
    × ((slice_index bytes 0 ≡ 18) × (slice_index bytes 1 ≡ 1) → ⊥)

-- the bytes are malformed, by this kind of fault at this place
abbrev pub IsMalformed : List ℕ → ℕ → ℕ → Type 0
IsMalformed bytes kind place =
    IsTruncated bytes kind place ⊎ (IsOtherFront bytes kind place ⊎ BadDescriptor bytes kind place)

abbrev pub IfMalformed : DescrFault → (ℕ → ℕ → Type 0) → Type 0
IfMalformed (Malformed kind place) P = P kind place
IfMalformed Memory P = Unit {0}
