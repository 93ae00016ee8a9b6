-- The rules by which the devices that are plugged in are allowed.
use Rattle.std.specs.Prelude.{◌≡◌, ℕ, zero, suc, Bool, if◌then◌else◌, List, [], ◌∷◌, ◌++◌, length, Option, Some, None, slice_get}
use Rattle.std.specs.List.{flat_map}
use Rattle.std.specs.List.Sorted.{IsPermutation, IsSorted}
use Rattle.std.specs.Option.{option_map}
use Rattle.std.specs.Ordering.{is_gt, nat_cmp, ordering_then}
use Rattle.std.specs.declared.cmp.Ordering.{Ordering}
use Rattle.ug_types.specs.Names.{sweep_cmp}
use Rattle.ug_types.specs.declared.record.Attrs.{Attrs}
use Rattle.ug_types.specs.declared.record.DeviceRecord.{DeviceRecord}
use Rattle.ug_types.specs.declared.record.Judged.{Judged}
use Rattle.ug_types.specs.declared.record.Judged.TheVariants.{Good, Malformed}
use Rattle.ug_types.specs.declared.rule.Rule.{Rule}
use Rattle.ug_types.specs.declared.verdict.Target.TheVariants.{Allow}
use Rattle.ug_kernel.specs.declared.device.Device.{Device}
use Rattle.ug_kernel.specs.Kernel.{Live}
use Rattle.ug_kernel.specs.Bound.{attrs_of, parent_attrs_of}
use Rattle.ug_record.specs.Records.{judged_of}
use Rattle.ug_match.specs.Queries.{query_matches}
use Rattle.ug_print.specs.Generated.{generated_of}

-- ---- the live devices in the order of a sweep

-- its name and its place, unless it is gone
abbrev pub live_at : ℕ → Option Device → List (List ℕ × ℕ)
live_at place None = []
live_at place (Some d) = if d.gone then [] else (d.name, place) ∷ []

-- of the first n devices those that are live
abbrev pub live_below : List Device → ℕ → List (List ℕ × ℕ)
live_below ds zero = []
live_below ds (suc n) = live_below ds n ++ live_at n (slice_get ds n)

-- by name, and of one name those that were born first
abbrev pub place_cmp : List ℕ × ℕ → List ℕ × ℕ → Ordering
place_cmp a b = ordering_then (sweep_cmp a.0 b.0) (nat_cmp a.1 b.1)

-- behind each that comes before it
abbrev pub insert_by : {X : Type 0} → (X → X → Ordering) → X → List X → List X
insert_by cmp x [] = x ∷ []
insert_by cmp x (y ∷ ys) = if is_gt (cmp x y) then y ∷ insert_by cmp x ys else x ∷ y ∷ ys

abbrev pub sorted_by : {X : Type 0} → (X → X → Ordering) → List X → List X
sorted_by cmp [] = []
sorted_by cmp (x ∷ xs) = insert_by cmp x (sorted_by cmp xs)

abbrev pub sorted_live_places : List Device → List (List ℕ × ℕ)
sorted_live_places ds = sorted_by place_cmp (live_below ds (length ds))

-- these are the live devices, each once, in the order of a sweep
pub record AreLiveInOrder (ds : List Device) (places : List (List ℕ × ℕ)) : Type 0 where
  pub all : IsPermutation (live_below ds (length ds)) places
  pub order : IsSorted place_cmp places

-- ---- the rules that are made of them

abbrev pub parent_files : List Device → Option ℕ → Option Attrs
parent_files ds None = None
parent_files ds (Some place) = option_map parent_attrs_of (slice_get ds place)

-- of its own files and its parent's
abbrev pub judged_in : List Device → Device → Judged
judged_in ds d = judged_of d.name (attrs_of d) (parent_files ds d.parent)

abbrev pub rules_for : Bool → Judged → List Rule
rules_for with_port (Good device) = generated_of device Allow with_port ∷ []
rules_for with_port (Malformed kind place) = []

abbrev pub rules_at : List Device → Bool → Option Device → List Rule
rules_at ds with_port None = []
rules_at ds with_port (Some d) = rules_for with_port (judged_in ds d)

-- the rules of the live devices in the order of a sweep
abbrev pub policy_rules : List Device → Bool → List Rule
policy_rules ds with_port =
    flat_map (λ p. rules_at ds with_port (slice_get ds p.1)) (sorted_live_places ds)

-- a rule for each live device of good record, in the order of a sweep
pub record IsPolicy (ds : List Device) (with_port : Bool) (made : List Rule) : Type 0 where
  pub places : List (List ℕ × ℕ)
  pub order : AreLiveInOrder ds places
  pub rules : made ≡ flat_map (λ p. rules_at ds with_port (slice_get ds p.1)) places

-- ---- what they do

-- the first rule whose attributes the device has; rules that are made of devices have no conditions
abbrev pub first_match : DeviceRecord → List Rule → Option Rule
first_match device [] = None
first_match device (rule ∷ rules) =
    if query_matches rule.query device then Some rule else first_match device rules

abbrev pub Admits : DeviceRecord → List Rule → Type 0
Admits device rules = (rule : Rule) × (first_match device rules ≡ Some rule) × (rule.target ≡ Allow)

-- it allows a live device of good record by all that is known of it
pub record IsMadeOf (ds : List Device) (with_port : Bool) (made : Rule) : Type 0 where
  pub i : ℕ
  pub d : Device
  pub device : DeviceRecord
  pub live : Live ds i d
  pub good : judged_in ds d ≡ Good device
  pub rule : made ≡ generated_of device Allow with_port
