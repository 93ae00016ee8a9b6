-- The first rule of a list that is made of a device.
use Rattle.std.specs.Prelude.{◌≡◌, ℕ, Bool, List, ◌∷◌, ◌++◌}
use Rattle.ug_types.specs.Elements.{Has}
use Rattle.ug_types.specs.declared.record.DeviceRecord.{DeviceRecord}
use Rattle.ug_policy.specs.declared.entry.Mark.TheVariants as mark
use Rattle.ug_policy.specs.declared.entry.RuleEntry.{RuleEntry}
use Rattle.ug_print.specs.Generated.{generated_of}

-- it is permanent, and has the query of the device's generated rule, no conditions and no label
abbrev pub IsMade : DeviceRecord → Bool → RuleEntry → Type 0
IsMade device with_port e =
    (e.mark ≡ mark.File) × (e.rule ≡ generated_of device e.rule.target with_port)

abbrev pub HasNoneMade : DeviceRecord → Bool → List RuleEntry → Type 0
HasNoneMade device with_port rules = (e : RuleEntry) → Has rules e → IsMade device with_port e → ⊥

-- none in front of it is
pub record IsFirstMade (device : DeviceRecord) (with_port : Bool) (rules : List RuleEntry)
    (id : ℕ) : Type 0 where
  pub front : List RuleEntry
  pub e : RuleEntry
  pub back : List RuleEntry
  pub at : rules ≡ front ++ e ∷ back
  pub has : e.id ≡ id
  pub made : IsMade device with_port e
  pub first : HasNoneMade device with_port front
