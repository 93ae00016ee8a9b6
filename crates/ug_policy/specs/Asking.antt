-- Which rules ask for the devices that are allowed.
use Rattle.std.specs.Prelude.{Bool, true, false, ◌&&◌, Option, Some, None}
use Rattle.std.specs.List.{list_any}
use Rattle.ug_types.specs.declared.record.DeviceRecord.{DeviceRecord}
use Rattle.ug_types.specs.declared.rule.CondKind.{CondKind}
use Rattle.ug_types.specs.declared.rule.CondKind.TheVariants as kind
use Rattle.ug_types.specs.declared.rule.Conds.{Conds}
use Rattle.ug_policy.specs.declared.entry.RuleEntry.{RuleEntry}
use Rattle.ug_policy.specs.Matching.{matched}

abbrev pub asks_devices : CondKind → Bool
asks_devices (kind.LocalTime begin end) = false
asks_devices (kind.AllowedMatches query) = true
asks_devices (kind.RuleApplied past) = false
asks_devices (kind.RuleEvaluated past) = false
asks_devices (kind.Random billionths) = false
asks_devices kind.True = false
asks_devices kind.False = false

-- one of the conditions does
abbrev pub conditions_ask : Option Conds → Bool
conditions_ask None = false
conditions_ask (Some conds) = list_any (λ c. asks_devices c.kind) conds.items

-- a rule that doesn't match asks for none
abbrev pub rule_asks : DeviceRecord → RuleEntry → Bool
rule_asks dev e = matched dev e && conditions_ask e.rule.conds
