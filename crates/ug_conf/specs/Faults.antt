-- What is wrong with a line of settings, and where.
use Rattle.std.specs.Prelude.{ℕ}
use Rattle.ug_types.specs.declared.text_fault.Fault as types
use Rattle.ug_types.specs.declared.text_fault.LineFault as types_line
use Rattle.ug_conf.specs.declared.fault.FaultKind.{FaultKind}
use Rattle.ug_conf.specs.declared.fault.FaultKind.TheVariants.{NoEquals, UnknownKey, BadValue, Repeated}

-- the number of a kind of fault
abbrev pub setting_fault_number : FaultKind → ℕ
setting_fault_number NoEquals = 1
setting_fault_number UnknownKey = 2
setting_fault_number BadValue = 3
setting_fault_number Repeated = 4

abbrev pub SettingFault : Type 0
SettingFault = types.Fault FaultKind

abbrev pub SettingLineFault : Type 0
SettingLineFault = types_line.LineFault FaultKind
