-- What is wrong with an access file, and where.
use Rattle.std.specs.Prelude.{ℕ}
use Rattle.ug_types.specs.declared.text_fault.Fault as types
use Rattle.ug_types.specs.declared.text_fault.LineFault as types_line
use Rattle.ug_types.specs.declared.text_fault.FileFault.{FileFault}
use Rattle.ug_types.specs.declared.text_fault.FileFault.TheVariants as file
use Rattle.ug_types.specs.TextFaults.{fault_in_line, fault_of_kind}
use Rattle.ug_acl.specs.declared.fault.FaultKind.{FaultKind}
use Rattle.ug_acl.specs.declared.fault.FaultKind.TheVariants.{NoEquals, UnknownSection, BadPrivilege, Repeated, BadName}

-- the number of a kind of fault
abbrev pub number_of_kind : FaultKind → ℕ
number_of_kind NoEquals = 1
number_of_kind UnknownSection = 2
number_of_kind BadPrivilege = 3
number_of_kind Repeated = 4
number_of_kind BadName = 5

abbrev pub GrantFault : Type 0
GrantFault = types.Fault FaultKind

abbrev pub GrantLineFault : Type 0
GrantLineFault = types_line.LineFault FaultKind

-- a file whose name is that of no user or group
abbrev pub bad_name : FileFault
bad_name = file.Bad (fault_in_line number_of_kind 0 (fault_of_kind BadName 0))
