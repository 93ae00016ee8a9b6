-- Why a daemon doesn't start, and what is told of it.
use Rattle.std.specs.Prelude.{ℕ, List, [], ◌∷◌, Option, Some, None, if◌then◌else◌, slice_get}
use Rattle.ug_types.specs.declared.text_fault.FileFault.{FileFault}
use Rattle.ug_types.specs.declared.text_fault.FileFault.TheVariants as file
use Rattle.ug_conf.specs.FolderFiles.{is_rule_file_name}
use Rattle.ug_audit.specs.declared.start_entry.ConfigPart.{ConfigPart}
use Rattle.ug_audit.specs.declared.start_entry.ConfigPart.TheVariants as part
use Rattle.ug_audit.specs.declared.start_entry.StartEntry.{StartEntry}
use Rattle.ug_audit.specs.declared.start_entry.StartEntry.TheVariants as entry
use Rattle.ug_core.specs.declared.start_fault.StartFault.{StartFault}
use Rattle.ug_core.specs.declared.start_fault.StartFault.TheVariants as fault
use Rattle.ug_serve.specs.declared.not_started.NotStarted.{NotStarted}
use Rattle.ug_serve.specs.declared.not_started.NotStarted.TheVariants as why

-- the part as a whole isn't taken
abbrev pub refused_whole : ConfigPart → NotStarted
refused_whole what = why.Refused what (record { line = 0; kind = 0; place = 0 })

-- an access file isn't taken for that fault
abbrev pub refusal_of_fault : FileFault → NotStarted
refusal_of_fault (file.Bad bad) = why.Refused part.Access bad
refusal_of_fault file.Memory = why.Memory

-- the exit status of a daemon that doesn't start
abbrev pub start_status : NotStarted → ℕ
start_status (why.Refused what bad) = 3
start_status why.FilesFailed = 4
start_status why.Memory = 6
start_status why.DiskFailed = 9

-- what is noted of a part that isn't taken
abbrev pub refusal_entries : NotStarted → List StartEntry
refusal_entries (why.Refused what bad) = entry.Refused what bad.line bad.kind bad.place ∷ []
refusal_entries why.FilesFailed = []
refusal_entries why.DiskFailed = []
refusal_entries why.Memory = []

-- a file of the folder of rules, by its name, which counts
abbrev pub part_of_file : List ℕ → ConfigPart
part_of_file name = if is_rule_file_name name then part.FolderFile name else part.Folder

abbrev pub part_if_named : Option (List ℕ) → ConfigPart
part_if_named None = part.Folder
part_if_named (Some name) = part_of_file name

-- the one at that place among these
abbrev pub part_at : List (List ℕ) → ℕ → ConfigPart
part_at names place = part_if_named (slice_get names place)

-- what keeps a daemon from its start, whose folder of rules has files of those names
abbrev pub refusal_of_start : List (List ℕ) → StartFault → NotStarted
refusal_of_start names (fault.Disk count) = why.DiskFailed
refusal_of_start names (fault.BadFolder file bad) = why.Refused (part_at names file) bad
refusal_of_start names fault.FolderTooLong = refused_whole part.Folder
refusal_of_start names (fault.BadRules bad) = why.Refused part.Rules bad
refusal_of_start names fault.TooLong = refused_whole part.Rules
refusal_of_start names fault.TooMany = refused_whole part.Rules
refusal_of_start names fault.Memory = why.Memory
