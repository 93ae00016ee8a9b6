use Rattle.std.proofs.Common.{take}
use Rattle.ug_core.specs.Starting.{ListsFolder}
use Rattle.ug_core.proofs.folder.list_files.Given as goal

abbrev pub invariant-loop-file : goal.invariant-loop-file
invariant-loop-file l = ListsFolder (take l.file l.files) l.listed
