use Rattle.std.proofs.Common.{◌≡◌, ◌+◌, take}
use Rattle.ug_types.specs.Limits.{text_limit}
use Rattle.ug_conf.specs.FolderFiles.{folder_length}
use Rattle.ug_core.proofs.folder.is_short.Given as goal

abbrev pub invariant-loop-file : goal.invariant-loop-file
invariant-loop-file l = folder_length (take l.file l.files) + l.left ≡ text_limit
