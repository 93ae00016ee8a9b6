use Rattle.std.proofs.Common.{◌≡◌, ◌++◌, take}
use Rattle.ug_script.specs.FolderLines.{files_of}
use Rattle.ug_script.proofs.folder_lines.push_copies.Given as goal

abbrev pub invariant-loop-file : goal.invariant-loop-file
invariant-loop-file l = l.copies ≡ l.fn.copies ++ files_of (take l.file-index l.files)
