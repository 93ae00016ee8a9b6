use Rattle.std.proofs.Common.{◌≡◌, ◌≤◌, ◌+◌, drop, []}
use Rattle.ug_types.specs.Limits.{text_limit}
use Rattle.ug_conf.specs.FolderFiles.{folder_length}
use Rattle.ug_serve.specs.Folders.{ReadsFiles}
use Rattle.ug_serve.proofs.folder.read_files.Given as goal

-- a run of what is left ends a run of the whole
abbrev pub invariant-loop-name : goal.invariant-loop-name
invariant-loop-name g l = record {
  runs : (r : _) (t : _) → ReadsFiles g.F.ConfFiles.gives l.folder (drop l.name-index l.names) l.gathered.files l.files r t → ReadsFiles g.F.ConfFiles.gives l.folder l.names [] l.fn.files r t;
  left : folder_length l.gathered.files + l.gathered.left ≡ text_limit;
  counted : g.F.ConfFiles.faults l.fn.files ≤ g.F.ConfFiles.faults l.files;
}
