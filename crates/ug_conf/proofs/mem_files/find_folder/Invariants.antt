use Rattle.std.proofs.Common.{◌≡◌, drop}
use Rattle.std.specs.List.{find}
use Rattle.std.proofs.Common.{nat_eq}
use Rattle.ug_conf.specs.Files.{pointwise}
use Rattle.ug_conf.proofs.mem_files.find_folder.Given as goal

abbrev pub invariant-loop-folder : goal.invariant-loop-folder
invariant-loop-folder l = find (λ f. pointwise nat_eq f.path l.path) (drop l.folder-index l.folders) ≡ find (λ f. pointwise nat_eq f.path l.path) l.folders
