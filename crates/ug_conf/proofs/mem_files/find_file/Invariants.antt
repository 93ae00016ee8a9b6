use Rattle.std.proofs.Common.{◌≡◌, drop}
use Rattle.std.specs.List.{find}
use Rattle.std.proofs.Common.{nat_eq}
use Rattle.ug_conf.specs.Files.{pointwise}
use Rattle.ug_conf.proofs.mem_files.find_file.Given as goal

abbrev pub invariant-loop-file : goal.invariant-loop-file
invariant-loop-file l = find (λ f. pointwise nat_eq f.path l.path) (drop l.file-index l.files) ≡ find (λ f. pointwise nat_eq f.path l.path) l.files
