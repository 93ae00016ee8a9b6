use Rattle.std.proofs.Common.{◌≡◌, map, take}
use Rattle.ug_serve.proofs.start.names_of.Given as goal

abbrev pub invariant-loop-file : goal.invariant-loop-file
invariant-loop-file l = l.names ≡ map (λ f. f.name) (take l.file-index l.files)
