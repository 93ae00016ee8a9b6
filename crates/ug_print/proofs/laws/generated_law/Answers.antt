use Rattle.ug_print.specs.Generated.{generated_of}
use Rattle.ug_print.proofs.Alike.{alike, itself}
use Rattle.ug_print.proofs.laws.generated_law.Goals as goal

pub returns : goal.returns
unfolding generated_of
returns c = record { own = λ device target with_port. itself device with_port; alike = λ device other target with_port. alike device other with_port }
