use Rattle.ug_told_laws.proofs.Stages.{behind_each}
use Rattle.ug_told_laws.proofs.laws.announced_law.Goals as goal

pub returns : goal.returns
returns c = behind_each
