use Rattle.ug_told_laws.proofs.Stages.{keep_told}
use Rattle.ug_told_laws.proofs.laws.told_law.Goals as goal

pub returns : goal.returns
returns c = keep_told
