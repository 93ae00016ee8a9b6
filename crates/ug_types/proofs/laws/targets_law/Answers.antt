use Rattle.ug_types.proofs.AccessWords.{target_law}
use Rattle.ug_types.proofs.laws.targets_law.Goals as goal

pub returns : goal.returns
returns c = target_law
