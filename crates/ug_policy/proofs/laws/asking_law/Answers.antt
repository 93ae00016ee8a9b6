use Rattle.ug_policy.proofs.Unasked.{unasked}
use Rattle.ug_policy.proofs.laws.asking_law.Goals as goal

pub returns : goal.returns
returns c = unasked
