use Rattle.ug_script.proofs.Against.{are_refused}
use Rattle.ug_script.proofs.laws.refusal_law.Goals as goal

pub returns : goal.returns
returns c = are_refused
