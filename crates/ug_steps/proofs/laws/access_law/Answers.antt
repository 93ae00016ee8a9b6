use Rattle.ug_steps.proofs.AccessLines.{access_text}
use Rattle.ug_steps.proofs.laws.access_law.Goals as goal

pub returns : goal.returns
returns c = access_text
