use Rattle.ug_script.proofs.EventCalls.{stays_at_calls}
use Rattle.ug_script.proofs.laws.calls_law.Goals as goal

pub returns : goal.returns
returns c = stays_at_calls
