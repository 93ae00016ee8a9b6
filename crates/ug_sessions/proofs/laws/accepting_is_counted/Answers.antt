use Rattle.ug_sessions.proofs.TurnCounts.{accepting_counts}
use Rattle.ug_sessions.proofs.laws.accepting_is_counted.Goals as goal

pub returns : goal.returns
returns c = accepting_counts
