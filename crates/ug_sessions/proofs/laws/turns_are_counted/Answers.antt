use Rattle.ug_sessions.proofs.TurnCounts.{turn_counts}
use Rattle.ug_sessions.proofs.laws.turns_are_counted.Goals as goal

pub returns : goal.returns
returns c = turn_counts
