use Rattle.ug_sessions.proofs.LinesRead.{one_on}
use Rattle.ug_sessions.proofs.laws.reading_keeps_lines.Goals as goal

pub returns : goal.returns
returns c = one_on
