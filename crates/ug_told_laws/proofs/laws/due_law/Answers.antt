use Rattle.ug_told_laws.proofs.Dues.{events_leave}
use Rattle.ug_told_laws.proofs.laws.due_law.Goals as goal

pub returns : goal.returns
returns c = events_leave
