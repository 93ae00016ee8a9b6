use Rattle.ug_core.proofs.Stopped.{starts_just, starts_sure, stops_leave_rules}
use Rattle.ug_core.proofs.laws.stop_law.Goals as goal

pub returns-clause-leaves : goal.returns-clause-leaves
returns-clause-leaves c = stops_leave_rules

pub returns-clause-starts : goal.returns-clause-starts
returns-clause-starts c = starts_just

pub returns-clause-sure : goal.returns-clause-sure
returns-clause-sure c = starts_sure
