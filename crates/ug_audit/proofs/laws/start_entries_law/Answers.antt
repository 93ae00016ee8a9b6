-- No entry of the start has another's line.
use Rattle.ug_audit.proofs.laws.start_entries_law.Goals as goal
use Rattle.ug_audit.proofs.StartRead.{one_start, start_apart, start_on_line}

pub returns : goal.returns
returns c = record { one = one_start; apart = start_apart; line = start_on_line }
