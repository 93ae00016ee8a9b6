-- A line that was noted, and what stands behind it.
use Rattle.ug_audit.proofs.StartNoting.{took_noted, none_left}
use Rattle.ug_audit.proofs.laws.start_noted_law.Goals as goal

pub returns : goal.returns
returns c = record { texts = took_noted; none = none_left }
