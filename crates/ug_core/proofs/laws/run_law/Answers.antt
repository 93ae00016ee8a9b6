use Rattle.ug_core.proofs.Chained.{is_run}
use Rattle.ug_core.proofs.Verdicts.{steps_later}
use Rattle.ug_core.proofs.laws.run_law.Goals as goal

pub returns : goal.returns
returns c = record { runs = is_run; later = steps_later }
