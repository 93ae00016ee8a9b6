-- One write behind another.
use Rattle.ug_table.proofs.Brought.{behind_writes}
use Rattle.ug_table.proofs.bring.bring.Goals as goal

pub returns-clause-runs : goal.returns-clause-runs
returns-clause-runs g c = behind_writes _ _ _ _ _ _ _ _ _ _ c.make_writes-settled.ensures.runs (c.close_gone.ensures _)

pub returns-clause-journal : goal.returns-clause-journal
returns-clause-journal g c = c.make_writes-settled.ensures.journal
