use Rattle.ug_store.proofs.Standing.{stands_after, stands_within, reads_standing}
use Rattle.ug_store.proofs.laws.history_law.Goals as goal

pub returns-clause-after : goal.returns-clause-after
returns-clause-after c = stands_after

pub returns-clause-within : goal.returns-clause-within
returns-clause-within c = stands_within

pub returns-clause-reading : goal.returns-clause-reading
returns-clause-reading c = reads_standing
