use Rattle.ug_sessions.specs.Reading.{reading_all}
use Rattle.ug_sessions.specs.Sending.{flushing_all}
use Rattle.ug_sessions.proofs.Counts.{reading_counts, flushing_counts}
use Rattle.ug_sessions.proofs.laws.closings_are_counted.Goals as goal

pub returns-clause-reads : goal.returns-clause-reads
unfolding reading_all
returns-clause-reads c = λ ready ss t steps r h. reading_counts ready ss t steps r h

pub returns-clause-flushes : goal.returns-clause-flushes
unfolding flushing_all
returns-clause-flushes c = λ ss t steps r h. flushing_counts ss t steps r h
