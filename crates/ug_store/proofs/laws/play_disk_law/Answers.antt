use Rattle.ug_store.proofs.Playing.{saves_as_played, reads_as_played}
use Rattle.ug_store.proofs.laws.play_disk_law.Goals as goal

pub returns-clause-saves : goal.returns-clause-saves
returns-clause-saves c = saves_as_played

pub returns-clause-reads : goal.returns-clause-reads
returns-clause-reads c = reads_as_played
