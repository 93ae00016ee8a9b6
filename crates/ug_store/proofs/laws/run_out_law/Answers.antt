use Rattle.ug_store.specs.MemLaw.{mem_stays_out}
use Rattle.ug_store.proofs.laws.run_out_law.Goals as goal

pub returns : goal.returns
returns c = mem_stays_out
