use Rattle.ug_hint_laws.proofs.Runnable.{still_run}
use Rattle.ug_hint_laws.proofs.Still.{still_runs}
use Rattle.ug_hint_laws.proofs.laws.still_law.Goals as goal

pub returns-clause-there : goal.returns-clause-there
returns-clause-there g c = λ p k s. still_run p k s

pub returns-clause-runs : goal.returns-clause-runs
returns-clause-runs g c = λ p k r l s h. still_runs p k r l s h
