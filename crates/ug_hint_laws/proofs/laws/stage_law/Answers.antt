use Rattle.ug_core.specs.Event.{handling}
use Rattle.ug_hint_laws.proofs.Runnable.{still_run}
use Rattle.ug_hint_laws.proofs.Stages.{compares_stages}
use Rattle.ug_hint_laws.proofs.Still.{still_runs}
use Rattle.ug_hint_laws.proofs.laws.stage_law.Goals as goal

pub returns-clause-alike : goal.returns-clause-alike
returns-clause-alike c = λ names k d. compares_stages names k d

pub returns-clause-there : goal.returns-clause-there
returns-clause-there c = λ k d s. still_run (handling d) k s

pub returns-clause-runs : goal.returns-clause-runs
returns-clause-runs c = λ k d e l s h. still_runs (handling d) k e l s h
