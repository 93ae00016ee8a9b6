use Rattle.ug_store.proofs.Mishaps.{plan_last, plan_other}
use Rattle.ug_store.proofs.laws.mishap_law.Goals as goal

pub returns-clause-last : goal.returns-clause-last
returns-clause-last c = plan_last

pub returns-clause-other : goal.returns-clause-other
returns-clause-other c = plan_other
