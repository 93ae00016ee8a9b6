use Rattle.ug_hint_laws.proofs.Stages.{compares_by_rules}
use Rattle.ug_hint_laws.proofs.laws.policy_law.Goals as goal

pub returns : goal.returns
returns c = λ names k w. compares_by_rules names k w
