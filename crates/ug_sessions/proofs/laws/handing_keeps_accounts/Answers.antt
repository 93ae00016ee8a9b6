use Rattle.ug_sessions.proofs.Handings.{hands_keep, passes_keep, gives_up_keep}
use Rattle.ug_sessions.proofs.laws.handing_keeps_accounts.Goals as goal

pub returns-clause-hands : goal.returns-clause-hands
returns-clause-hands c = hands_keep

pub returns-clause-passes : goal.returns-clause-passes
returns-clause-passes c = passes_keep

pub returns-clause-gives_up : goal.returns-clause-gives_up
returns-clause-gives_up c = gives_up_keep
