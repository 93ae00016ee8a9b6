use Rattle.ug_acl.proofs.Members.{granted, allowed}
use Rattle.ug_acl.proofs.laws.members_law.Goals as goal

pub returns-clause-granted : goal.returns-clause-granted
returns-clause-granted c = granted

pub returns-clause-allowed : goal.returns-clause-allowed
returns-clause-allowed c = allowed
