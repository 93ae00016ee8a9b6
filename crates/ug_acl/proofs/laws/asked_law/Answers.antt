use Rattle.ug_acl.proofs.Unions.{asked_for}
use Rattle.ug_acl.proofs.laws.asked_law.Goals as goal

pub returns : goal.returns
returns c = λ asked section privilege. asked_for section privilege asked
