use Rattle.ug_sessions.proofs.Refusing.{refuses}
use Rattle.ug_sessions.proofs.laws.refusing_keeps_account.Goals as goal

pub returns : goal.returns
returns c = refuses
