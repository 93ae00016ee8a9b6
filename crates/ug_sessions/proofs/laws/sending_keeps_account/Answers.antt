use Rattle.ug_sessions.proofs.Sends.{flush_keeps}
use Rattle.ug_sessions.proofs.laws.sending_keeps_account.Goals as goal

pub returns : goal.returns
returns c = flush_keeps
