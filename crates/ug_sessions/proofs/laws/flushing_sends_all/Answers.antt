use Rattle.ug_sessions.proofs.Flushed.{flush_rests}
use Rattle.ug_sessions.proofs.laws.flushing_sends_all.Goals as goal

pub returns : goal.returns
returns c = flush_rests
