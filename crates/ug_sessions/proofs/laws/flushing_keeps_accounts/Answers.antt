use Rattle.ug_sessions.specs.Sending.{flushing_all}
use Rattle.ug_sessions.proofs.Lists.{flushing_keeps}
use Rattle.ug_sessions.proofs.laws.flushing_keeps_accounts.Goals as goal

pub returns : goal.returns
unfolding flushing_all
returns c = λ holds before said ss t steps r d a h. flushing_keeps holds before said ss t steps r d a h
