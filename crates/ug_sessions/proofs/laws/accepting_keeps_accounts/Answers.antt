use Rattle.std.proofs.Common.{[]}
use Rattle.ug_sessions.specs.Accepting.{accepting_all}
use Rattle.ug_sessions.proofs.Accepted.{accepts_sound}
use Rattle.ug_sessions.proofs.laws.accepting_keeps_accounts.Goals as goal

pub returns : goal.returns
unfolding accepting_all
returns c = λ holds before said handed ready ls x steps r a h k. accepts_sound holds said handed ready before [] ls x steps r a h k
