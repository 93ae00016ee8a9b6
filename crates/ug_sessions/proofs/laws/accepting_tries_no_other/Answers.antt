use Rattle.std.proofs.Common.{[]}
use Rattle.ug_sessions.specs.Accepting.{accepting_all}
use Rattle.ug_sessions.proofs.TriedListeners.{walk_accepts}
use Rattle.ug_sessions.proofs.laws.accepting_tries_no_other.Goals as goal

pub returns : goal.returns
unfolding accepting_all
returns c = λ ready ls x steps r h. walk_accepts ready [] ls x steps r h
