use Rattle.std.proofs.Common.{[]}
use Rattle.ug_sessions.specs.Reading.{reading_all}
use Rattle.ug_sessions.proofs.Tried.{walk_steps}
use Rattle.ug_sessions.proofs.laws.reading_tries_no_other.Goals as goal

pub returns : goal.returns
unfolding reading_all
returns c = λ ready ss t steps r h. walk_steps ready [] ss t steps r h
