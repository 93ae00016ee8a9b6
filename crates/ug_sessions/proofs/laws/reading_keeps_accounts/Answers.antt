use Rattle.ug_sessions.specs.Reading.{reading_all}
use Rattle.ug_sessions.proofs.ReadKeeps.{reading_keeps}
use Rattle.ug_sessions.proofs.laws.reading_keeps_accounts.Goals as goal

pub returns : goal.returns
unfolding reading_all
returns c = λ holds before said ready ss t steps r a h. reading_keeps holds before said ready ss t steps r a h
