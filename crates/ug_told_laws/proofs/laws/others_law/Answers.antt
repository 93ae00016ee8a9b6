use Rattle.ug_told_laws.proofs.Frames.{names_apart}
use Rattle.ug_told_laws.proofs.laws.others_law.Goals as goal

pub returns : goal.returns
returns g c = names_apart g.A.Judge.answer g.A.Judge.later
