use Rattle.ug_hint_laws.proofs.Comparison.{compares}
use Rattle.ug_hint_laws.proofs.laws.comparison_law.Goals as goal

pub returns : goal.returns
returns g c = λ names k w. compares g.A.Judge.answer g.A.Judge.later names k w
