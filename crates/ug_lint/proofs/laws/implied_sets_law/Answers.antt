use Rattle.ug_lint.proofs.Matches.{set_less}
use Rattle.ug_lint.proofs.laws.implied_sets_law.Goals as goal

pub returns : goal.returns
returns g c = set_less
