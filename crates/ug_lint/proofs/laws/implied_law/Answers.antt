use Rattle.ug_lint.proofs.Matches.{query_less}
use Rattle.ug_lint.proofs.laws.implied_law.Goals as goal

pub returns : goal.returns
returns c = query_less
