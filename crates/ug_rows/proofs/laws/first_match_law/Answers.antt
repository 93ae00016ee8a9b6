use Rattle.ug_rows.proofs.FirstMatches.{first_matches}
use Rattle.ug_rows.proofs.laws.first_match_law.Goals as goal

pub returns : goal.returns
returns c = first_matches
