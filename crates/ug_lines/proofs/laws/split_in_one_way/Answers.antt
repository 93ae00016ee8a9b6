use Rattle.ug_lines.proofs.Splitting.{splits, splits-only}
use Rattle.ug_lines.proofs.laws.split_in_one_way.Goals as goal

pub returns-clause-splits : goal.returns-clause-splits
returns-clause-splits c = splits

pub returns-clause-only : goal.returns-clause-only
returns-clause-only c = splits-only
