use Rattle.ug_lines.proofs.Cutting.{cut_law}
use Rattle.ug_lines.proofs.laws.equations_law.Goals as goal

pub returns : goal.returns
returns c = cut_law
