use Rattle.ug_lines.proofs.Numerals.{decimal_law}
use Rattle.ug_lines.proofs.laws.decimals_law.Goals as goal

pub returns : goal.returns
returns c = decimal_law
