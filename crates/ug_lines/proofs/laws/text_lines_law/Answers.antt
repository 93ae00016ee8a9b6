use Rattle.ug_lines.proofs.TextLines.{text_lines}
use Rattle.ug_lines.proofs.laws.text_lines_law.Goals as goal

pub returns : goal.returns
returns c = text_lines
