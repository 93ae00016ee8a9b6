use Rattle.ug_steps.proofs.LineReads.{line_text}
use Rattle.ug_steps.proofs.laws.lines_law.Goals as goal

pub returns : goal.returns
returns c = line_text
