use Rattle.ug_lines.proofs.LineReading.{good_law, bad_law}
use Rattle.ug_lines.proofs.laws.line_reading_law.Goals as goal

pub returns-clause-good : goal.returns-clause-good
returns-clause-good g c = good_law g.R.LineReader.reads

pub returns-clause-bad : goal.returns-clause-bad
returns-clause-bad g c = bad_law g.R.LineReader.reads
