use Rattle.std.proofs.Common.{◌≡◌, ◌≤◌, ◌+◌, length}
use Rattle.ug_lines.specs.Lines.{lines_of}
use Rattle.ug_lines.specs.LineReading.{lines_read, text_read}
use Rattle.ug_lines.proofs.line_reading.read_lines.Given as goal

-- what is still to be read ends the whole reading
abbrev pub invariant-loop-rest : goal.invariant-loop-rest
invariant-loop-rest g l = record {
  here : lines_read g.R.LineReader.reads l.number (g.R.LineReader.state l.reader) (lines_of l.rest) ≡ text_read g.R.LineReader.reads (g.R.LineReader.state l.fn.reader) l.fn.text;
  kept : g.R.LineReader.keeps l.number l.reader;
  number : l.number + length l.rest ≤ length l.fn.text + 1;
}

abbrev pub decreases-loop-rest : goal.decreases-loop-rest
decreases-loop-rest g l = length l.rest
