use Rattle.std.proofs.Common.{◌≡◌, [], length}
use Rattle.ug_lines.specs.Lines.{lines_of}
use Rattle.ug_script.specs.Summing.{with_lines}
use Rattle.ug_script.proofs.totals.Totals.with_text.Given as goal

-- what is still to come makes the numbers of the whole text
abbrev pub invariant-loop-rest : goal.invariant-loop-rest
invariant-loop-rest l = record {
  whole : with_lines (lines_of l.rest) l.totals ≡ with_lines (lines_of l.fn.text) l.fn.self;
  none : with_lines [] l.totals ≡ l.totals;
}

abbrev pub decreases-loop-rest : goal.decreases-loop-rest
decreases-loop-rest l = length l.rest
