use Rattle.std.proofs.Common.{◌≡◌, [], drop}
use Rattle.ug_lines.specs.Lines.{lines_of}
use Rattle.ug_script.specs.Replay.{lines_text}
use Rattle.ug_script.specs.Summing.{with_lines}
use Rattle.ug_script.proofs.totals.Totals.with_entries.Given as goal

-- what is still to come makes the numbers of all entries
abbrev pub invariant-loop-entry : goal.invariant-loop-entry
invariant-loop-entry l = record {
  whole : with_lines (lines_of (lines_text (drop l.entry-index l.entries))) l.totals ≡ with_lines (lines_of (lines_text l.fn.entries)) l.fn.self;
  none : with_lines [] l.totals ≡ l.totals;
}
