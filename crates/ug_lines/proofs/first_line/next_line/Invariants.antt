use Rattle.std.proofs.Common.{◌≡◌, take, drop}
use Rattle.ug_lines.specs.Lines.{lines_from, lines_of}
use Rattle.ug_lines.proofs.first_line.next_line.Given as goal

abbrev pub invariant-loop-i : goal.invariant-loop-i
invariant-loop-i l = lines_from (take l.i l.text) (drop l.i l.text) ≡ lines_of l.text
