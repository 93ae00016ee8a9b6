use Rattle.std.proofs.Common.{◌≡◌, ◌≤◌, length, take}
use Rattle.ug_lines.specs.Blanks as blanks
use Rattle.ug_lines.proofs.blanks.without_end.Given as goal

abbrev pub invariant-loop-end : goal.invariant-loop-end
invariant-loop-end l = record {
  here : blanks.without_end (take l.end l.text) ≡ blanks.without_end l.text;
  within : l.end ≤ length l.text;
}

abbrev pub decreases-loop-end : goal.decreases-loop-end
decreases-loop-end l = l.end
