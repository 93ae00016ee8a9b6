use Rattle.std.proofs.Common.{◌≡◌, ◌++◌, length}
use Rattle.ug_script.specs.Replay.{quoted_lines}
use Rattle.ug_script.proofs.quoting.push_quoted_lines.Given as goal

-- what is still to come ends the whole text
abbrev pub invariant-loop-rest : goal.invariant-loop-rest
invariant-loop-rest l = l.text.items ++ quoted_lines l.rest ≡ l.fn.text.items ++ quoted_lines l.fn.lines

abbrev pub decreases-loop-rest : goal.decreases-loop-rest
decreases-loop-rest l = length l.rest
