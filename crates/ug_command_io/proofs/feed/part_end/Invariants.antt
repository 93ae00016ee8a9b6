use Rattle.std.proofs.Common.{length, take, ◌-◌, ◌≤◌}
use Rattle.ug_lines.specs.Splitting.{IsLine}
use Rattle.ug_command_io.proofs.feed.part_end.Given as goal

abbrev pub invariant-loop-i : goal.invariant-loop-i
invariant-loop-i l = record { within : l.i ≤ length l.bytes; front : IsLine (take l.i l.bytes) }

abbrev pub decreases-loop-i : goal.decreases-loop-i
decreases-loop-i l = length l.bytes - l.i
