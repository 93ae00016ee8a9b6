use Rattle.std.proofs.Common.{◌≤◌, ◌-◌, length}
use Rattle.ug_words.proofs.string.room_for.Given as goal

abbrev pub invariant-loop-room : goal.invariant-loop-room
invariant-loop-room l = l.room ≤ length l.bytes

abbrev pub decreases-loop-room : goal.decreases-loop-room
decreases-loop-room l = length l.bytes - l.room
