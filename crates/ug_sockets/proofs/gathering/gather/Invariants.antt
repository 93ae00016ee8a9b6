use Rattle.std.proofs.Common.{◌≡◌, ◌≤◌, length}
use Rattle.ug_sockets.proofs.gathering.gather.Given as goal

abbrev pub invariant-loop-event : goal.invariant-loop-event
invariant-loop-event l = record {
  within : l.count ≤ length l.into;
  same : length l.into ≡ length l.fn.into;
}
