use Rattle.std.proofs.Common.{◌≡◌}
use Rattle.ug_script.specs.Replay as replay
use Rattle.ug_script.proofs.events.first_stop.Given as goal

abbrev pub invariant-loop-call : goal.invariant-loop-call
invariant-loop-call l = replay.first_stop l.plan l.first l.call ≡ replay.first_stop l.plan 0 l.calls

abbrev pub decreases-loop-call : goal.decreases-loop-call
decreases-loop-call l = l.call
