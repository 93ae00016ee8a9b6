use Rattle.std.proofs.Common.{◌≡◌}
use Rattle.ug_generate.specs.Policies.{live_below}
use Rattle.ug_generate.proofs.places.live_places.Given as goal

abbrev pub invariant-loop-place : goal.invariant-loop-place
invariant-loop-place l = l.places.items ≡ live_below l.devices l.place
