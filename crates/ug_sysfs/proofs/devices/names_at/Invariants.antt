use Rattle.std.proofs.Common.{◌≡◌, ◌++◌, drop}
use Rattle.ug_sysfs.specs.Living.{names_at_places}
use Rattle.ug_sysfs.proofs.devices.names_at.Given as goal

abbrev pub invariant-loop-place : goal.invariant-loop-place
invariant-loop-place l = l.names ++ names_at_places (drop l.place-index l.places) l.devices ≡ names_at_places l.places l.devices
