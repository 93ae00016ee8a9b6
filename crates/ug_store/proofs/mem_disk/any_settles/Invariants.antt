use Rattle.std.proofs.Common.{◌≡◌, drop}
use Rattle.ug_store.specs.Passed.{any_settles}
use Rattle.ug_store.proofs.mem_disk.any_settles.Given as goal

abbrev pub invariant-loop-call : goal.invariant-loop-call
invariant-loop-call l = any_settles (drop l.call-index l.passed) ≡ any_settles l.passed
