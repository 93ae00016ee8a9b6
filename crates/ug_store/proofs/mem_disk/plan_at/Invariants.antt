use Rattle.std.proofs.Common.{◌≡◌, None, drop}
use Rattle.ug_store.specs.Scripted.{plan_at}
use Rattle.ug_store.proofs.mem_disk.plan_at.Given as goal

abbrev pub invariant-loop-plan : goal.invariant-loop-plan
invariant-loop-plan l = plan_at l.call l.found (drop l.plan-index l.planned) ≡ plan_at l.call None l.planned
