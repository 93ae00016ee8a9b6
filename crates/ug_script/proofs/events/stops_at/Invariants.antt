use Rattle.std.proofs.Common.{◌≡◌, None, drop}
use Rattle.ug_store.specs.Scripted.{plan_at}
use Rattle.ug_script.proofs.events.stops_at.Given as goal

abbrev pub invariant-loop-planned : goal.invariant-loop-planned
invariant-loop-planned l = plan_at l.call l.found (drop l.planned-index l.plan) ≡ plan_at l.call None l.plan
