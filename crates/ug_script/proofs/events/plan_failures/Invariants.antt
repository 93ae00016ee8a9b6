use Rattle.std.proofs.Common.{◌≡◌, ◌++◌, take}
use Rattle.ug_script.proofs.events.plan_failures.Given as goal

abbrev pub invariant-loop-planned : goal.invariant-loop-planned
invariant-loop-planned l = l.disk ≡ record l.fn.disk { planned = l.fn.disk.planned ++ take l.planned-index l.plan }
