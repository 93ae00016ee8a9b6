use Rattle.ug_host.proofs.Apart.{DifferUpTo}
use Rattle.ug_host.proofs.names.are_apart.Given as goal

abbrev pub invariant-loop-i : goal.invariant-loop-i
invariant-loop-i l = DifferUpTo l.names l.i
