use Rattle.std.proofs.Common.{sym, subst}
use Rattle.std.proofs.lemmas.List.Sorted.{IsNonDecreasingBy-drop}
use Rattle.ug_sysfs.specs.Queue.{AreByTurn, turn_of}
use Rattle.ug_sysfs.proofs.queue.Queue.pop.Goals as goal

pub invariant_of-self : goal.invariant_of-self
invariant_of-self c = subst AreByTurn (sym c.pop_front.ensures.rest) (IsNonDecreasingBy-drop turn_of 1 c.self.inside.moves.items c.self.invariant)
