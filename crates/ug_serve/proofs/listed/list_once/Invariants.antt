use Rattle.std.proofs.Common.{take}
use Rattle.ug_serve.specs.Access.{AreOnce}
use Rattle.ug_serve.proofs.listed.list_once.Given as goal

abbrev pub invariant-loop-who : goal.invariant-loop-who
invariant-loop-who l = AreOnce (take l.who-index l.added) l.principals.items
