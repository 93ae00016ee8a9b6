use Rattle.std.proofs.Common.{◌≡◌, ◌++◌, drop}
use Rattle.ug_sessions.specs.States.{listeners_from}
use Rattle.ug_sessions.proofs.accept.list_listeners.Given as goal

abbrev pub invariant-loop-i : goal.invariant-loop-i
invariant-loop-i l = l.listeners.items ++ listeners_from l.i (drop l.i l.principals) ≡ listeners_from 0 l.principals
