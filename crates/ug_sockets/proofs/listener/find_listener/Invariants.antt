use Rattle.std.proofs.Common.{◌≡◌, drop}
use Rattle.std.specs.List.{find}
use Rattle.ug_sockets.specs.Sockets.{has_listener_number}
use Rattle.ug_sockets.proofs.listener.find_listener.Given as goal

abbrev pub invariant-loop-listener : goal.invariant-loop-listener
invariant-loop-listener l = find (has_listener_number l.number) (drop l.listener-index l.listeners) ≡ find (has_listener_number l.number) l.listeners
