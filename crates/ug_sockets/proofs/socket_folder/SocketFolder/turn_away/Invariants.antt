use Rattle.std.proofs.Common.{◌≡◌}
use Rattle.ug_sockets.proofs.socket_folder.SocketFolder.turn_away.Given as goal

abbrev pub invariant-loop : goal.invariant-loop
invariant-loop g l = record {
  faults : l.self.faults ≡ l.fn.self.faults;
  next : l.self.next ≡ l.fn.self.next;
}
