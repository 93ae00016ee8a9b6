use Rattle.std.proofs.Common.{◌≡◌, ◌≤◌, length}
use Rattle.ug_sockets.proofs.socket_waiter.SocketWaiter.wait_second.Given as goal

abbrev pub invariant-loop-look : goal.invariant-loop-look
invariant-loop-look g l = record {
  room : length l.into ≡ 256;
  bound : l.count ≤ 256;
  faults : l.self.faults ≡ l.fn.self.faults;
}
