use Rattle.std.proofs.Common.{◌≡◌, ◌+◌, drop}
use Rattle.std.specs.List.{position_or_len}
use Rattle.ug_sockets.specs.Sockets.{is_session_open}
use Rattle.ug_sockets.proofs.socket_folder.place_of.Given as goal

abbrev pub invariant-loop-place : goal.invariant-loop-place
invariant-loop-place l = l.place + position_or_len (is_session_open l.id) (drop l.place l.peers) ≡ position_or_len (is_session_open l.id) l.peers
