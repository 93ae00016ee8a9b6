-- The daemon's sockets in a folder, and the sessions that came to them.
use Rattle.std.specs.Prelude.{ℕ, nat_eq, List, ◌++◌, Bool, ◌&&◌, not, codes}
use Rattle.ug_links.specs.declared.waiter.LinkId.{LinkId}
use Rattle.ug_sockets.specs.declared.listener.Listener.{Listener}
use Rattle.ug_sockets.specs.declared.peer.Peer.{Peer}

-- a socket's path: the folder's, and in it the name with an ending
abbrev pub socket_path : List ℕ → List ℕ → List ℕ
socket_path folder name = ((folder ++ codes "/") ++ name) ++ codes ".socket"

abbrev pub has_listener_number : ℕ → Listener → Bool
has_listener_number number listener = nat_eq listener.number number

-- the session has that id, and isn't over
abbrev pub is_session_open : LinkId → Peer → Bool
is_session_open id peer = nat_eq peer.id.0 id.0 && not peer.over
