use Rattle.std.proofs.Common.{◌≡◌, count_by, take}
use Rattle.ug_sessions.specs.Sessions.{is_open_session}
use Rattle.ug_sessions.proofs.accept.count_open.Given as goal

abbrev pub invariant-loop-session : goal.invariant-loop-session
invariant-loop-session l = l.count ≡ count_by is_open_session (take l.session-index l.sessions)
