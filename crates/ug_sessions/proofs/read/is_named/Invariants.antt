use Rattle.std.proofs.Common.{◌≡◌, drop}
use Rattle.ug_sessions.specs.Tokens.{names_session}
use Rattle.ug_sessions.proofs.read.is_named.Given as goal

abbrev pub invariant-loop-token : goal.invariant-loop-token
invariant-loop-token l = names_session (drop l.token-index l.ready) l.id ≡ names_session l.ready l.id
