use Rattle.std.proofs.Common.{◌≡◌, drop}
use Rattle.ug_sessions.specs.Tokens.{names_listener}
use Rattle.ug_sessions.proofs.accept.is_named_listener.Given as goal

abbrev pub invariant-loop-token : goal.invariant-loop-token
invariant-loop-token l = names_listener (drop l.token-index l.ready) l.number ≡ names_listener l.ready l.number
