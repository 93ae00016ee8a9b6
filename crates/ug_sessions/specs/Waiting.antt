-- How many whole lines were not handed out yet.
use Rattle.std.specs.Prelude.{ℕ, ◌+◌, List, [], ◌∷◌, length}
use Rattle.ug_sessions.specs.declared.session.Session.{Session}

abbrev pub lines_waiting : List Session → ℕ
lines_waiting [] = 0
lines_waiting (s ∷ ss) = length s.framer.lines + lines_waiting ss
