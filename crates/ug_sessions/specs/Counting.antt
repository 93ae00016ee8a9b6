-- What is counted for sessions that are closed.
use Rattle.std.specs.Prelude.{List, [], ◌∷◌}
use Rattle.ug_sessions.specs.declared.session.Session.{Session}
use Rattle.ug_sessions.specs.declared.session.Turn.{Turn}
use Rattle.ug_sessions.specs.declared.session.Life.{Life}
use Rattle.ug_sessions.specs.declared.session.Life.TheVariants as life
use Rattle.ug_sessions.specs.Sessions.{counted_as}

-- a session whose link is closed, and wasn't before, is counted once, for what it was closed
abbrev pub counted_if_closed : Life → Life → Turn → Turn
counted_if_closed (life.Closed v) after t = t
counted_if_closed life.Open life.Open t = t
counted_if_closed life.Open (life.Doomed w) t = t
counted_if_closed life.Open (life.Closed w) t = counted_as w t
counted_if_closed (life.Doomed v) life.Open t = t
counted_if_closed (life.Doomed v) (life.Doomed w) t = t
counted_if_closed (life.Doomed v) (life.Closed w) t = counted_as w t

-- each of the sessions, from what it was to what it is
abbrev pub counted_over : List Session → List Session → Turn → Turn
counted_over [] after t = t
counted_over (s ∷ before) [] t = t
counted_over (s ∷ before) (u ∷ after) t =
    counted_over before after (counted_if_closed s.life u.life t)
