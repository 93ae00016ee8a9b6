-- What is asked of a session's link when it is read.
use Rattle.std.specs.Prelude.{ℕ, List, [], Bool, true, false}
use Rattle.ug_links.specs.declared.waiter.Ready.{Ready}
use Rattle.ug_links.specs.declared.step.Reading.{Reading}
use Rattle.ug_links.specs.declared.step.Reading.TheVariants as given
use Rattle.ug_links.specs.Talk.{Talk, Return, Read, Close, Room, and_then, walk, upto}
use Rattle.ug_sessions.specs.declared.session.Session.{Session}
use Rattle.ug_sessions.specs.declared.session.Turn.{Turn}
use Rattle.ug_sessions.specs.declared.session.Life.{Life}
use Rattle.ug_sessions.specs.declared.session.Life.TheVariants as life
use Rattle.ug_sessions.specs.declared.session.Why.TheVariants as why
use Rattle.ug_sessions.specs.Tokens.{is_read}
use Rattle.ug_sessions.specs.Sessions.{counted_as, fed, not_owed, behind_its_end, closed_for, unsending, emptied}

abbrev pub after_feed : Session → Turn → List ℕ → Bool → Talk (Bool × (Session × Turn))
after_feed s t bytes true = Return (true, (fed s bytes, t))
after_feed s t bytes false =
    Close s.id (Return (false, (closed_for why.Memory (emptied s), counted_as why.Memory t)))

abbrev pub after_read_answer : Session → Turn → Reading → Talk (Bool × (Session × Turn))
after_read_answer s t (given.Bytes bytes) = Room (after_feed s t bytes)
after_read_answer s t given.NotYet = Return (false, (not_owed s, t))
after_read_answer s t given.End = Return (false, (behind_its_end s, t))
after_read_answer s t given.Failed =
    Close s.id (Return (false, (closed_for why.Failed (unsending s), counted_as why.Failed t)))

-- one piece, and whether there may be another
unfoldable pub reading_piece : Session × Turn → Talk (Bool × (Session × Turn))
reading_piece x = Read x.0.id 4096 (after_read_answer x.0 x.1)

abbrev pub closing_by : Life → Session → Turn → Talk (Session × Turn)
closing_by life.Open s t = Return (s, t)
closing_by (life.Closed w) s t = Return (s, t)
closing_by (life.Doomed w) s t = Close s.id (Return (closed_for w s, counted_as w t))

-- a session that was closed since the last call: its link is closed now, and it is counted
unfoldable pub closing_doomed : Session → Turn → Talk (Session × Turn)
closing_doomed s t = closing_by s.life s t

-- an open session that is named or owed a try is read
abbrev pub reading_if : Bool → Session → Turn → Talk (Session × Turn)
reading_if true s t = upto reading_piece 16 (s, t)
reading_if false s t = Return (s, t)

unfoldable pub reading_one : List Ready → Session → Turn → Talk (Session × Turn)
reading_one ready s t = and_then (closing_doomed s t) (λ r. reading_if (is_read ready r.0) r.0 r.1)

-- all sessions in the order in which they were accepted
unfoldable pub reading_all : List Ready → List Session → Turn → Talk (List Session × Turn)
reading_all ready sessions t = walk (reading_one ready) [] sessions t
