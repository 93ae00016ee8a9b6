-- What is sent to the sessions, and when they are closed.
use Rattle.std.specs.Prelude.{◌≡◌, ℕ, List, [], ◌∷◌, ◌++◌, Bool, true, false, cond, not, nat_eq, length, drop}
use Rattle.ug_links.specs.declared.links.LinkWrote.{LinkWrote}
use Rattle.ug_links.specs.declared.links.LinkWrote.TheVariants as wrote
use Rattle.ug_links.specs.declared.waiter.LinkId.{LinkId}
use Rattle.ug_links.specs.declared.step.LinkStep.{LinkStep}
use Rattle.ug_links.specs.declared.step.LinkStep.TheVariants.{WroteTo}
use Rattle.ug_links.specs.Talk.{Talk, Return, Write, Close, and_then, walk, upto}
use Rattle.ug_sessions.specs.declared.session.Session.{Session}
use Rattle.ug_sessions.specs.declared.session.Turn.{Turn}
use Rattle.ug_sessions.specs.declared.session.Life.{Life}
use Rattle.ug_sessions.specs.declared.session.Life.TheVariants as life
use Rattle.ug_sessions.specs.declared.session.Why.TheVariants as why
use Rattle.ug_sessions.specs.Sessions.{counted_as, closed_for, unsending, is_open_session}
use Rattle.ug_sessions.specs.Reading.{closing_doomed}

abbrev pub after_writing : Session → Turn → LinkWrote → Talk (Bool × (Session × Turn))
after_writing s t (wrote.Sent n) = Return (true, (record s { unsent = drop n s.unsent }, t))
after_writing s t wrote.NotYet = Return (false, (s, t))
after_writing s t wrote.Failed =
    Close s.id (Return (false, (closed_for why.Failed (unsending s), counted_as why.Failed t)))

abbrev pub writing_if : Bool → Session → Turn → Talk (Bool × (Session × Turn))
writing_if true s t = Return (false, (s, t))
writing_if false s t = Write s.id s.unsent (after_writing s t)

-- one write of all that is unsent, and whether there may be more
unfoldable pub writing_some : Session × Turn → Talk (Bool × (Session × Turn))
writing_some x = writing_if (nat_eq (length x.0.unsent) 0) x.0 x.1

-- its link said End, no line is left to hand out, and each that was handed out is answered
abbrev pub is_served : Session → Bool
is_served s = cond s.ended (cond s.drained (nat_eq s.unanswered 0) false) false

abbrev pub finish_ended : Bool → Session → Turn → Talk (Session × Turn)
finish_ended true s t = Close s.id (Return (closed_for why.Ended s, counted_as why.Ended t))
finish_ended false s t = Return (s, t)

abbrev pub finish_refused : Bool → Session → Turn → Talk (Session × Turn)
finish_refused true s t = Close s.id (Return (closed_for why.TooLong s, counted_as why.TooLong t))
finish_refused false s t = finish_ended (is_served s) s t

abbrev pub finish_open : Bool → Session → Turn → Talk (Session × Turn)
finish_open true s t = finish_refused s.refused s t
finish_open false s t = Return (s, t)

abbrev pub finish_sent : Bool → Session → Turn → Talk (Session × Turn)
finish_sent true s t = finish_open (is_open_session s) s t
finish_sent false s t = Return (s, t)

-- an open session all of whose text is sent is closed where its line was
-- too long, or where it is served
unfoldable pub finishing : Session → Turn → Talk (Session × Turn)
finishing s t = finish_sent (nat_eq (length s.unsent) 0) s t

abbrev pub sending_if : Bool → Session → Turn → Talk (Session × Turn)
sending_if true s t = and_then (upto writing_some (length s.unsent) (s, t)) (λ r. finishing r.0 r.1)
sending_if false s t = Return (s, t)

unfoldable pub flushing_one : Session → Turn → Talk (Session × Turn)
flushing_one s t = and_then (closing_doomed s t) (λ r. sending_if (is_open_session r.0) r.0 r.1)

unfoldable pub flushing_all : List Session → Turn → Talk (List Session × Turn)
flushing_all sessions t = walk flushing_one [] sessions t

abbrev pub stays_by : Life → Bool → Bool
stays_by life.Open drained = true
stays_by (life.Doomed w) drained = true
stays_by (life.Closed w) drained = not drained

-- a session is kept while it is open, its link isn't closed, or it may have lines to hand out
abbrev pub stays : Session → Bool
stays s = stays_by s.life s.drained

-- the last of the calls is a write of these bytes to the session, which wasn't ready
abbrev pub EndsWaiting : LinkId → List ℕ → List LinkStep → Type 0
EndsWaiting id bytes steps =
    (front : List LinkStep) × (steps ≡ front ++ WroteTo id bytes wrote.NotYet ∷ [])
