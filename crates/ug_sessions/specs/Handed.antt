-- The lines of a session: those that were handed out, and those that wait.
use Rattle.std.specs.Prelude.{◌≡◌, ℕ, List, [], ◌∷◌, ◌++◌, true, cond, nat_eq}
use Rattle.ug_links.specs.declared.waiter.LinkId.{LinkId}
use Rattle.ug_links.specs.declared.step.LinkStep.{LinkStep}
use Rattle.ug_links.specs.declared.step.LinkStep.TheVariants.{ReadFrom}
use Rattle.ug_links.specs.declared.step.Reading.TheVariants.{Bytes}
use Rattle.ug_proto.specs.Lines.{Partial, stream_lines, begun_after}
use Rattle.ug_sessions.specs.declared.session.Session.{Session}
use Rattle.ug_sessions.specs.declared.session.Life.{Life}
use Rattle.ug_sessions.specs.declared.session.Life.TheVariants as life
use Rattle.ug_sessions.specs.declared.session.Why.{Why}
use Rattle.ug_sessions.specs.declared.session.Why.TheVariants as why
use Rattle.ug_sessions.specs.Sessions.{is_overlong}

-- the bytes that were read from a session
abbrev pub bytes_read : LinkId → List LinkStep → List ℕ
bytes_read id [] = []
bytes_read id (ReadFrom other room (Bytes bytes) ∷ steps) =
    cond (nat_eq other.0 id.0) (bytes ++ bytes_read id steps) (bytes_read id steps)
bytes_read id (step ∷ steps) = bytes_read id steps

-- the lines that were handed out, and then those that wait, are the lines of the
-- bytes, each once and in order
pub record AreAllLines (handed : List (List ℕ)) (bytes : List ℕ) (s : Session) : Type 0 where
  pub lines : handed ++ s.framer.lines ≡ stream_lines bytes
  pub begun : s.framer.begun ≡ begun_after (Partial []) bytes
  pub limit : s.overlong ≡ is_overlong s.framer.begun

-- no line waits, and those that were handed out are the first of the lines
pub record AreFirstLines (handed : List (List ℕ)) (bytes : List ℕ) (s : Session) : Type 0 where
  pub none : s.framer.lines ≡ []
  pub others : List (List ℕ)
  pub lines : stream_lines bytes ≡ handed ++ others

-- lines are lost only where a session was closed for backlog or for want of memory
abbrev pub AreLinesFor : Why → List (List ℕ) → List ℕ → Session → Type 0
AreLinesFor why.Backlog handed bytes s = AreFirstLines handed bytes s
AreLinesFor why.Memory handed bytes s = AreFirstLines handed bytes s
AreLinesFor why.Ended handed bytes s = AreAllLines handed bytes s
AreLinesFor why.Failed handed bytes s = AreAllLines handed bytes s
AreLinesFor why.TooLong handed bytes s = AreAllLines handed bytes s

abbrev pub AreLinesBy : Life → List (List ℕ) → List ℕ → Session → Type 0
AreLinesBy life.Open handed bytes s = AreAllLines handed bytes s
AreLinesBy (life.Doomed w) handed bytes s = AreLinesFor w handed bytes s
AreLinesBy (life.Closed w) handed bytes s = AreLinesFor w handed bytes s

-- of a session these lines were handed out, and these bytes were read
abbrev pub HoldsLines : List (List ℕ) → List ℕ → Session → Type 0
HoldsLines handed bytes s = AreLinesBy s.life handed bytes s

-- 65,536 bytes without a newline were read of the session
abbrev pub IsLineTooLong : LinkId → List LinkStep → Type 0
IsLineTooLong id steps = is_overlong (begun_after (Partial []) (bytes_read id steps)) ≡ true

-- the lines that were handed out of a session, among all that were, each with its session
abbrev pub lines_handed : LinkId → List (LinkId × List ℕ) → List (List ℕ)
lines_handed id [] = []
lines_handed id (h ∷ hs) = cond (nat_eq h.0.0 id.0) (h.1 ∷ lines_handed id hs) (lines_handed id hs)

-- each session that is kept: handed is all that was handed out, and steps are all
-- calls, since the server was made
abbrev pub AllLines : List LinkStep → List (LinkId × List ℕ) → List Session → Type 0
AllLines steps handed [] = Unit {0}
AllLines steps handed (s ∷ ss) =
    HoldsLines (lines_handed s.id handed) (bytes_read s.id steps) s × AllLines steps handed ss
