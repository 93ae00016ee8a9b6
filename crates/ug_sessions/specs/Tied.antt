-- What a server holds of its listeners and sessions is what its links answered.
use Rattle.std.specs.Prelude.{◌≡◌, ◌⊎◌, ℕ, zero, suc, ◌+◌, ◌<◌, List, [], ◌∷◌, ◌++◌, Bool, false, cond, filter, nat_lt, length, Option, Some, None}
use Rattle.std.specs.List.{flat_map}
use Rattle.ug_types.specs.Elements.{Has}
use Rattle.ug_types.specs.Principals.{Named}
use Rattle.ug_types.specs.declared.access.Section.{Section}
use Rattle.ug_links.specs.declared.waiter.LinkId.{LinkId}
use Rattle.ug_links.specs.declared.waiter.Ready.{Ready}
use Rattle.ug_links.specs.declared.links.Accepted.TheVariants as accepted
use Rattle.ug_links.specs.declared.step.LinkStep.{LinkStep}
use Rattle.ug_links.specs.declared.step.LinkStep.TheVariants.{AcceptedAt}
use Rattle.ug_links.specs.declared.step.Reading.{Reading}
use Rattle.ug_links.specs.Talk.{AreSteps}
use Rattle.ug_sessions.specs.declared.session.Listener.{Listener}
use Rattle.ug_sessions.specs.declared.session.Session.{Session}
use Rattle.ug_sessions.specs.declared.session.Turn.{Turn}
use Rattle.ug_sessions.specs.declared.session.Life.{Life}
use Rattle.ug_sessions.specs.declared.session.Life.TheVariants as life
use Rattle.ug_sessions.specs.Arriving.{Arrival, calls_in, sessions_in}
use Rattle.ug_sessions.specs.Counting.{counted_over}
use Rattle.ug_sessions.specs.Due.{Said}
use Rattle.ug_sessions.specs.Known.{AreSound}
use Rattle.ug_sessions.specs.LastAnswers.{last_accept, last_read, owes_accept, owes_read, has_ended}
use Rattle.ug_sessions.specs.Rounds.{TriesListeners, ReadsSessions, WritesSessions}
use Rattle.ug_sessions.specs.Sending.{stays}
use Rattle.ug_sessions.specs.Sessions.{none_counted}
use Rattle.ug_sessions.specs.States.{ServerState, listeners_from}

abbrev pub principal_at : ℕ → List Named → Option Named
principal_at n [] = None
principal_at zero (who ∷ principals) = Some who
principal_at (suc n) (who ∷ principals) = principal_at n principals

-- the session came at a listener, and this is the principal at the listener's number
abbrev pub IsWhose : List Named → List LinkStep → LinkId → Named → Type 0
IsWhose principals calls id who = (n : ℕ) × Has calls (AcceptedAt n (accepted.Session id))
    × (principal_at n principals ≡ Some who)

abbrev pub AreWhose : List Named → List LinkStep → List Session → Type 0
AreWhose principals calls [] = Unit {0}
AreWhose principals calls (s ∷ ss) = IsWhose principals calls s.id s.principal
    × AreWhose principals calls ss

-- an open session's marks are what the last answer of a read of it says
pub record HasMarks (last : Option Reading) (s : Session) : Type 0 where
  pub ended : s.ended ≡ has_ended last
  pub owed : s.ended ≡ false → s.owed ≡ owes_read last

abbrev pub HasMarksBy : Life → Option Reading → Session → Type 0
HasMarksBy life.Open last s = HasMarks last s
HasMarksBy (life.Doomed w) last s = Unit {0}
HasMarksBy (life.Closed w) last s = Unit {0}

abbrev pub AreMarkedSessions : List LinkStep → List Session → Type 0
AreMarkedSessions calls [] = Unit {0}
AreMarkedSessions calls (s ∷ ss) = HasMarksBy s.life (last_read s.id calls) s
    × AreMarkedSessions calls ss

-- each of these sessions is its listener's principal's, and its marks are what the answers say
abbrev pub AreTied : List Named → List LinkStep → List Session → Type 0
AreTied principals calls sessions = AreWhose principals calls sessions
    × AreMarkedSessions calls sessions

-- nothing was accepted
abbrev pub AcceptsNone : List LinkStep → Type 0
AcceptsNone [] = Unit {0}
AcceptsNone (AcceptedAt listener answer ∷ steps) = ⊥
AcceptsNone (step ∷ steps) = AcceptsNone steps

-- a listener has its place's number and principal, and its mark is what the last answer of an
-- accept at it says
pub record IsListenerOf (calls : List LinkStep) (n : ℕ) (who : Named) (l : Listener) : Type 0 where
  pub number : l.number ≡ n
  pub principal : l.principal ≡ who
  pub owed : l.owed ≡ owes_accept (last_accept n calls)

abbrev pub AreListenersOf : List LinkStep → ℕ → List Named → List Listener → Type 0
AreListenersOf calls n [] [] = Unit {0}
AreListenersOf calls n [] (l ∷ ls) = ⊥
AreListenersOf calls n (who ∷ principals) [] = ⊥
AreListenersOf calls n (who ∷ principals) (l ∷ ls) = IsListenerOf calls n who l
    × AreListenersOf calls (n + 1) principals ls

-- the listeners, or those that the first turn makes
abbrev pub listeners_then : ServerState → List Listener
listeners_then v =
    cond (nat_lt (length v.listeners) (length v.principals)) (listeners_from 0 v.principals)
    v.listeners

-- after these calls, listener i is that of the principal at place i; each session is of its
-- listener's principal; and what is owed and ended is what the last answers say
pub record IsTied (calls : List LinkStep) (v : ServerState) : Type 0 where
  pub listeners : AreListenersOf calls 0 v.principals (listeners_then v)
  pub whose : AreWhose v.principals calls v.sessions
  pub marked : AreMarkedSessions calls v.sessions

-- After these calls a turn tries each listener and each session that is named or owed a try, up to
-- its limit, and no other. Who comes has a new session, or is turned away.
pub record TriesAll (ready : List Ready) (calls : List LinkStep) (v : ServerState)
    (steps : List LinkStep) (u : ServerState) : Type 0 where
  pub arrivals : List Arrival
  pub reads : List LinkStep
  pub made : steps ≡ flat_map calls_in arrivals ++ reads
  pub listeners : TriesListeners ready calls 0 v.principals arrivals
  pub sessions : ReadsSessions ready (calls ++ flat_map calls_in arrivals)
      (v.sessions ++ flat_map sessions_in arrivals) reads u.sessions
  pub principals : u.principals ≡ v.principals

-- memory was refused for the listeners, and nothing is tried
pub record TriesNone (v : ServerState) (steps : List LinkStep) (u : ServerState) : Type 0 where
  pub listeners : length v.listeners < length v.principals
  pub made : steps ≡ []
  pub same : u ≡ v

abbrev pub TriesDue : List Ready → List LinkStep → ServerState → List LinkStep → ServerState
    → Type 0
TriesDue ready calls v steps u = TriesAll ready calls v steps u ⊎ TriesNone v steps u

-- Whatever calls were made before: where the server is tied to their answers, a turn tries so, and
-- the server is tied to all answers then.
abbrev pub TurnTries : List Ready → ServerState → List LinkStep → ServerState → Type 0
TurnTries ready v steps u =
    (holds : Section → Named → Bool) (calls : List LinkStep) (said : List Said)
    (handed : List (LinkId × List ℕ))
    → AreSteps calls steps → AreSound holds calls said handed v.sessions → IsTied calls v
    → TriesDue ready calls v steps u × IsTied (calls ++ steps) u

-- After these calls a flush writes to each open session, and closes those that are done for; each
-- that it closes is counted, for what it is closed. Those that are closed and have no line left are
-- forgotten, with their accounts and lines as they should be.
pub record Flushes (calls : List LinkStep) (v : ServerState) (steps : List LinkStep)
    (u : ServerState) (counts : Turn) : Type 0 where
  pub after : List Session
  pub sessions : WritesSessions calls v.sessions steps after
  pub counted : counts ≡ counted_over v.sessions after none_counted
  pub sound : (holds : Section → Named → Bool) (said : List Said) (handed : List (LinkId × List ℕ))
      → AreSound holds calls said handed v.sessions
      → AreSound holds (calls ++ steps) said handed after
  pub kept : u.sessions ≡ filter stays after
  pub principals : u.principals ≡ v.principals
  pub listeners : u.listeners ≡ v.listeners

abbrev pub FlushWrites : ServerState → List LinkStep → ServerState → Turn → Type 0
FlushWrites v steps u counts =
    (calls : List LinkStep) → AreSteps calls steps → IsTied calls v
    → Flushes calls v steps u counts × IsTied (calls ++ steps) u
