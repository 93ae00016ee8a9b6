-- Who comes at the listeners in a turn, what becomes of each, and what the turn counts.
use Rattle.std.specs.Prelude.{◌≡◌, ◌⊎◌, ℕ, ◌-◌, ◌^◌, ◌<◌, ◌≤◌, min, List, [], ◌∷◌, ◌++◌, Bool, true, false, length, count_by}
use Rattle.std.specs.List.{flat_map}
use Rattle.ug_types.specs.Principals.{Named}
use Rattle.ug_links.specs.declared.waiter.LinkId.{LinkId}
use Rattle.ug_links.specs.declared.waiter.Ready.{Ready}
use Rattle.ug_links.specs.declared.links.Accepted.TheVariants as accepted
use Rattle.ug_links.specs.declared.step.LinkStep.{LinkStep}
use Rattle.ug_links.specs.declared.step.LinkStep.TheVariants.{AcceptedAt, Closed}
use Rattle.ug_sessions.specs.declared.session.Session.{Session}
use Rattle.ug_sessions.specs.declared.session.Turn.{Turn}
use Rattle.ug_sessions.specs.declared.session.Why.TheVariants as why
use Rattle.ug_sessions.specs.Counting.{counted_over}
use Rattle.ug_sessions.specs.Sessions.{counted_as, is_open_session, new_session, none_counted}
use Rattle.ug_sessions.specs.States.{ServerState}
use Rattle.ug_sessions.specs.Tried.{AllRead, IsOneRead}

-- what one accept came to, at the listener of that number
pub data Arrival : Type 0 where
  -- someone came, who has a new session
  Joins : (listener : ℕ) → (id : LinkId) → (principal : Named) → Arrival
  -- someone came while 64 sessions were open, and was closed at once
  Finds_full : (listener : ℕ) → (id : LinkId) → Arrival
  -- someone came, for whose session memory was refused, and was closed at once
  Finds_no_room : (listener : ℕ) → (id : LinkId) → Arrival
  -- no one came
  Nobody : (listener : ℕ) → Arrival
  -- the call failed
  Fails : (listener : ℕ) → Arrival
  -- memory was refused for the call
  Lacks_memory : (listener : ℕ) → Arrival

abbrev pub calls_in : Arrival → List LinkStep
calls_in (Joins n id principal) = AcceptedAt n (accepted.Session id) ∷ []
calls_in (Finds_full n id) = AcceptedAt n (accepted.Session id) ∷ Closed id ∷ []
calls_in (Finds_no_room n id) = AcceptedAt n (accepted.Session id) ∷ Closed id ∷ []
calls_in (Nobody n) = AcceptedAt n accepted.NotYet ∷ []
calls_in (Fails n) = AcceptedAt n accepted.Failed ∷ []
calls_in (Lacks_memory n) = AcceptedAt n accepted.Memory ∷ []

abbrev pub sessions_in : Arrival → List Session
sessions_in (Joins n id principal) = new_session id principal ∷ []
sessions_in (Finds_full n id) = []
sessions_in (Finds_no_room n id) = []
sessions_in (Nobody n) = []
sessions_in (Fails n) = []
sessions_in (Lacks_memory n) = []

abbrev pub is_accepted : Arrival → Bool
is_accepted (Joins n id principal) = true
is_accepted (Finds_full n id) = false
is_accepted (Finds_no_room n id) = false
is_accepted (Nobody n) = false
is_accepted (Fails n) = false
is_accepted (Lacks_memory n) = false

abbrev pub is_busy : Arrival → Bool
is_busy (Joins n id principal) = false
is_busy (Finds_full n id) = true
is_busy (Finds_no_room n id) = false
is_busy (Nobody n) = false
is_busy (Fails n) = false
is_busy (Lacks_memory n) = false

abbrev pub is_failed_arrival : Arrival → Bool
is_failed_arrival (Joins n id principal) = false
is_failed_arrival (Finds_full n id) = false
is_failed_arrival (Finds_no_room n id) = false
is_failed_arrival (Nobody n) = false
is_failed_arrival (Fails n) = true
is_failed_arrival (Lacks_memory n) = false

abbrev pub is_short_arrival : Arrival → Bool
is_short_arrival (Joins n id principal) = false
is_short_arrival (Finds_full n id) = false
is_short_arrival (Finds_no_room n id) = true
is_short_arrival (Nobody n) = false
is_short_arrival (Fails n) = false
is_short_arrival (Lacks_memory n) = true

-- who comes has a session, or finds no memory for it, where fewer than 64 are open, and else is
-- closed since all places are taken
abbrev pub KeepLimit : List Session → List Arrival → Type 0
KeepLimit sessions [] = Unit {0}
KeepLimit sessions (Joins n id principal ∷ more) =
    (count_by is_open_session sessions < 64)
    × KeepLimit (sessions ++ new_session id principal ∷ []) more
KeepLimit sessions (Finds_full n id ∷ more) =
    (64 ≤ count_by is_open_session sessions) × KeepLimit sessions more
KeepLimit sessions (Finds_no_room n id ∷ more) =
    (count_by is_open_session sessions < 64) × KeepLimit sessions more
KeepLimit sessions (Nobody n ∷ more) = KeepLimit sessions more
KeepLimit sessions (Fails n ∷ more) = KeepLimit sessions more
KeepLimit sessions (Lacks_memory n ∷ more) = KeepLimit sessions more

-- how many of the arrivals are such, up to the greatest number of 32 bits
abbrev pub counted_of : (Arrival → Bool) → List Arrival → ℕ
counted_of holds arrivals = min (count_by holds arrivals) (2 ^ 32 - 1)

-- each arrival is counted once at most, and nothing else is
abbrev pub arrivals_counted : List Arrival → Turn
arrivals_counted arrivals =
    record {
      accepted = counted_of is_accepted arrivals;
      busy = counted_of is_busy arrivals;
      ended = 0;
      failed = counted_of is_failed_arrival arrivals;
      backlog = 0;
      too_long = 0;
      memory = counted_of is_short_arrival arrivals;
    }

-- Accepting made these calls, led from the sessions before to those behind, and counted so.
pub record AreArrivals (before : List Session) (steps : List LinkStep) (after : List Session)
    (counts : Turn) : Type 0 where
  pub arrivals : List Arrival
  pub calls : steps ≡ flat_map calls_in arrivals
  pub limit : KeepLimit before arrivals
  pub sessions : after ≡ before ++ flat_map sessions_in arrivals
  pub counted : counts ≡ arrivals_counted arrivals

-- A turn counts its arrivals, and then one for each session whose link it closes where it
-- reads, for what that is closed.
pub record CountsArrivals (ready : List Ready) (v : ServerState) (steps : List LinkStep)
    (u : ServerState) (counts : Turn) : Type 0 where
  pub accepts : List LinkStep
  pub reads : List LinkStep
  pub calls : steps ≡ accepts ++ reads
  pub sessions : List Session
  pub arrived : Turn
  pub arrivals : AreArrivals v.sessions accepts sessions arrived
  pub only_read : AllRead (IsOneRead ready sessions) reads
  pub closings : counts ≡ counted_over sessions u.sessions arrived

-- Memory was refused for the listeners: nothing is tried, and that is counted.
pub record CountsNoRoom (v : ServerState) (steps : List LinkStep) (u : ServerState)
    (counts : Turn) : Type 0 where
  pub listeners : length v.listeners < length v.principals
  pub calls : steps ≡ []
  pub same : u ≡ v
  pub counted : counts ≡ counted_as why.Memory none_counted

-- these calls of a turn led from one state to the other, and the turn counted so
abbrev pub CountsTurn : List Ready → ServerState → List LinkStep → ServerState → Turn → Type 0
CountsTurn ready v steps u counts =
    CountsArrivals ready v steps u counts ⊎ CountsNoRoom v steps u counts
