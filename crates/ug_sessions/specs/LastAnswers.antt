-- What links last answered, and to whom a try is owed by that.
use Rattle.std.specs.Prelude.{ℕ, List, [], ◌∷◌, Bool, true, false, cond, nat_eq, Option, Some, None}
use Rattle.ug_links.specs.declared.waiter.LinkId.{LinkId}
use Rattle.ug_links.specs.declared.waiter.Ready.{Ready}
use Rattle.ug_links.specs.declared.links.Accepted.{Accepted}
use Rattle.ug_links.specs.declared.links.Accepted.TheVariants as accepted
use Rattle.ug_links.specs.declared.step.LinkStep.{LinkStep}
use Rattle.ug_links.specs.declared.step.LinkStep.TheVariants.{AcceptedAt, ReadFrom}
use Rattle.ug_links.specs.declared.step.Reading.{Reading}
use Rattle.ug_links.specs.declared.step.Reading.TheVariants as given
use Rattle.ug_sessions.specs.Tokens.{names_listener, names_session}

-- the last answer of an accept at that listener; the one before these calls, where they have none
abbrev pub accept_since : ℕ → Option Accepted → List LinkStep → Option Accepted
accept_since n last [] = last
accept_since n last (AcceptedAt m answer ∷ steps) =
    accept_since n (cond (nat_eq m n) (Some answer) last) steps
accept_since n last (step ∷ steps) = accept_since n last steps

abbrev pub last_accept : ℕ → List LinkStep → Option Accepted
last_accept n steps = accept_since n None steps

-- the last answer of a read of that session; the one before these calls, where they have none
abbrev pub read_since : LinkId → Option Reading → List LinkStep → Option Reading
read_since id last [] = last
read_since id last (ReadFrom other room answer ∷ steps) =
    read_since id (cond (nat_eq other.0 id.0) (Some answer) last) steps
read_since id last (step ∷ steps) = read_since id last steps

abbrev pub last_read : LinkId → List LinkStep → Option Reading
last_read id steps = read_since id None steps

-- it was never tried, or the last answer was another than that nothing was ready
abbrev pub owes_accept : Option Accepted → Bool
owes_accept None = true
owes_accept (Some (accepted.Session id)) = true
owes_accept (Some accepted.NotYet) = false
owes_accept (Some accepted.Failed) = true
owes_accept (Some accepted.Memory) = true

abbrev pub owes_read : Option Reading → Bool
owes_read None = true
owes_read (Some (given.Bytes bytes)) = true
owes_read (Some given.NotYet) = false
owes_read (Some given.End) = true
owes_read (Some given.Failed) = true

-- the link said End
abbrev pub has_ended : Option Reading → Bool
has_ended None = false
has_ended (Some (given.Bytes bytes)) = false
has_ended (Some given.NotYet) = false
has_ended (Some given.End) = true
has_ended (Some given.Failed) = false

-- by all calls so far, the listener is owed a try, or the wait named it
abbrev pub wants_accept : List Ready → List LinkStep → ℕ → Bool
wants_accept ready calls n = cond (owes_accept (last_accept n calls)) true (names_listener ready n)

abbrev pub wants_after : List Ready → Option Reading → LinkId → Bool
wants_after ready last id =
    cond (has_ended last) false (cond (owes_read last) true (names_session ready id))

-- by all calls so far, the session's link hasn't said End, and it is owed a try, or the wait named
-- it
abbrev pub wants_read : List Ready → List LinkStep → LinkId → Bool
wants_read ready calls id = wants_after ready (last_read id calls) id
