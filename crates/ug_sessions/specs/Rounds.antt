-- How often a turn tries each listener and each session, what a flush writes to each, and when a
-- session is closed by that.
use Rattle.std.specs.Prelude.{◌≡◌, ℕ, zero, suc, ◌+◌, ◌<◌, ◌≤◌, List, [], ◌∷◌, ◌++◌, Bool, true, false, cond, nat_eq, length, drop, Option, Some, None}
use Rattle.std.specs.List.{flat_map}
use Rattle.ug_types.specs.Principals.{Named}
use Rattle.ug_links.specs.declared.waiter.LinkId.{LinkId}
use Rattle.ug_links.specs.declared.waiter.Ready.{Ready}
use Rattle.ug_links.specs.declared.links.LinkWrote.TheVariants as wrote
use Rattle.ug_links.specs.declared.step.LinkStep.{LinkStep}
use Rattle.ug_links.specs.declared.step.LinkStep.TheVariants.{ReadFrom, WroteTo, Closed}
use Rattle.ug_links.specs.declared.step.Reading.TheVariants as given
use Rattle.ug_sessions.specs.declared.session.Session.{Session}
use Rattle.ug_sessions.specs.declared.session.Life.{Life}
use Rattle.ug_sessions.specs.declared.session.Life.TheVariants as life
use Rattle.ug_sessions.specs.declared.session.Why.{Why}
use Rattle.ug_sessions.specs.declared.session.Why.TheVariants as why
use Rattle.ug_sessions.specs.Arriving.{Arrival, Joins, Finds_full, Finds_no_room, Nobody, Fails, Lacks_memory, calls_in}
use Rattle.ug_sessions.specs.LastAnswers.{last_read, has_ended, wants_accept, wants_read}

-- Accepts at the listener of that number, one after another for as long as someone comes, and at
-- most so many. Each new session is of the listener's principal.
abbrev pub IsRound : ℕ → Named → ℕ → List Arrival → Type 0
IsRound n who zero arrivals = arrivals ≡ []
IsRound n who (suc left) [] = ⊥
IsRound n who (suc left) (Joins m id principal ∷ more) = (m ≡ n) × (principal ≡ who)
    × IsRound n who left more
IsRound n who (suc left) (Finds_full m id ∷ more) = (m ≡ n) × IsRound n who left more
IsRound n who (suc left) (Finds_no_room m id ∷ more) = (m ≡ n) × IsRound n who left more
IsRound n who (suc left) (Nobody m ∷ more) = (m ≡ n) × (more ≡ [])
IsRound n who (suc left) (Fails m ∷ more) = (m ≡ n) × (more ≡ [])
IsRound n who (suc left) (Lacks_memory m ∷ more) = (m ≡ n) × (more ≡ [])

abbrev pub IsRoundIf : Bool → ℕ → Named → List Arrival → Type 0
IsRoundIf true n who arrivals = IsRound n who 64 arrivals
IsRoundIf false n who arrivals = arrivals ≡ []

-- The listeners of these principals in order, numbered from n, after these calls: each that is
-- named, or owed a try by the answers so far, is tried, and no other is.
abbrev pub TriesListeners : List Ready → List LinkStep → ℕ → List Named → List Arrival → Type 0
TriesListeners ready calls n [] arrivals = arrivals ≡ []
TriesListeners ready calls n (who ∷ principals) arrivals =
    (here : List Arrival) × (rest : List Arrival) × (arrivals ≡ here ++ rest)
    × IsRoundIf (wants_accept ready calls n) n who here
    × TriesListeners ready (calls ++ flat_map calls_in here) (n + 1) principals rest

-- The reads of one session, at most so many, and what becomes of it: it goes on being read for as
-- long as bytes come; it is closed at once where its link fails, or where memory is refused for the
-- bytes; and else it stays open.
pub data ReadsOf (id : LinkId) : ℕ → List LinkStep → Life → Type 0 where
  Enough : ReadsOf id zero [] life.Open
  Bytes_come : (left : ℕ) (bytes : List ℕ) (more : List LinkStep) (l : Life)
      → ReadsOf id left more l
      → ReadsOf id (suc left) (ReadFrom id 4096 (given.Bytes bytes) ∷ more) l
  Nothing_ready : (left : ℕ) → ReadsOf id (suc left) (ReadFrom id 4096 given.NotYet ∷ []) life.Open
  Link_ends : (left : ℕ) → ReadsOf id (suc left) (ReadFrom id 4096 given.End ∷ []) life.Open
  Link_fails : (left : ℕ)
      → ReadsOf id (suc left) (ReadFrom id 4096 given.Failed ∷ Closed id ∷ [])
      (life.Closed why.Failed)
  No_room : (left : ℕ) (bytes : List ℕ)
      → ReadsOf id (suc left) (ReadFrom id 4096 (given.Bytes bytes) ∷ Closed id ∷ [])
      (life.Closed why.Memory)

abbrev pub ReadsIf : Bool → LinkId → List LinkStep → Life → Type 0
ReadsIf true id steps after = ReadsOf id 16 steps after
ReadsIf false id steps after = (steps ≡ []) × (after ≡ life.Open)

-- What a turn does with a session by its life, and its life then. The link of one that was closed
-- since the last call is closed.
abbrev pub ReadsBy : Life → Bool → LinkId → List LinkStep → Life → Type 0
ReadsBy life.Open wanted id steps after = ReadsIf wanted id steps after
ReadsBy (life.Doomed w) wanted id steps after = (steps ≡ Closed id ∷ []) × (after ≡ life.Closed w)
ReadsBy (life.Closed w) wanted id steps after = (steps ≡ []) × (after ≡ life.Closed w)

-- The sessions in order, after these calls: each open one whose link hasn't said End, and that is
-- named or owed a try by the answers so far, is read, and no other is.
abbrev pub ReadsSessions : List Ready → List LinkStep → List Session → List LinkStep
    → List Session → Type 0
ReadsSessions ready calls [] steps [] = steps ≡ []
ReadsSessions ready calls [] steps (t ∷ ts) = ⊥
ReadsSessions ready calls (s ∷ ss) steps [] = ⊥
ReadsSessions ready calls (s ∷ ss) steps (t ∷ ts) =
    (here : List LinkStep) × (rest : List LinkStep) × (steps ≡ here ++ rest)
    × ReadsBy s.life (wants_read ready calls s.id) s.id here t.life
    × (t.id ≡ s.id) × (t.principal ≡ s.principal)
    × ReadsSessions ready (calls ++ here) ss rest ts

-- for what an open session is closed once all its bytes are sent: its line was too long; or its
-- link said End, no line of it is left, and each that was handed out is answered
abbrev pub closed_once_sent : Bool → Session → Option Why
closed_once_sent end s =
    cond s.refused (Some why.TooLong)
    (cond end (cond s.drained (cond (nat_eq s.unanswered 0) (Some why.Ended) None) None) None)

-- The writes of one session, from what is unsent to what is left, and its life then: all is sent,
-- and the session stays open or is closed for that; or its link isn't ready, and it stays open with
-- what is left; or its link fails, and it is closed at once.
pub data WritesTo (id : LinkId) (once_sent : Option Why)
    : List ℕ → List LinkStep → List ℕ → Life → Type 0 where
  All_sent : once_sent ≡ None → WritesTo id once_sent [] [] [] life.Open
  Done : (w : Why) → once_sent ≡ Some w
      → WritesTo id once_sent [] (Closed id ∷ []) [] (life.Closed w)
  Some_sent : (n : ℕ) (bytes : List ℕ) (more : List LinkStep) (left : List ℕ) (l : Life) → 0 < n
      → n ≤ length bytes → WritesTo id once_sent (drop n bytes) more left l
      → WritesTo id once_sent bytes (WroteTo id bytes (wrote.Sent n) ∷ more) left l
  Not_ready : (bytes : List ℕ) → 0 < length bytes
      → WritesTo id once_sent bytes (WroteTo id bytes wrote.NotYet ∷ []) bytes life.Open
  Breaks : (bytes : List ℕ) → 0 < length bytes
      → WritesTo id once_sent bytes (WroteTo id bytes wrote.Failed ∷ Closed id ∷ []) []
      (life.Closed why.Failed)

abbrev pub WritesBy : Life → Session → Bool → List LinkStep → Session → Type 0
WritesBy life.Open s end steps t =
    WritesTo s.id (closed_once_sent end s) s.unsent steps t.unsent t.life
WritesBy (life.Doomed w) s end steps t = (steps ≡ Closed s.id ∷ []) × (t.life ≡ life.Closed w)
WritesBy (life.Closed w) s end steps t = (steps ≡ []) × (t.life ≡ life.Closed w)

-- the sessions in order, after these calls: each open one that has unsent bytes is written to
abbrev pub WritesSessions : List LinkStep → List Session → List LinkStep → List Session → Type 0
WritesSessions calls [] steps [] = steps ≡ []
WritesSessions calls [] steps (t ∷ ts) = ⊥
WritesSessions calls (s ∷ ss) steps [] = ⊥
WritesSessions calls (s ∷ ss) steps (t ∷ ts) =
    (here : List LinkStep) × (rest : List LinkStep) × (steps ≡ here ++ rest)
    × WritesBy s.life s (has_ended (last_read s.id calls)) here t
    × (t.id ≡ s.id) × (t.principal ≡ s.principal)
    × WritesSessions calls ss rest ts
