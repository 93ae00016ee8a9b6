-- A whole turn tries what it should, a whole flush writes what it should, and both keep the server tied to the answers.
use Rattle.std.proofs.Common.{◌≡◌, ℕ, zero, suc, ◌+◌, ◌<◌, ◌≤◌, Bool, true, false, cond, nat_lt, filter, flat_map, length, drop, List, [], ◌∷◌, ◌++◌, Option, Some, None, inl, inr, refl, sym, ap, ◌∙◌, subst, append_assoc, arith}
use Rattle.std.proofs.lemmas.List.{append-nil}
use Rattle.std.proofs.lemmas.Bool.Decides.{nat_tests}
use Rattle.std.proofs.lemmas.Grind.{flat_map-append}
use Rattle.ug_types.specs.Elements.{Has}
use Rattle.ug_types.specs.Principals.{Named}
use Rattle.ug_types.specs.declared.access.Section.{Section}
use Rattle.ug_links.specs.declared.waiter.LinkId.{LinkId}
use Rattle.ug_links.specs.declared.waiter.Ready.{Ready}
use Rattle.ug_links.specs.declared.links.Accepted.{Accepted}
use Rattle.ug_links.specs.declared.links.Accepted.TheVariants as accepted
use Rattle.ug_links.specs.declared.step.LinkStep.{LinkStep}
use Rattle.ug_links.specs.declared.step.LinkStep.TheVariants.{Listened, AcceptedAt, ReadFrom, WroteTo, Closed}
use Rattle.ug_links.specs.declared.step.Reading.{Reading}
use Rattle.ug_links.specs.Steps.{ids_end}
use Rattle.ug_links.specs.Talk.{Return, Path, Talks, Makes, AreSteps, and_then}
use Rattle.ug_links.proofs.Paths.{path_split}
use Rattle.ug_links.proofs.Told.{path_made}
use Rattle.ug_sessions.specs.declared.session.Listener.{Listener}
use Rattle.ug_sessions.specs.declared.session.Session.{Session}
use Rattle.ug_sessions.specs.declared.session.Turn.{Turn}
use Rattle.ug_sessions.specs.declared.session.Life.{Life}
use Rattle.ug_sessions.specs.declared.session.Life.TheVariants as life
use Rattle.ug_sessions.specs.declared.session.Why.{Why}
use Rattle.ug_sessions.specs.Accepting.{accepting_all}
use Rattle.ug_sessions.specs.Counting.{counted_over}
use Rattle.ug_sessions.specs.Arriving.{Arrival, Joins, Finds_full, Finds_no_room, Nobody, Fails, Lacks_memory, calls_in, sessions_in, CountsTurn}
use Rattle.ug_sessions.specs.Due.{Said}
use Rattle.ug_sessions.specs.Known.{AreCallsBelow, AreSound}
use Rattle.ug_sessions.specs.LastAnswers.{accept_since, read_since, last_read, wants_accept, wants_read, has_ended}
use Rattle.ug_sessions.specs.Reading.{reading_all}
use Rattle.ug_sessions.specs.Rounds.{IsRound, IsRoundIf, TriesListeners, ReadsOf, Enough, Bytes_come, Nothing_ready, Link_ends, Link_fails, No_room, ReadsIf, ReadsBy, ReadsSessions, closed_once_sent, WritesTo, All_sent, Done, Some_sent, Not_ready, Breaks, WritesBy, WritesSessions}
use Rattle.ug_sessions.specs.Sending.{flushing_all, stays}
use Rattle.ug_sessions.specs.Serving.{turning, turning_by, turning_room, turning_listeners, flushing}
use Rattle.ug_sessions.specs.Sessions.{new_session, none_counted}
use Rattle.ug_sessions.specs.States.{ServerState, listeners_from}
use Rattle.ug_sessions.specs.Tied.{principal_at, IsWhose, AreWhose, HasMarks, AreMarkedSessions, AreListenersOf, listeners_then, IsTied, TriesAll, TriesDue, TurnTries, AcceptsNone, Flushes, FlushWrites}
use Rattle.ug_sessions.proofs.Counts.{flushing_counts}
use Rattle.ug_sessions.proofs.Accepted.{steps_split, ids_behind, differs}
use Rattle.ug_sessions.proofs.Marks.{Untouched, read_append, walk_reads, untouched_marks}
use Rattle.ug_sessions.proofs.Served.{state}
use Rattle.ug_sessions.proofs.TiedSaid.{new_listeners}
use Rattle.ug_sessions.proofs.Tries.{accept_append, walk_took, listeners_stay}
use Rattle.ug_sessions.proofs.TurnCounts.{turn_counts}
use Rattle.ug_sessions.proofs.WholeTurn.{accepting_keeps, flushing_keeps}
use Rattle.ug_sessions.proofs.Written.{walk_sends}

-- ---- whose a session is

pub has_front : (a b : List LinkStep) (step : LinkStep) → Has a step → Has (a ++ b) step
has_front [] b step h = absurd h
has_front (x ∷ a) b step (inl e) = inl e
has_front (x ∷ a) b step (inr h) = inr (has_front a b step h)

has_behind : (a b : List LinkStep) (step : LinkStep) → Has b step → Has (a ++ b) step
has_behind [] b step h = h
has_behind (x ∷ a) b step h = inr (has_behind a b step h)

pub whose_more : (principals : List Named) (calls steps : List LinkStep) (ss : List Session) → AreWhose principals calls ss → AreWhose principals (calls ++ steps) ss
whose_more principals calls steps [] h = tt
whose_more principals calls steps (s ∷ ss) h = ((h.0.0, has_front calls steps (AcceptedAt h.0.0 (accepted.Session s.id)) h.0.1, h.0.2), whose_more principals calls steps ss h.1)

whose_append : (principals : List Named) (calls : List LinkStep) (a b : List Session) → AreWhose principals calls a → AreWhose principals calls b → AreWhose principals calls (a ++ b)
whose_append principals calls [] b h k = k
whose_append principals calls (s ∷ a) b h k = (h.0, whose_append principals calls a b h.1 k)

-- a session that joined at a listener came there
round_whose : (all : List Named) (n : ℕ) (who : Named) (left : ℕ) (arrivals : List Arrival) (calls : List LinkStep) → principal_at n all ≡ Some who → IsRound n who left arrivals → ((step : LinkStep) → Has (flat_map calls_in arrivals) step → Has calls step) → AreWhose all calls (flat_map sessions_in arrivals)
round_whose all n who zero arrivals calls e h f = subst (λ (l : List Arrival). AreWhose all calls (flat_map sessions_in l)) (sym h) tt
round_whose all n who (suc left) [] calls e h f = absurd h
round_whose all n who (suc left) (Joins m id p ∷ more) calls e h f =
    let at : principal_at m all ≡ Some p = ap (λ (i : ℕ). principal_at i all) h.0 ∙ e ∙ ap (λ (w : Named). Some w) (sym h.1) in
    ((m, f (AcceptedAt m (accepted.Session id)) (inl refl), at), round_whose all n who left more calls e h.2 (λ step k. f step (inr k)))
round_whose all n who (suc left) (Finds_full m id ∷ more) calls e h f = round_whose all n who left more calls e h.1 (λ step k. f step (inr (inr k)))
round_whose all n who (suc left) (Finds_no_room m id ∷ more) calls e h f = round_whose all n who left more calls e h.1 (λ step k. f step (inr (inr k)))
round_whose all n who (suc left) (Nobody m ∷ more) calls e h f = subst (λ (l : List Arrival). AreWhose all calls (flat_map sessions_in l)) (sym h.1) tt
round_whose all n who (suc left) (Fails m ∷ more) calls e h f = subst (λ (l : List Arrival). AreWhose all calls (flat_map sessions_in l)) (sym h.1) tt
round_whose all n who (suc left) (Lacks_memory m ∷ more) calls e h f = subst (λ (l : List Arrival). AreWhose all calls (flat_map sessions_in l)) (sym h.1) tt

if_whose : (b : Bool) (all : List Named) (n : ℕ) (who : Named) (arrivals : List Arrival) (calls : List LinkStep) → principal_at n all ≡ Some who → IsRoundIf b n who arrivals → ((step : LinkStep) → Has (flat_map calls_in arrivals) step → Has calls step) → AreWhose all calls (flat_map sessions_in arrivals)
if_whose true all n who arrivals calls e h f = round_whose all n who 64 arrivals calls e h f
if_whose false all n who arrivals calls e h f = subst (λ (l : List Arrival). AreWhose all calls (flat_map sessions_in l)) (sym h) tt

one_behind : (n k : ℕ) → (n + 1) + k ≡ n + suc k
one_behind n k = omega arith

from_none : (k : ℕ) → 0 + k ≡ k
from_none k = omega arith

none_behind : (n : ℕ) → n + zero ≡ n
none_behind n = omega arith

tries_whose : (all : List Named) (ready : List Ready) (before : List LinkStep) (n : ℕ) (principals : List Named) (arrivals : List Arrival) (calls : List LinkStep) → ((k : ℕ) (who : Named) → principal_at k principals ≡ Some who → principal_at (n + k) all ≡ Some who) → TriesListeners ready before n principals arrivals → ((step : LinkStep) → Has (flat_map calls_in arrivals) step → Has calls step)
    → AreWhose all calls (flat_map sessions_in arrivals)
tries_whose all ready before n [] arrivals calls g h f = subst (λ (l : List Arrival). AreWhose all calls (flat_map sessions_in l)) (sym h) tt
tries_whose all ready before n (who ∷ principals) arrivals calls g h f =
    let at : principal_at n all ≡ Some who = ap (λ (i : ℕ). principal_at i all) (sym (none_behind n)) ∙ g zero who refl in
    let parts : flat_map calls_in arrivals ≡ flat_map calls_in h.0 ++ flat_map calls_in h.1 = ap (λ (l : List Arrival). flat_map calls_in l) h.2 ∙ flat_map-append calls_in h.0 h.1 in
    let in_parts : (step : LinkStep) → Has (flat_map calls_in h.0 ++ flat_map calls_in h.1) step → Has calls step = λ step k. f step (subst (λ (l : List LinkStep). Has l step) (sym parts) k) in
    let mine = if_whose (wants_accept ready before n) all n who h.0 calls at h.3 (λ step k. in_parts step (has_front (flat_map calls_in h.0) (flat_map calls_in h.1) step k)) in
    let rest = tries_whose all ready (before ++ flat_map calls_in h.0) (n + 1) principals h.1 calls (λ k w e. ap (λ (i : ℕ). principal_at i all) (one_behind n k) ∙ g (suc k) w e) h.4 (λ step k. in_parts step (has_behind (flat_map calls_in h.0) (flat_map calls_in h.1) step k)) in
    subst (λ (l : List Session). AreWhose all calls l) (sym (ap (λ (l : List Arrival). flat_map sessions_in l) h.2 ∙ flat_map-append sessions_in h.0 h.1)) (whose_append all calls (flat_map sessions_in h.0) (flat_map sessions_in h.1) mine rest)

reads_whose : (principals : List Named) (all : List LinkStep) (ready : List Ready) (calls : List LinkStep) (ss : List Session) (steps : List LinkStep) (ts : List Session) → ReadsSessions ready calls ss steps ts → AreWhose principals all ss → AreWhose principals all ts
reads_whose principals all ready calls [] steps [] h k = tt
reads_whose principals all ready calls [] steps (t ∷ ts) h k = absurd h
reads_whose principals all ready calls (s ∷ ss) steps [] h k = absurd h
reads_whose principals all ready calls (s ∷ ss) steps (t ∷ ts) h k =
    (subst (λ (i : LinkId). IsWhose principals all i t.principal) (sym h.4) (subst (λ (w : Named). IsWhose principals all s.id w) (sym h.5) k.0), reads_whose principals all ready (calls ++ h.0) ss h.1 ts h.6 k.1)

writes_whose : (principals : List Named) (all : List LinkStep) (calls : List LinkStep) (ss : List Session) (steps : List LinkStep) (ts : List Session) → WritesSessions calls ss steps ts → AreWhose principals all ss → AreWhose principals all ts
writes_whose principals all calls [] steps [] h k = tt
writes_whose principals all calls [] steps (t ∷ ts) h k = absurd h
writes_whose principals all calls (s ∷ ss) steps [] h k = absurd h
writes_whose principals all calls (s ∷ ss) steps (t ∷ ts) h k =
    (subst (λ (i : LinkId). IsWhose principals all i t.principal) (sym h.4) (subst (λ (w : Named). IsWhose principals all s.id w) (sym h.5) k.0), writes_whose principals all calls ss h.1 ts h.6 k.1)

-- ---- new sessions were never read

abbrev Unread : LinkId → List LinkStep → Type 0
Unread id calls = last_read id calls ≡ None

-- accepts read nothing
arrivals_quiet : (arrivals : List Arrival) (id : LinkId) → Untouched id (flat_map calls_in arrivals)
arrivals_quiet [] id last = refl
arrivals_quiet (Joins m i p ∷ more) id last = arrivals_quiet more id last
arrivals_quiet (Finds_full m i ∷ more) id last = arrivals_quiet more id last
arrivals_quiet (Finds_no_room m i ∷ more) id last = arrivals_quiet more id last
arrivals_quiet (Nobody m ∷ more) id last = arrivals_quiet more id last
arrivals_quiet (Fails m ∷ more) id last = arrivals_quiet more id last
arrivals_quiet (Lacks_memory m ∷ more) id last = arrivals_quiet more id last

unread_below : (n : ℕ) (id : LinkId) (calls : List LinkStep) → n ≤ id.0 → AreCallsBelow n calls → Untouched id calls
unread_below n id [] le h last = refl
unread_below n id (ReadFrom other room answer ∷ calls) le h last = ap (λ (b : Bool). read_since id (cond b (Some answer) last) calls) (differs other.0 n id.0 h.0 le) ∙ unread_below n id calls le h.1 last
unread_below n id (WroteTo other bytes answer ∷ calls) le h last = unread_below n id calls le h.1 last
unread_below n id (AcceptedAt listener answer ∷ calls) le h last = unread_below n id calls le h.1 last
unread_below n id (Closed other ∷ calls) le h last = unread_below n id calls le h.1 last
unread_below n id (Listened principal answer ∷ calls) le h last = unread_below n id calls le h.1 last

marks_append : (calls : List LinkStep) (a b : List Session) → AreMarkedSessions calls a → AreMarkedSessions calls b → AreMarkedSessions calls (a ++ b)
marks_append calls [] b h k = k
marks_append calls (s ∷ a) b h k = (h.0, marks_append calls a b h.1 k)

end_behind : (n : ℕ) (current : List LinkStep) (step : LinkStep) → n ≤ ids_end current → n ≤ ids_end (current ++ step ∷ [])
end_behind n current step le = let e = ids_behind current (step ∷ []) in omega (arith, e, le)

new_mark : (calls : List LinkStep) (id : LinkId) (p : Named) → Unread id calls → HasMarks (last_read id calls) (new_session id p)
new_mark calls id p e = subst (λ (o : Option Reading). HasMarks o (new_session id p)) (sym e) (record { ended = refl; owed = λ _. refl })

-- each who joins has an id above all before, and its session was never read
new_marks : (n : ℕ) (calls : List LinkStep) → ((id : LinkId) → n ≤ id.0 → Unread id calls) → (current : List LinkStep) (arrivals : List Arrival) → n ≤ ids_end current → AreSteps current (flat_map calls_in arrivals) → AreMarkedSessions calls (flat_map sessions_in arrivals)
new_marks n calls g current [] le a = tt
new_marks n calls g current (Joins m id p ∷ more) le a =
    let step : LinkStep = AcceptedAt m (accepted.Session id) in
    let above : ids_end current ≤ id.0 = a.0 in
    (new_mark calls id p (g id (omega (arith, le, above))), new_marks n calls g (current ++ step ∷ []) more (end_behind n current step le) a.1)
new_marks n calls g current (Finds_full m id ∷ more) le a =
    let step : LinkStep = AcceptedAt m (accepted.Session id) in
    let next = end_behind n current step le in
    new_marks n calls g ((current ++ step ∷ []) ++ Closed id ∷ []) more (end_behind n (current ++ step ∷ []) (Closed id) next) a.1.1
new_marks n calls g current (Finds_no_room m id ∷ more) le a =
    let step : LinkStep = AcceptedAt m (accepted.Session id) in
    let next = end_behind n current step le in
    new_marks n calls g ((current ++ step ∷ []) ++ Closed id ∷ []) more (end_behind n (current ++ step ∷ []) (Closed id) next) a.1.1
new_marks n calls g current (Nobody m ∷ more) le a = new_marks n calls g (current ++ AcceptedAt m accepted.NotYet ∷ []) more (end_behind n current (AcceptedAt m accepted.NotYet) le) a.1
new_marks n calls g current (Fails m ∷ more) le a = new_marks n calls g (current ++ AcceptedAt m accepted.Failed ∷ []) more (end_behind n current (AcceptedAt m accepted.Failed) le) a.1
new_marks n calls g current (Lacks_memory m ∷ more) le a = new_marks n calls g (current ++ AcceptedAt m accepted.Memory ∷ []) more (end_behind n current (AcceptedAt m accepted.Memory) le) a.1

-- ---- reads and writes accept nowhere

abbrev Unasked : ℕ → List LinkStep → Type 0
Unasked m steps = (last : Option Accepted) → accept_since m last steps ≡ last

unasked_then : (m : ℕ) (a b steps : List LinkStep) → steps ≡ a ++ b → Unasked m a → Unasked m b → Unasked m steps
unasked_then m a b steps e f g last = ap (λ (x : List LinkStep). accept_since m last x) e ∙ accept_append m last a b ∙ g (accept_since m last a) ∙ f last

unasked_at : (m : ℕ) (steps plain : List LinkStep) → steps ≡ plain → Unasked m plain → Unasked m steps
unasked_at m steps plain e f last = ap (λ (x : List LinkStep). accept_since m last x) e ∙ f last

reads_unasked : (m : ℕ) (id : LinkId) (n : ℕ) (steps : List LinkStep) (l : Life) → ReadsOf id n steps l → Unasked m steps
reads_unasked m id _ _ _ Enough last = refl
reads_unasked m id _ _ _ (Bytes_come left bytes more l h) last = reads_unasked m id left more l h last
reads_unasked m id _ _ _ (Nothing_ready left) last = refl
reads_unasked m id _ _ _ (Link_ends left) last = refl
reads_unasked m id _ _ _ (Link_fails left) last = refl
reads_unasked m id _ _ _ (No_room left bytes) last = refl

if_unasked : (m : ℕ) (b : Bool) (id : LinkId) (steps : List LinkStep) (l : Life) → ReadsIf b id steps l → Unasked m steps
if_unasked m true id steps l h = reads_unasked m id 16 steps l h
if_unasked m false id steps l h = unasked_at m steps [] h.0 (λ last. refl)

by_unasked : (m : ℕ) (l : Life) (b : Bool) (id : LinkId) (steps : List LinkStep) (after : Life) → ReadsBy l b id steps after → Unasked m steps
by_unasked m life.Open b id steps after h = if_unasked m b id steps after h
by_unasked m (life.Doomed w) b id steps after h = unasked_at m steps (Closed id ∷ []) h.0 (λ last. refl)
by_unasked m (life.Closed w) b id steps after h = unasked_at m steps [] h.0 (λ last. refl)

all_unasked : (m : ℕ) (ready : List Ready) (calls : List LinkStep) (ss : List Session) (steps : List LinkStep) (ts : List Session) → ReadsSessions ready calls ss steps ts → Unasked m steps
all_unasked m ready calls [] steps [] h = unasked_at m steps [] h (λ last. refl)
all_unasked m ready calls [] steps (t ∷ ts) h = absurd h
all_unasked m ready calls (s ∷ ss) steps [] h = absurd h
all_unasked m ready calls (s ∷ ss) steps (t ∷ ts) h =
    unasked_then m h.0 h.1 steps h.2 (by_unasked m s.life (wants_read ready calls s.id) s.id h.0 t.life h.3) (all_unasked m ready (calls ++ h.0) ss h.1 ts h.6)

writes_unasked : (m : ℕ) (id : LinkId) (c : Option Why) (bytes : List ℕ) (steps : List LinkStep) (left : List ℕ) (l : Life) → WritesTo id c bytes steps left l → Unasked m steps
writes_unasked m id c _ _ _ _ (All_sent e) last = refl
writes_unasked m id c _ _ _ _ (Done w e) last = refl
writes_unasked m id c _ _ _ _ (Some_sent n bytes more left l lt le h) last = writes_unasked m id c (drop n bytes) more left l h last
writes_unasked m id c _ _ _ _ (Not_ready bytes lt) last = refl
writes_unasked m id c _ _ _ _ (Breaks bytes lt) last = refl

written_unasked : (m : ℕ) (l : Life) (s : Session) (b : Bool) (steps : List LinkStep) (t : Session) → WritesBy l s b steps t → Unasked m steps
written_unasked m life.Open s b steps t h = writes_unasked m s.id (closed_once_sent b s) s.unsent steps t.unsent t.life h
written_unasked m (life.Doomed w) s b steps t h = unasked_at m steps (Closed s.id ∷ []) h.0 (λ last. refl)
written_unasked m (life.Closed w) s b steps t h = unasked_at m steps [] h.0 (λ last. refl)

flush_unasked : (m : ℕ) (calls : List LinkStep) (ss : List Session) (steps : List LinkStep) (ts : List Session) → WritesSessions calls ss steps ts → Unasked m steps
flush_unasked m calls [] steps [] h = unasked_at m steps [] h (λ last. refl)
flush_unasked m calls [] steps (t ∷ ts) h = absurd h
flush_unasked m calls (s ∷ ss) steps [] h = absurd h
flush_unasked m calls (s ∷ ss) steps (t ∷ ts) h =
    unasked_then m h.0 h.1 steps h.2 (written_unasked m s.life s (has_ended (last_read s.id calls)) h.0 t h.3) (flush_unasked m calls ss h.1 ts h.6)

-- ---- a turn

same_length : (calls : List LinkStep) (n : ℕ) (principals : List Named) (ls : List Listener) → AreListenersOf calls n principals ls → length ls ≡ length principals
same_length calls n [] [] h = refl
same_length calls n [] (l ∷ ls) h = absurd h
same_length calls n (who ∷ principals) [] h = absurd h
same_length calls n (who ∷ principals) (l ∷ ls) h = ap (λ (k : ℕ). suc k) (same_length calls (n + 1) principals ls h.1)

not_fewer : (m n : ℕ) → m ≡ n → nat_lt m n ≡ false
not_fewer m n e = grind (arith, nat_tests)

fewer : (m n : ℕ) → nat_lt m n ≡ true → m < n
fewer m n e = grind (arith, nat_tests)

no_more_listeners : (calls : List LinkStep) (v : ServerState) → AreListenersOf calls 0 v.principals v.listeners → AreListenersOf calls 0 v.principals (listeners_then v)
no_more_listeners calls v h =
    let full = not_fewer (length v.listeners) (length v.principals) (same_length calls 0 v.principals v.listeners h) in
    subst (λ (b : Bool). AreListenersOf calls 0 v.principals (cond b (listeners_from 0 v.principals) v.listeners)) (sym full) h

module _ (holds : Section → Named → Bool) (said : List Said) (handed : List (LinkId × List ℕ)) where
  listeners_tied : (ready : List Ready) (calls : List LinkStep) (v : ServerState) (steps : List LinkStep) (r : ServerState × Turn) → AreSteps calls steps → AreSound holds calls said handed v.sessions → AreListenersOf calls 0 v.principals v.listeners → AreWhose v.principals calls v.sessions → AreMarkedSessions calls v.sessions
      → Path (turning_listeners ready v) steps r → TriesAll ready calls v steps r.0 × IsTied (calls ++ steps) r.0
  unfolding turning_listeners accepting_all reading_all
  listeners_tied ready calls v steps r a sound listeners whose marks h =
      let p = path_split (accepting_all ready v.listeners (v.sessions, none_counted)) (λ (q : List Listener × (List Session × Turn)). and_then (reading_all ready q.1.0 q.1.1) (λ (w : List Session × Turn). Return (state v.principals q.0 w.0, w.1))) steps r h in
      let q = path_split (reading_all ready p.value.1.0 p.value.1.1) (λ (w : List Session × Turn). Return (state v.principals p.value.0 w.0, w.1)) p.rest r p.second in
      let two = steps_split holds said handed calls p.front p.rest (subst (λ (l : List LinkStep). AreSteps calls l) p.whole a) in
      let took = walk_took ready calls 0 v.principals [] v.listeners (v.sessions, none_counted) p.front p.value listeners p.first in
      let arrivals = took.arrivals in
      let accepts : List LinkStep = flat_map calls_in arrivals in
      let more : List Session = flat_map sessions_in arrivals in
      let mid = accepting_keeps holds said handed ready calls v.listeners (v.sessions, none_counted) p.front p.value two.0 p.first sound in
      let unread : (id : LinkId) → ids_end calls ≤ id.0 → Unread id (calls ++ accepts) = λ id le. read_append id None calls accepts ∙ arrivals_quiet arrivals id (last_read id calls) ∙ unread_below (ids_end calls) id calls le sound.calls_known None in
      let old_marks : AreMarkedSessions (calls ++ accepts) v.sessions = untouched_marks calls accepts v.sessions (λ s. arrivals_quiet arrivals s.id) marks in
      let made_marks : AreMarkedSessions (calls ++ accepts) more = new_marks (ids_end calls) (calls ++ accepts) unread calls arrivals (omega arith) (subst (λ (l : List LinkStep). AreSteps calls l) took.made two.0) in
      let all_marks : AreMarkedSessions (calls ++ accepts) p.value.1.0 = subst (λ (l : List Session). AreMarkedSessions (calls ++ accepts) l) (sym took.sessions) (marks_append (calls ++ accepts) v.sessions more old_marks made_marks) in
      let read = walk_reads ready (calls ++ accepts) [] p.value.1.0 p.value.1.1 q.front q.value mid.distinct all_marks q.first in
      let last : p.rest ≡ q.front = q.whole ∙ ap (λ (l : List LinkStep). q.front ++ l) q.second.1 ∙ append-nil q.front in
      let made : steps ≡ accepts ++ q.front = p.whole ∙ ap (λ (l : List LinkStep). l ++ p.rest) took.made ∙ ap (λ (l : List LinkStep). accepts ++ l) last in
      let whole : (calls ++ accepts) ++ q.front ≡ calls ++ steps = append_assoc calls accepts q.front ∙ ap (λ (l : List LinkStep). calls ++ l) (sym made) in
      let reads : ReadsSessions ready (calls ++ accepts) (v.sessions ++ more) q.front read.0 = subst (λ (l : List Session). ReadsSessions ready (calls ++ accepts) l q.front read.0) took.sessions read.2 in
      let all_whose : AreWhose v.principals (calls ++ steps) (v.sessions ++ more) =
      whose_append v.principals (calls ++ steps) v.sessions more (whose_more v.principals calls steps v.sessions whose)
      (tries_whose v.principals ready calls 0 v.principals arrivals (calls ++ steps) (λ k who e. ap (λ (i : ℕ). principal_at i v.principals) (from_none k) ∙ e) took.tries (λ step k. has_behind calls steps step (subst (λ (l : List LinkStep). Has l step) (sym made) (has_front accepts q.front step k)))) in
      let u : ServerState = state v.principals p.value.0 q.value.0 in
      let same : r.0 ≡ u = ap (λ (w : ServerState × Turn). w.0) q.second.0 in
      let now_listeners : AreListenersOf (calls ++ steps) 0 v.principals p.value.0 =
      subst (λ (l : List Listener). AreListenersOf (calls ++ steps) 0 v.principals l) (sym took.after)
      (subst (λ (l : List LinkStep). AreListenersOf l 0 v.principals took.listeners) whole (listeners_stay (calls ++ accepts) q.front 0 v.principals took.listeners (λ m. all_unasked m ready (calls ++ accepts) (v.sessions ++ more) q.front read.0 reads) (subst (λ (l : List LinkStep). AreListenersOf (calls ++ l) 0 v.principals took.listeners) took.made took.marked))) in
      let tries : TriesAll ready calls v steps u = record {
        arrivals = arrivals;
        reads = q.front;
        made = made;
        listeners = took.tries;
        sessions = subst (λ (l : List Session). ReadsSessions ready (calls ++ accepts) (v.sessions ++ more) q.front l) (sym read.1) reads;
        principals = refl;
      } in
      let tied : IsTied (calls ++ steps) u = record {
        listeners = no_more_listeners (calls ++ steps) u now_listeners;
        whose = subst (λ (l : List Session). AreWhose v.principals (calls ++ steps) l) (sym read.1) (reads_whose v.principals (calls ++ steps) ready (calls ++ accepts) (v.sessions ++ more) q.front read.0 reads all_whose);
        marked = subst (λ (l : List Session). AreMarkedSessions (calls ++ steps) l) (sym read.1) (subst (λ (l : List LinkStep). AreMarkedSessions l read.0) whole read.3);
      } in
      subst (λ (x : ServerState). TriesAll ready calls v steps x × IsTied (calls ++ steps) x) (sym same) (tries, tied)

  -- the same from the state before the listeners were made
  made_tries : (ready : List Ready) (calls : List LinkStep) (v : ServerState) (ls : List Listener) (steps : List LinkStep) (u : ServerState) → TriesAll ready calls (record v { listeners = ls }) steps u → TriesAll ready calls v steps u
  made_tries ready calls v ls steps u h = record { arrivals = h.arrivals; reads = h.reads; made = h.made; listeners = h.listeners; sessions = h.sessions; principals = h.principals }

  tied_same : (calls steps : List LinkStep) (v u : ServerState) → steps ≡ [] → u ≡ v → IsTied calls v → IsTied (calls ++ steps) u
  tied_same calls steps v u e f k = subst (λ (l : List LinkStep). IsTied (calls ++ l) u) (sym e) (subst (λ (l : List LinkStep). IsTied l u) (sym (append-nil calls)) (subst (λ (x : ServerState). IsTied calls x) (sym f) k))

  room_tied : (b : Bool) (ready : List Ready) (calls : List LinkStep) (v : ServerState) (steps : List LinkStep) (r : ServerState × Turn) → nat_lt (length v.listeners) (length v.principals) ≡ true → AreSteps calls steps → AreSound holds calls said handed v.sessions → IsTied calls v → Path (turning_room ready v b) steps r → TriesDue ready calls v steps r.0 × IsTied (calls ++ steps) r.0
  room_tied true ready calls v steps r few a sound k h =
      let listeners : AreListenersOf calls 0 v.principals (listeners_from 0 v.principals) = subst (λ (b : Bool). AreListenersOf calls 0 v.principals (cond b (listeners_from 0 v.principals) v.listeners)) few k.listeners in
      let w = listeners_tied ready calls (record v { listeners = listeners_from 0 v.principals }) steps r a sound listeners k.whose k.marked h in
      (inl (made_tries ready calls v (listeners_from 0 v.principals) steps r.0 w.0), w.1)
  room_tied false ready calls v steps r few a sound k h =
      let same : r.0 ≡ v = ap (λ (w : ServerState × Turn). w.0) h.0 in
      (inr (record { listeners = fewer (length v.listeners) (length v.principals) few; made = h.1; same = same }), tied_same calls steps v r.0 h.1 same k)

  turn_by : (b : Bool) (ready : List Ready) (calls : List LinkStep) (v : ServerState) (steps : List LinkStep) (r : ServerState × Turn) → nat_lt (length v.listeners) (length v.principals) ≡ b → AreSteps calls steps → AreSound holds calls said handed v.sessions → IsTied calls v → Path (turning_by b ready v) steps r → TriesDue ready calls v steps r.0 × IsTied (calls ++ steps) r.0
  turn_by true ready calls v steps r e a sound k h = room_tied h.0 ready calls v steps r e a sound k h.1
  turn_by false ready calls v steps r e a sound k h =
      let listeners : AreListenersOf calls 0 v.principals v.listeners = subst (λ (b : Bool). AreListenersOf calls 0 v.principals (cond b (listeners_from 0 v.principals) v.listeners)) e k.listeners in
      let w = listeners_tied ready calls v steps r a sound listeners k.whose k.marked h in
      (inl w.0, w.1)

  pub turn_tied : (ready : List Ready) (calls : List LinkStep) (v : ServerState) (steps : List LinkStep) (r : ServerState × Turn) → AreSteps calls steps → AreSound holds calls said handed v.sessions → IsTied calls v → Path (turning ready v) steps r → TriesDue ready calls v steps r.0 × IsTied (calls ++ steps) r.0
  unfolding turning
  turn_tied ready calls v steps r a sound k h = turn_by (nat_lt (length v.listeners) (length v.principals)) ready calls v steps r refl a sound k h

-- ---- a flush

some_whose : (keep : Session → Bool) (principals : List Named) (calls : List LinkStep) (ss : List Session) → AreWhose principals calls ss → AreWhose principals calls (filter keep ss)
some_whose keep principals calls [] h = tt
some_whose keep principals calls (s ∷ ss) h =
    let T : Bool → Type 0 = λ v. AreWhose principals calls (cond v (s ∷ filter keep ss) (filter keep ss)) in
    let f : (v : Bool) → T v = λ v. elim v as T [ true ↦ (h.0, some_whose keep principals calls ss h.1) | false ↦ some_whose keep principals calls ss h.1 ] in
    f (keep s)

some_marked : (keep : Session → Bool) (calls : List LinkStep) (ss : List Session) → AreMarkedSessions calls ss → AreMarkedSessions calls (filter keep ss)
some_marked keep calls [] h = tt
some_marked keep calls (s ∷ ss) h =
    let T : Bool → Type 0 = λ v. AreMarkedSessions calls (cond v (s ∷ filter keep ss) (filter keep ss)) in
    let f : (v : Bool) → T v = λ v. elim v as T [ true ↦ (h.0, some_marked keep calls ss h.1) | false ↦ some_marked keep calls ss h.1 ] in
    f (keep s)

pub flush_tied : (calls : List LinkStep) (v : ServerState) (steps : List LinkStep) (r : ServerState × Turn) → AreSteps calls steps → IsTied calls v → Path (flushing v) steps r → Flushes calls v steps r.0 r.1 × IsTied (calls ++ steps) r.0
unfolding flushing flushing_all
flush_tied calls v steps r a k h =
    let p = path_split (flushing_all v.sessions none_counted) (λ (w : List Session × Turn). Return (state v.principals v.listeners (filter stays w.0), w.1)) steps r h in
    let whole : steps ≡ p.front = p.whole ∙ ap (λ (l : List LinkStep). p.front ++ l) p.second.1 ∙ append-nil p.front in
    let sent = walk_sends calls calls [] v.sessions none_counted p.front p.value (subst (λ (l : List LinkStep). AreSteps calls l) whole a) k.marked p.first in
    let ts = sent.0 in
    let u : ServerState = state v.principals v.listeners (filter stays ts) in
    let same : r.0 ≡ u = ap (λ (w : ServerState × Turn). w.0) p.second.0 ∙ ap (λ (l : List Session). state v.principals v.listeners (filter stays l)) sent.1 in
    let writes : WritesSessions calls v.sessions steps ts = subst (λ (l : List LinkStep). WritesSessions calls v.sessions l ts) (sym whole) sent.2 in
    let whose : AreWhose v.principals (calls ++ steps) ts = writes_whose v.principals (calls ++ steps) calls v.sessions steps ts writes (whose_more v.principals calls steps v.sessions k.whose) in
    let quiet : (s : Session) → Untouched s.id steps = λ s last. ap (λ (l : List LinkStep). read_since s.id last l) whole ∙ sent.3 s.id last in
    let counted : r.1 ≡ counted_over v.sessions ts none_counted = ap (λ (w : ServerState × Turn). w.1) p.second.0 ∙ flushing_counts v.sessions none_counted p.front p.value p.first ∙ ap (λ (l : List Session). counted_over v.sessions l none_counted) sent.1 in
    let sound : (holds : Section → Named → Bool) (said : List Said) (handed : List (LinkId × List ℕ)) → AreSound holds calls said handed v.sessions → AreSound holds (calls ++ steps) said handed ts = λ holds said handed x.
    subst (λ (l : List LinkStep). AreSound holds (calls ++ l) said handed ts) (sym whole) (subst (λ (l : List Session). AreSound holds (calls ++ p.front) said handed l) sent.1 (flushing_keeps holds said handed calls v.sessions none_counted p.front p.value p.first x)) in
    let flushes : Flushes calls v steps u r.1 = record { after = ts; sessions = writes; counted = counted; sound = sound; kept = refl; principals = refl; listeners = refl } in
    let tied : IsTied (calls ++ steps) u = record {
      listeners = listeners_stay calls steps 0 v.principals (listeners_then v) (λ m. flush_unasked m calls v.sessions steps ts writes) k.listeners;
      whose = some_whose stays v.principals (calls ++ steps) ts whose;
      marked = some_marked stays (calls ++ steps) ts (untouched_marks calls steps ts quiet sent.4);
    } in
    subst (λ (x : ServerState). Flushes calls v steps x r.1 × IsTied (calls ++ steps) x) (sym same) (flushes, tied)

-- ---- runs over any links

pub run_tries : {S : Type 0} (gives : S → LinkStep → S → Type 0) (ready : List Ready) (v : ServerState) (s : S) (u : ServerState) (counts : Turn) (t : S) → Talks gives s (turning ready v) (u, counts) t → (steps : List LinkStep) × Makes gives s steps t × CountsTurn ready v steps u counts × TurnTries ready v steps u
run_tries gives ready v s u counts t h =
    let p = path_made gives s (turning ready v) (u, counts) t h in
    (p.0, p.2, turn_counts ready v p.0 (u, counts) p.1, λ holds calls said handed a sound k. turn_tied holds said handed ready calls v p.0 (u, counts) a sound k p.1)

pub run_writes : {S : Type 0} (gives : S → LinkStep → S → Type 0) (v : ServerState) (s : S) (u : ServerState) (counts : Turn) (t : S) → Talks gives s (flushing v) (u, counts) t → (steps : List LinkStep) × Makes gives s steps t × FlushWrites v steps u counts
run_writes gives v s u counts t h =
    let p = path_made gives s (flushing v) (u, counts) t h in
    (p.0, p.2, λ calls a k. flush_tied calls v p.0 (u, counts) a k p.1)

-- ---- a server that was just made

some_listeners : (m : ℕ) → nat_lt 0 (suc m) ≡ true
some_listeners m = grind (arith, nat_tests)

none_made : (calls : List LinkStep) (principals : List Named) → AcceptsNone calls → AreListenersOf calls 0 principals (cond (nat_lt 0 (length principals)) (listeners_from 0 principals) [])
none_made calls [] h = tt
none_made calls (who ∷ principals) h =
    subst (λ (b : Bool). AreListenersOf calls 0 (who ∷ principals) (cond b (listeners_from 0 (who ∷ principals)) [])) (sym (some_listeners (length principals))) (new_listeners calls 0 (who ∷ principals) h)

pub begins_tied : (calls : List LinkStep) (v : ServerState) → v.listeners ≡ [] → v.sessions ≡ [] → AcceptsNone calls → IsTied calls v
begins_tied calls v e f h = record {
  listeners = subst (λ (l : List Listener). AreListenersOf calls 0 v.principals (cond (nat_lt (length l) (length v.principals)) (listeners_from 0 v.principals) l)) (sym e) (none_made calls v.principals h);
  whose = subst (λ (l : List Session). AreWhose v.principals calls l) (sym f) tt;
  marked = subst (λ (l : List Session). AreMarkedSessions calls l) (sym f) tt;
}
