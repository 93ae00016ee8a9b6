-- Each listener is tried exactly as the answers so far want it, and its mark is what they say then.
use Rattle.std.proofs.Common.{◌≡◌, ℕ, zero, suc, ◌+◌, ◌<◌, Bool, true, false, cond, nat_eq, nat_lt, count_by, flat_map, List, [], ◌∷◌, ◌++◌, Option, Some, None, refl, sym, ap, ◌∙◌, subst, append_assoc, arith}
use Rattle.std.proofs.lemmas.List.{append-nil}
use Rattle.std.proofs.lemmas.Bool.Decides.{nat_tests}
use Rattle.std.proofs.lemmas.Grind.{flat_map-append}
use Rattle.ug_types.specs.Principals.{Named}
use Rattle.ug_links.specs.declared.waiter.LinkId.{LinkId}
use Rattle.ug_links.specs.declared.waiter.Ready.{Ready}
use Rattle.ug_links.specs.declared.links.Accepted.{Accepted}
use Rattle.ug_links.specs.declared.links.Accepted.TheVariants as accepted
use Rattle.ug_links.specs.declared.step.LinkStep.{LinkStep}
use Rattle.ug_links.specs.declared.step.LinkStep.TheVariants.{Listened, AcceptedAt, ReadFrom, WroteTo, Closed}
use Rattle.ug_links.specs.Talk.{Return, Path, walk, upto}
use Rattle.ug_links.proofs.Paths.{path_split}
use Rattle.ug_sessions.specs.declared.session.Session.{Session}
use Rattle.ug_sessions.specs.declared.session.Listener.{Listener}
use Rattle.ug_sessions.specs.declared.session.Turn.{Turn}
use Rattle.ug_sessions.specs.Sessions.{is_open_session}
use Rattle.ug_sessions.specs.Accepting.{AtListener, tried, after_room, after_count, after_accepting, accepting_once, accepting_if, accepting_one}
use Rattle.ug_sessions.specs.Arriving.{Arrival, Joins, Finds_full, Finds_no_room, Nobody, Fails, Lacks_memory, calls_in, sessions_in}
use Rattle.ug_sessions.specs.LastAnswers.{accept_since, last_accept, owes_accept, wants_accept}
use Rattle.ug_sessions.specs.Rounds.{IsRound, IsRoundIf, TriesListeners}
use Rattle.ug_sessions.specs.Tied.{IsListenerOf, AreListenersOf}
use Rattle.ug_sessions.specs.Tokens.{names_listener}
use Rattle.ug_sessions.specs.Tried.{is_tried}

own_number : (n : ℕ) → nat_eq n n ≡ true
own_number n = grind (arith, nat_tests)

apart : (m n : ℕ) → m < n → nat_eq n m ≡ false
apart m n lt = grind (arith, nat_tests)

apart_round : (m n : ℕ) → m < n → nat_eq m n ≡ false
apart_round m n lt = grind (arith, nat_tests)

pub accept_append : (n : ℕ) (last : Option Accepted) (a b : List LinkStep) → accept_since n last (a ++ b) ≡ accept_since n (accept_since n last a) b
accept_append n last [] b = refl
accept_append n last (AcceptedAt m answer ∷ a) b = accept_append n (cond (nat_eq m n) (Some answer) last) a b
accept_append n last (ReadFrom other room answer ∷ a) b = accept_append n last a b
accept_append n last (WroteTo other bytes answer ∷ a) b = accept_append n last a b
accept_append n last (Closed other ∷ a) b = accept_append n last a b
accept_append n last (Listened principal answer ∷ a) b = accept_append n last a b

accept_own : (n : ℕ) (last : Option Accepted) (answer : Accepted) (more : List LinkStep) → accept_since n last (AcceptedAt n answer ∷ more) ≡ accept_since n (Some answer) more
accept_own n last answer more = ap (λ (b : Bool). accept_since n (cond b (Some answer) last) more) (own_number n)

-- what the accepts at a listener came to
record Took (n : ℕ) (last : Option Accepted) (x : AtListener) (steps : List LinkStep) (r : AtListener) : Type 0 where
  arrivals : List Arrival
  calls : steps ≡ flat_map calls_in arrivals
  round : IsRound x.0.number x.0.principal n arrivals
  sessions : r.1.0 ≡ x.1.0 ++ flat_map sessions_in arrivals
  number : r.0.number ≡ x.0.number
  who : r.0.principal ≡ x.0.principal
  owed : r.0.owed ≡ owes_accept (accept_since x.0.number last steps)

go_on : (a : Arrival) (n : ℕ) (last last2 : Option Accepted) (x x2 : AtListener) (steps rest : List LinkStep) (r : AtListener) → steps ≡ calls_in a ++ rest → x2.0.number ≡ x.0.number → x2.0.principal ≡ x.0.principal → x2.1.0 ≡ x.1.0 ++ sessions_in a
    → accept_since x.0.number last (calls_in a) ≡ last2 → ((more : List Arrival) → IsRound x.0.number x.0.principal n more → IsRound x.0.number x.0.principal (suc n) (a ∷ more)) → Took n last2 x2 rest r → Took (suc n) last x steps r
go_on a n last last2 x x2 steps rest r e en ew es el f k =
    let round : IsRound x.0.number x.0.principal n k.arrivals = subst (λ (m : ℕ). IsRound m x.0.principal n k.arrivals) en (subst (λ (w : Named). IsRound x2.0.number w n k.arrivals) ew k.round) in
    let last_same : accept_since x2.0.number last2 rest ≡ accept_since x.0.number last steps =
    ap (λ (m : ℕ). accept_since m last2 rest) en ∙ ap (λ (o : Option Accepted). accept_since x.0.number o rest) (sym el) ∙ sym (accept_append x.0.number last (calls_in a) rest) ∙ ap (λ (l : List LinkStep). accept_since x.0.number last l) (sym e) in
    record {
      arrivals = a ∷ k.arrivals;
      calls = e ∙ ap (λ (l : List LinkStep). calls_in a ++ l) k.calls;
      round = f k.arrivals round;
      sessions = k.sessions ∙ ap (λ (l : List Session). l ++ flat_map sessions_in k.arrivals) es ∙ append_assoc x.1.0 (sessions_in a) (flat_map sessions_in k.arrivals);
      number = k.number ∙ en;
      who = k.who ∙ ew;
      owed = k.owed ∙ ap owes_accept last_same;
    }

-- nothing more is tried
rest_none : (n : ℕ) (v x : Bool × AtListener) (rest : List LinkStep) (r : AtListener) → v ≡ x → x.0 ≡ false → Path (cond v.0 (upto accepting_once n v.1) (Return v.1)) rest r → (rest ≡ []) × (r ≡ x.1)
rest_none n v x rest r e f h =
    let k : Path (Return x.1) rest r = subst (λ (b : Bool). Path (cond b (upto accepting_once n x.1) (Return x.1)) rest r) f (subst (λ (y : Bool × AtListener). Path (cond y.0 (upto accepting_once n y.1) (Return y.1)) rest r) e h) in
    (k.1, k.0)

stops : (a : Arrival) (n : ℕ) (last : Option Accepted) (x r r2 : AtListener) (steps : List LinkStep) → steps ≡ calls_in a → r ≡ r2 → r2.0.number ≡ x.0.number → r2.0.principal ≡ x.0.principal → r2.1.0 ≡ x.1.0 ++ (sessions_in a ++ []) → r2.0.owed ≡ owes_accept (accept_since x.0.number last (calls_in a)) → IsRound x.0.number x.0.principal (suc n) (a ∷ []) → Took (suc n) last x steps r
stops a n last x r r2 steps e f en ew es eo round =
    subst (λ (y : AtListener). Took (suc n) last x steps y) (sym f)
    (record {
      arrivals = a ∷ [];
      calls = e ∙ sym (append-nil (calls_in a));
      round = round;
      sessions = es;
      number = en;
      who = ew;
      owed = eo ∙ ap (λ (l : List LinkStep). owes_accept (accept_since x.0.number last l)) (sym e);
    })

abbrev Next : ℕ → AtListener → Type 0
Next n r = (last : Option Accepted) (x : AtListener) (steps : List LinkStep) → x.0.owed ≡ owes_accept last → Path (upto accepting_once n x) steps r → Took n last x steps r

abbrev Rest : ℕ → Bool × AtListener → List LinkStep → AtListener → Type 0
Rest n v rest r = Path (cond v.0 (upto accepting_once n v.1) (Return v.1)) rest r

goes : (n : ℕ) (v : Bool × AtListener) (x2 : AtListener) (rest : List LinkStep) (r : AtListener) → v ≡ (true, x2) → Rest n v rest r → Path (upto accepting_once n x2) rest r
goes n v x2 rest r e h = subst (λ (y : Bool × AtListener). Rest n y rest r) e h

came_last : (x : AtListener) (last : Option Accepted) (id : LinkId) (more : List LinkStep) → accept_since x.0.number last (AcceptedAt x.0.number (accepted.Session id) ∷ more) ≡ accept_since x.0.number (Some (accepted.Session id)) more
came_last x last id more = accept_own x.0.number last (accepted.Session id) more

behind : (step : LinkStep) (front more rest : List LinkStep) → front ≡ more → step ∷ (front ++ rest) ≡ (step ∷ more) ++ rest
behind step front more rest e = ap (λ (l : List LinkStep). step ∷ (l ++ rest)) e

room_took : (b : Bool) (n : ℕ) (last : Option Accepted) (x : AtListener) (id : LinkId) (front rest : List LinkStep) (v : Bool × AtListener) (r : AtListener) → Next n r → Path (after_room x id b) front v → Rest n v rest r
    → Took (suc n) last x (AcceptedAt x.0.number (accepted.Session id) ∷ (front ++ rest)) r
room_took true n last x id front rest v r next h k =
    let a : Arrival = Joins x.0.number id x.0.principal in
    go_on a n last (Some (accepted.Session id)) x v.1 (AcceptedAt x.0.number (accepted.Session id) ∷ (front ++ rest)) rest r
    (behind (AcceptedAt x.0.number (accepted.Session id)) front [] rest h.1) (ap (λ (y : Bool × AtListener). y.1.0.number) h.0) (ap (λ (y : Bool × AtListener). y.1.0.principal) h.0) (ap (λ (y : Bool × AtListener). y.1.1.0) h.0)
    (came_last x last id []) (λ more q. (refl, refl, q))
    (next (Some (accepted.Session id)) v.1 rest (ap (λ (y : Bool × AtListener). y.1.0.owed) h.0) (subst (λ (b : Bool). Path (cond b (upto accepting_once n v.1) (Return v.1)) rest r) (ap (λ (y : Bool × AtListener). y.0) h.0) k))
room_took false n last x id front rest v r next h k =
    let a : Arrival = Finds_no_room x.0.number id in
    go_on a n last (Some (accepted.Session id)) x v.1 (AcceptedAt x.0.number (accepted.Session id) ∷ (front ++ rest)) rest r
    (behind (AcceptedAt x.0.number (accepted.Session id)) front (Closed id ∷ []) rest (h.1 ∙ ap (λ (l : List LinkStep). Closed id ∷ l) h.2.1)) (ap (λ (y : Bool × AtListener). y.1.0.number) h.2.0) (ap (λ (y : Bool × AtListener). y.1.0.principal) h.2.0) (ap (λ (y : Bool × AtListener). y.1.1.0) h.2.0 ∙ sym (append-nil x.1.0))
    (came_last x last id (Closed id ∷ [])) (λ more q. (refl, q))
    (next (Some (accepted.Session id)) v.1 rest (ap (λ (y : Bool × AtListener). y.1.0.owed) h.2.0) (subst (λ (b : Bool). Path (cond b (upto accepting_once n v.1) (Return v.1)) rest r) (ap (λ (y : Bool × AtListener). y.0) h.2.0) k))

count_took : (b : Bool) (n : ℕ) (last : Option Accepted) (x : AtListener) (id : LinkId) (front rest : List LinkStep) (v : Bool × AtListener) (r : AtListener) → Next n r → Path (after_count x id b) front v → Rest n v rest r
    → Took (suc n) last x (AcceptedAt x.0.number (accepted.Session id) ∷ (front ++ rest)) r
count_took true n last x id front rest v r next h k = room_took h.0 n last x id front rest v r next h.1 k
count_took false n last x id front rest v r next h k =
    let a : Arrival = Finds_full x.0.number id in
    go_on a n last (Some (accepted.Session id)) x v.1 (AcceptedAt x.0.number (accepted.Session id) ∷ (front ++ rest)) rest r
    (behind (AcceptedAt x.0.number (accepted.Session id)) front (Closed id ∷ []) rest (h.1 ∙ ap (λ (l : List LinkStep). Closed id ∷ l) h.2.1)) (ap (λ (y : Bool × AtListener). y.1.0.number) h.2.0) (ap (λ (y : Bool × AtListener). y.1.0.principal) h.2.0) (ap (λ (y : Bool × AtListener). y.1.1.0) h.2.0 ∙ sym (append-nil x.1.0))
    (came_last x last id (Closed id ∷ [])) (λ more q. (refl, q))
    (next (Some (accepted.Session id)) v.1 rest (ap (λ (y : Bool × AtListener). y.1.0.owed) h.2.0) (subst (λ (b : Bool). Path (cond b (upto accepting_once n v.1) (Return v.1)) rest r) (ap (λ (y : Bool × AtListener). y.0) h.2.0) k))

-- the last try of a round
ends_round : (a : Arrival) (answer : Accepted) (owed : Bool) (n : ℕ) (last : Option Accepted) (x : AtListener) (front rest : List LinkStep) (v : Bool × AtListener) (r : AtListener) (t : Turn) → calls_in a ≡ AcceptedAt x.0.number answer ∷ [] → sessions_in a ≡ [] → owes_accept (Some answer) ≡ owed → IsRound x.0.number x.0.principal (suc n) (a ∷ []) → v ≡ (false, (tried x.0 owed, (x.1.0, t))) → front ≡ [] → Rest n v rest r
    → Took (suc n) last x (AcceptedAt x.0.number answer ∷ (front ++ rest)) r
ends_round a answer owed n last x front rest v r t c s o round h f k =
    let z = rest_none n v (false, (tried x.0 owed, (x.1.0, t))) rest r h refl k in
    let step : LinkStep = AcceptedAt x.0.number answer in
    let whole : step ∷ (front ++ rest) ≡ step ∷ [] = ap (λ (l : List LinkStep). step ∷ (l ++ rest)) f ∙ ap (λ (l : List LinkStep). step ∷ l) z.0 in
    stops a n last x r (tried x.0 owed, (x.1.0, t)) (step ∷ (front ++ rest)) (whole ∙ sym c) z.1 refl refl (sym (append-nil x.1.0) ∙ ap (λ (l : List Session). x.1.0 ++ (l ++ [])) (sym s)) (sym o ∙ ap owes_accept (sym (accept_own x.0.number last answer [])) ∙ ap (λ (l : List LinkStep). owes_accept (accept_since x.0.number last l)) (sym c)) round

answer_took : (answer : Accepted) (n : ℕ) (last : Option Accepted) (x : AtListener) (front rest : List LinkStep) (v : Bool × AtListener) (r : AtListener) → Next n r → Path (after_accepting x answer) front v → Rest n v rest r
    → Took (suc n) last x (AcceptedAt x.0.number answer ∷ (front ++ rest)) r
answer_took (accepted.Session id) n last x front rest v r next h k = count_took (nat_lt (count_by is_open_session x.1.0) 64) n last x id front rest v r next h k
answer_took accepted.NotYet n last x front rest v r next h k = ends_round (Nobody x.0.number) accepted.NotYet false n last x front rest v r _ refl refl refl (refl, refl) h.0 h.1 k
answer_took accepted.Failed n last x front rest v r next h k = ends_round (Fails x.0.number) accepted.Failed true n last x front rest v r _ refl refl refl (refl, refl) h.0 h.1 k
answer_took accepted.Memory n last x front rest v r next h k = ends_round (Lacks_memory x.0.number) accepted.Memory true n last x front rest v r _ refl refl refl (refl, refl) h.0 h.1 k

took_none : (n : ℕ) (last : Option Accepted) (x r : AtListener) (steps : List LinkStep) → IsRound x.0.number x.0.principal n [] → x.0.owed ≡ owes_accept last → r ≡ x → steps ≡ [] → Took n last x steps r
took_none n last x r steps round o e f =
    subst (λ (y : AtListener). Took n last x steps y) (sym e)
    (record { arrivals = []; calls = f; round = round; sessions = sym (append-nil x.1.0); number = refl; who = refl; owed = o ∙ ap (λ (l : List LinkStep). owes_accept (accept_since x.0.number last l)) (sym f) })

upto_took : (n : ℕ) (last : Option Accepted) (x : AtListener) (steps : List LinkStep) (r : AtListener) → x.0.owed ≡ owes_accept last → Path (upto accepting_once n x) steps r → Took n last x steps r
unfolding upto accepting_once
upto_took zero last x steps r o h = took_none zero last x r steps refl o h.0 h.1
upto_took (suc n) last x steps r o h =
    let p = path_split (accepting_once x) (λ (q : Bool × AtListener). cond q.0 (upto accepting_once n q.1) (Return q.1)) steps r h in
    let f = p.first in
    let k = answer_took f.0 n last x f.1 p.rest p.value r (λ last2 x2 steps2 o2 h2. upto_took n last2 x2 steps2 r o2 h2) f.3 p.second in
    subst (λ (l : List LinkStep). Took (suc n) last x l r) (sym (p.whole ∙ ap (λ (l : List LinkStep). l ++ p.rest) f.2)) k

-- what a turn does at one listener
record One (ready : List Ready) (calls : List LinkStep) (n : ℕ) (who : Named) (x : List Session × Turn) (steps : List LinkStep) (r : AtListener) : Type 0 where
  arrivals : List Arrival
  made : steps ≡ flat_map calls_in arrivals
  round : IsRoundIf (wants_accept ready calls n) n who arrivals
  sessions : r.1.0 ≡ x.0 ++ flat_map sessions_in arrivals
  listener : IsListenerOf (calls ++ steps) n who r.0

if_took : (b : Bool) (ready : List Ready) (calls : List LinkStep) (n : ℕ) (who : Named) (l : Listener) (x : List Session × Turn) (steps : List LinkStep) (r : AtListener) → IsListenerOf calls n who l → wants_accept ready calls n ≡ b → Path (accepting_if b (l, x)) steps r → One ready calls n who x steps r
if_took true ready calls n who l x steps r m e h =
    let k = upto_took 64 (last_accept n calls) (l, x) steps r m.owed h in
    let round : IsRound n who 64 k.arrivals = subst (λ (i : ℕ). IsRound i who 64 k.arrivals) m.number (subst (λ (w : Named). IsRound l.number w 64 k.arrivals) m.principal k.round) in
    record {
      arrivals = k.arrivals;
      made = k.calls;
      round = subst (λ (b : Bool). IsRoundIf b n who k.arrivals) (sym e) round;
      sessions = k.sessions;
      listener = record { number = k.number ∙ m.number; principal = k.who ∙ m.principal; owed = k.owed ∙ ap (λ (i : ℕ). owes_accept (accept_since i (last_accept n calls) steps)) m.number ∙ ap owes_accept (sym (accept_append n None calls steps)) };
    }
if_took false ready calls n who l x steps r m e h =
    let none : calls ++ steps ≡ calls = ap (λ (k : List LinkStep). calls ++ k) h.1 ∙ append-nil calls in
    let same : IsListenerOf (calls ++ steps) n who l = subst (λ (k : List LinkStep). IsListenerOf k n who l) (sym none) m in
    record {
      arrivals = [];
      made = h.1;
      round = subst (λ (b : Bool). IsRoundIf b n who []) (sym e) refl;
      sessions = ap (λ (y : AtListener). y.1.0) h.0 ∙ sym (append-nil x.0);
      listener = subst (λ (y : AtListener). IsListenerOf (calls ++ steps) n who y.0) (sym h.0) same;
    }

one_took : (ready : List Ready) (calls : List LinkStep) (n : ℕ) (who : Named) (l : Listener) (x : List Session × Turn) (steps : List LinkStep) (r : AtListener) → IsListenerOf calls n who l → Path (accepting_one ready l x) steps r → One ready calls n who x steps r
unfolding accepting_one
one_took ready calls n who l x steps r m h =
    let same : is_tried ready l ≡ wants_accept ready calls n = ap (λ (b : Bool). cond b true (names_listener ready l.number)) m.owed ∙ ap (λ (i : ℕ). cond (owes_accept (last_accept n calls)) true (names_listener ready i)) m.number in
    if_took (wants_accept ready calls n) ready calls n who l x steps r m refl (subst (λ (b : Bool). Path (accepting_if b (l, x)) steps r) same h)

-- the accepts at one listener leave the last answers at others
abbrev Unasked : ℕ → List LinkStep → Type 0
Unasked m steps = (last : Option Accepted) → accept_since m last steps ≡ last

other_number : (n m k : ℕ) (last : Option Accepted) (answer : Accepted) (more : List LinkStep) → k ≡ n → nat_eq n m ≡ false → accept_since m last (AcceptedAt k answer ∷ more) ≡ accept_since m last more
other_number n m k last answer more e f = ap (λ (b : Bool). accept_since m (cond b (Some answer) last) more) (ap (λ (i : ℕ). nat_eq i m) e ∙ f)

round_others : (n : ℕ) (who : Named) (left : ℕ) (arrivals : List Arrival) (m : ℕ) → nat_eq n m ≡ false → IsRound n who left arrivals → Unasked m (flat_map calls_in arrivals)
round_others n who zero arrivals m e h last = ap (λ (l : List Arrival). accept_since m last (flat_map calls_in l)) h
round_others n who (suc left) [] m e h last = absurd h
round_others n who (suc left) (Joins k id p ∷ more) m e h last = other_number n m k last (accepted.Session id) (flat_map calls_in more) h.0 e ∙ round_others n who left more m e h.2 last
round_others n who (suc left) (Finds_full k id ∷ more) m e h last = other_number n m k last (accepted.Session id) (Closed id ∷ flat_map calls_in more) h.0 e ∙ round_others n who left more m e h.1 last
round_others n who (suc left) (Finds_no_room k id ∷ more) m e h last = other_number n m k last (accepted.Session id) (Closed id ∷ flat_map calls_in more) h.0 e ∙ round_others n who left more m e h.1 last
round_others n who (suc left) (Nobody k ∷ more) m e h last = other_number n m k last accepted.NotYet (flat_map calls_in more) h.0 e ∙ ap (λ (l : List Arrival). accept_since m last (flat_map calls_in l)) h.1
round_others n who (suc left) (Fails k ∷ more) m e h last = other_number n m k last accepted.Failed (flat_map calls_in more) h.0 e ∙ ap (λ (l : List Arrival). accept_since m last (flat_map calls_in l)) h.1
round_others n who (suc left) (Lacks_memory k ∷ more) m e h last = other_number n m k last accepted.Memory (flat_map calls_in more) h.0 e ∙ ap (λ (l : List Arrival). accept_since m last (flat_map calls_in l)) h.1

if_others : (b : Bool) (n : ℕ) (who : Named) (arrivals : List Arrival) (m : ℕ) → nat_eq n m ≡ false → IsRoundIf b n who arrivals → Unasked m (flat_map calls_in arrivals)
if_others true n who arrivals m e h last = round_others n who 64 arrivals m e h last
if_others false n who arrivals m e h last = ap (λ (l : List Arrival). accept_since m last (flat_map calls_in l)) h

tries_others : (ready : List Ready) (calls : List LinkStep) (n : ℕ) (principals : List Named) (arrivals : List Arrival) (m : ℕ) → m < n → TriesListeners ready calls n principals arrivals → Unasked m (flat_map calls_in arrivals)
tries_others ready calls n [] arrivals m lt h last = ap (λ (l : List Arrival). accept_since m last (flat_map calls_in l)) h
tries_others ready calls n (who ∷ principals) arrivals m lt h last =
    let here : List LinkStep = flat_map calls_in h.0 in
    let rest : List LinkStep = flat_map calls_in h.1 in
    let less : m < n + 1 = omega (arith, lt) in
    ap (λ (l : List Arrival). accept_since m last (flat_map calls_in l)) h.2 ∙ ap (λ (l : List LinkStep). accept_since m last l) (flat_map-append calls_in h.0 h.1) ∙ accept_append m last here rest
    ∙ tries_others ready (calls ++ here) (n + 1) principals h.1 m less h.4 (accept_since m last here) ∙ if_others (wants_accept ready calls n) n who h.0 m (apart m n lt) h.3 last

listener_on : (calls steps : List LinkStep) (k : ℕ) (who : Named) (l : Listener) → Unasked k steps → IsListenerOf calls k who l → IsListenerOf (calls ++ steps) k who l
listener_on calls steps k who l u m = record { number = m.number; principal = m.principal; owed = m.owed ∙ ap owes_accept (sym (accept_append k None calls steps ∙ u (last_accept k calls))) }

listeners_on : (calls steps : List LinkStep) (n k : ℕ) (principals : List Named) (ls : List Listener) → n < k → ((m : ℕ) → nat_eq n m ≡ false → Unasked m steps) → AreListenersOf calls k principals ls → AreListenersOf (calls ++ steps) k principals ls
listeners_on calls steps n k [] [] lt u m = tt
listeners_on calls steps n k [] (l ∷ ls) lt u m = absurd m
listeners_on calls steps n k (who ∷ principals) [] lt u m = absurd m
listeners_on calls steps n k (who ∷ principals) (l ∷ ls) lt u m =
    let less : n < k + 1 = omega (arith, lt) in
    (listener_on calls steps k who l (u k (apart_round n k lt)) m.0, listeners_on calls steps n (k + 1) principals ls less u m.1)

-- calls that accept nowhere leave all of it
pub listeners_stay : (calls steps : List LinkStep) (k : ℕ) (principals : List Named) (ls : List Listener) → ((m : ℕ) → Unasked m steps) → AreListenersOf calls k principals ls → AreListenersOf (calls ++ steps) k principals ls
listeners_stay calls steps k [] [] u m = tt
listeners_stay calls steps k [] (l ∷ ls) u m = absurd m
listeners_stay calls steps k (who ∷ principals) [] u m = absurd m
listeners_stay calls steps k (who ∷ principals) (l ∷ ls) u m = (listener_on calls steps k who l (u k) m.0, listeners_stay calls steps (k + 1) principals ls u m.1)

-- what a turn does at all listeners
pub record Walked (ready : List Ready) (calls : List LinkStep) (n : ℕ) (principals : List Named) (x : List Session × Turn) (steps : List LinkStep) (done : List Listener) (r : List Listener × (List Session × Turn)) : Type 0 where
  pub listeners : List Listener
  pub arrivals : List Arrival
  pub after : r.0 ≡ done ++ listeners
  pub made : steps ≡ flat_map calls_in arrivals
  pub tries : TriesListeners ready calls n principals arrivals
  pub sessions : r.1.0 ≡ x.0 ++ flat_map sessions_in arrivals
  pub marked : AreListenersOf (calls ++ steps) n principals listeners

pub walk_took : (ready : List Ready) (calls : List LinkStep) (n : ℕ) (principals : List Named) (done ls : List Listener) (x : List Session × Turn) (steps : List LinkStep) (r : List Listener × (List Session × Turn)) → AreListenersOf calls n principals ls → Path (walk (accepting_one ready) done ls x) steps r → Walked ready calls n principals x steps done r
walk_took ready calls n [] done [] x steps r m h = record { listeners = []; arrivals = []; after = ap (λ (y : List Listener × (List Session × Turn)). y.0) h.0 ∙ sym (append-nil done); made = h.1; tries = refl; sessions = ap (λ (y : List Listener × (List Session × Turn)). y.1.0) h.0 ∙ sym (append-nil x.0); marked = tt }
walk_took ready calls n [] done (l ∷ ls) x steps r m h = absurd m
walk_took ready calls n (who ∷ principals) done [] x steps r m h = absurd m
walk_took ready calls n (who ∷ principals) done (l ∷ ls) x steps r m h =
    let p = path_split (accepting_one ready l x) (λ (q : AtListener). walk (accepting_one ready) (done ++ q.0 ∷ []) ls q.1) steps r h in
    let v = p.value in
    let one = one_took ready calls n who l x p.front v m.0 p.first in
    let here : List LinkStep = flat_map calls_in one.arrivals in
    let only : (m : ℕ) → nat_eq n m ≡ false → Unasked m p.front = λ m e. subst (λ (l : List LinkStep). Unasked m l) (sym one.made) (if_others (wants_accept ready calls n) n who one.arrivals m e one.round) in
    let less : n < n + 1 = omega arith in
    let k = walk_took ready (calls ++ p.front) (n + 1) principals (done ++ v.0 ∷ []) ls v.1 p.rest r (listeners_on calls p.front n (n + 1) principals ls less only m.1) p.second in
    let after_here : TriesListeners ready (calls ++ here) (n + 1) principals k.arrivals = subst (λ (l : List LinkStep). TriesListeners ready (calls ++ l) (n + 1) principals k.arrivals) one.made k.tries in
    let whole : (calls ++ p.front) ++ p.rest ≡ calls ++ steps = append_assoc calls p.front p.rest ∙ ap (λ (l : List LinkStep). calls ++ l) (sym p.whole) in
    let still : Unasked n p.rest = subst (λ (l : List LinkStep). Unasked n l) (sym k.made) (tries_others ready (calls ++ p.front) (n + 1) principals k.arrivals n less k.tries) in
    record {
      listeners = v.0 ∷ k.listeners;
      arrivals = one.arrivals ++ k.arrivals;
      after = k.after ∙ append_assoc done (v.0 ∷ []) k.listeners;
      made = p.whole ∙ ap (λ (l : List LinkStep). l ++ p.rest) one.made ∙ ap (λ (l : List LinkStep). here ++ l) k.made ∙ sym (flat_map-append calls_in one.arrivals k.arrivals);
      tries = (one.arrivals, k.arrivals, refl, one.round, after_here);
      sessions = k.sessions ∙ ap (λ (l : List Session). l ++ flat_map sessions_in k.arrivals) one.sessions ∙ append_assoc x.0 (flat_map sessions_in one.arrivals) (flat_map sessions_in k.arrivals) ∙ ap (λ (l : List Session). x.0 ++ l) (sym (flat_map-append sessions_in one.arrivals k.arrivals));
      marked = subst (λ (l : List LinkStep). AreListenersOf l n (who ∷ principals) (v.0 ∷ k.listeners)) whole (listener_on (calls ++ p.front) p.rest n who v.0 still one.listener, k.marked);
    }
