-- A session is read exactly as the answers so far want it, and its marks are what they say then.
use Rattle.std.proofs.Common.{◌≡◌, ℕ, zero, suc, Bool, true, false, cond, nat_eq, List, [], ◌∷◌, ◌++◌, Option, Some, None, refl, sym, ap, ◌∙◌, subst, append_assoc}
use Rattle.std.proofs.lemmas.List.{append-nil}
use Rattle.ug_links.specs.declared.waiter.LinkId.{LinkId}
use Rattle.ug_links.specs.declared.waiter.Ready.{Ready}
use Rattle.ug_links.specs.declared.step.LinkStep.{LinkStep}
use Rattle.ug_links.specs.declared.step.LinkStep.TheVariants.{Listened, AcceptedAt, ReadFrom, WroteTo, Closed}
use Rattle.ug_links.specs.declared.step.Reading.{Reading}
use Rattle.ug_links.specs.declared.step.Reading.TheVariants as given
use Rattle.ug_links.specs.Talk.{Return, Path, walk, upto}
use Rattle.ug_links.proofs.Paths.{path_split}
use Rattle.ug_sessions.specs.declared.session.Session.{Session}
use Rattle.ug_sessions.specs.declared.session.Turn.{Turn}
use Rattle.ug_sessions.specs.declared.session.Life.{Life}
use Rattle.ug_sessions.specs.declared.session.Life.TheVariants as life
use Rattle.ug_sessions.specs.Tokens.{is_read, names_session}
use Rattle.ug_sessions.specs.Sessions.{is_open_life, fed, not_owed, behind_its_end}
use Rattle.ug_sessions.specs.Reading.{after_feed, after_read_answer, reading_piece, closing_by, closing_doomed, reading_if, reading_one}
use Rattle.ug_sessions.specs.Due.{IsNoneOf, HaveOwnIds}
use Rattle.ug_sessions.specs.LastAnswers.{read_since, last_read, owes_read, has_ended, wants_read}
use Rattle.ug_sessions.specs.Rounds.{ReadsOf, Enough, Bytes_come, Nothing_ready, Link_ends, Link_fails, No_room, ReadsIf, ReadsBy, ReadsSessions}
use Rattle.ug_sessions.specs.Tied.{HasMarks, HasMarksBy, AreMarkedSessions}
use Rattle.ug_sessions.proofs.Lists.{turned_round}
use Rattle.ug_sessions.proofs.Sends.{own}

pub read_append : (id : LinkId) (last : Option Reading) (a b : List LinkStep) → read_since id last (a ++ b) ≡ read_since id (read_since id last a) b
read_append id last [] b = refl
read_append id last (ReadFrom other room answer ∷ a) b = read_append id (cond (nat_eq other.0 id.0) (Some answer) last) a b
read_append id last (AcceptedAt listener answer ∷ a) b = read_append id last a b
read_append id last (WroteTo other bytes answer ∷ a) b = read_append id last a b
read_append id last (Closed other ∷ a) b = read_append id last a b
read_append id last (Listened principal answer ∷ a) b = read_append id last a b

read_own : (id : LinkId) (last : Option Reading) (answer : Reading) (more : List LinkStep) → read_since id last (ReadFrom id 4096 answer ∷ more) ≡ read_since id (Some answer) more
read_own id last answer more = ap (λ (b : Bool). read_since id (cond b (Some answer) last) more) (own id)

read_other : (id other : LinkId) (last : Option Reading) (answer : Reading) (more : List LinkStep) → nat_eq id.0 other.0 ≡ false → read_since other last (ReadFrom id 4096 answer ∷ more) ≡ read_since other last more
read_other id other last answer more e = ap (λ (b : Bool). read_since other (cond b (Some answer) last) more) e

-- what the reads of a session came to
record Read (n : ℕ) (last : Option Reading) (s : Session) (steps : List LinkStep) (r : Session) : Type 0 where
  reads : ReadsOf s.id n steps r.life
  marked : HasMarksBy r.life (read_since s.id last steps) r
  id : r.id ≡ s.id
  who : r.principal ≡ s.principal

read_at : (n : ℕ) (last : Option Reading) (s : Session) (steps steps2 : List LinkStep) (r r2 : Session) → steps ≡ steps2 → r ≡ r2 → Read n last s steps2 r2 → Read n last s steps r
read_at n last s steps steps2 r r2 e f k = subst (λ (l : List LinkStep). Read n last s l r) (sym e) (subst (λ (x : Session). Read n last s steps2 x) (sym f) k)

open_mark : (last : Option Reading) (s : Session) → s.life ≡ life.Open → HasMarks last s → HasMarksBy s.life last s
open_mark last s e m = subst (λ (l : Life). HasMarksBy l last s) (sym e) m

own_mark : (last : Option Reading) (answer : Reading) (s r : Session) (l : Life) → HasMarksBy l (Some answer) r → HasMarksBy l (read_since s.id last (ReadFrom s.id 4096 answer ∷ [])) r
own_mark last answer s r l m = subst (λ (o : Option Reading). HasMarksBy l o r) (sym (read_own s.id last answer [])) m

no_true : (true ≡ false) → ⊥
no_true e = cc

abbrev Next : ℕ → Session × Turn → Type 0
Next n r = (last : Option Reading) (s : Session) (t : Turn) (steps : List LinkStep) → s.life ≡ life.Open → s.ended ≡ false → HasMarks last s → Path (upto reading_piece n (s, t)) steps r → Read n last s steps r.0

abbrev Rest : ℕ → Bool × (Session × Turn) → List LinkStep → Session × Turn → Type 0
Rest n v rest r = Path (cond v.0 (upto reading_piece n v.1) (Return v.1)) rest r

behind_none : (step : LinkStep) (front rest : List LinkStep) → front ≡ [] → rest ≡ [] → step ∷ (front ++ rest) ≡ step ∷ []
behind_none step front rest e f = ap (λ (l : List LinkStep). step ∷ (l ++ rest)) e ∙ ap (λ (l : List LinkStep). step ∷ l) f

behind_closed : (step : LinkStep) (id : LinkId) (front more rest : List LinkStep) → front ≡ Closed id ∷ more → more ≡ [] → rest ≡ [] → step ∷ (front ++ rest) ≡ step ∷ Closed id ∷ []
behind_closed step id front more rest e f g =
    ap (λ (l : List LinkStep). step ∷ (l ++ rest)) e ∙ ap (λ (l : List LinkStep). step ∷ Closed id ∷ (l ++ rest)) f ∙ ap (λ (l : List LinkStep). step ∷ Closed id ∷ l) g

-- where no more is read, the session is as the last answer left it
rest_none : (n : ℕ) (v x : Bool × (Session × Turn)) (rest : List LinkStep) (r : Session × Turn) → v ≡ x → x.0 ≡ false → Rest n v rest r → (rest ≡ []) × (r.0 ≡ x.1.0)
rest_none n v x rest r e f h =
    let k : Path (Return x.1) rest r = subst (λ (b : Bool). Path (cond b (upto reading_piece n x.1) (Return x.1)) rest r) f (subst (λ (y : Bool × (Session × Turn)). Rest n y rest r) e h) in
    (k.1, ap (λ (y : Session × Turn). y.0) k.0)

fed_read : (b : Bool) (n : ℕ) (last : Option Reading) (s : Session) (t : Turn) (bytes : List ℕ) (front rest : List LinkStep) (v : Bool × (Session × Turn)) (r : Session × Turn) → s.life ≡ life.Open → s.ended ≡ false → Next n r → Path (after_feed s t bytes b) front v → Rest n v rest r
    → Read (suc n) last s (ReadFrom s.id 4096 (given.Bytes bytes) ∷ (front ++ rest)) r.0
fed_read true n last s t bytes front rest v r o e next h k =
    let q : Path (upto reading_piece n (fed s bytes, t)) rest r = subst (λ (y : Bool × (Session × Turn)). Rest n y rest r) h.0 k in
    let m : Read n (Some (given.Bytes bytes)) (fed s bytes) rest r.0 = next (Some (given.Bytes bytes)) (fed s bytes) t rest o e (record { ended = e; owed = λ _. refl }) q in
    let step : LinkStep = ReadFrom s.id 4096 (given.Bytes bytes) in
    read_at (suc n) last s (step ∷ (front ++ rest)) (step ∷ rest) r.0 r.0 (ap (λ (l : List LinkStep). step ∷ (l ++ rest)) h.1) refl
    (record { reads = Bytes_come n bytes rest r.0.life m.reads; marked = subst (λ (x : Option Reading). HasMarksBy r.0.life x r.0) (sym (read_own s.id last (given.Bytes bytes) rest)) m.marked; id = m.id; who = m.who })
fed_read false n last s t bytes front rest v r o e next h k =
    let z = rest_none n v _ rest r h.2.0 refl k in
    read_at (suc n) last s (ReadFrom s.id 4096 (given.Bytes bytes) ∷ (front ++ rest)) (ReadFrom s.id 4096 (given.Bytes bytes) ∷ Closed s.id ∷ []) r.0 _ (behind_closed (ReadFrom s.id 4096 (given.Bytes bytes)) s.id front h.0 rest h.1 h.2.1 z.0) z.1
    (record { reads = No_room n bytes; marked = tt; id = refl; who = refl })

answer_read : (answer : Reading) (n : ℕ) (last : Option Reading) (s : Session) (t : Turn) (front rest : List LinkStep) (v : Bool × (Session × Turn)) (r : Session × Turn) → s.life ≡ life.Open → s.ended ≡ false → Next n r → Path (after_read_answer s t answer) front v → Rest n v rest r
    → Read (suc n) last s (ReadFrom s.id 4096 answer ∷ (front ++ rest)) r.0
answer_read (given.Bytes bytes) n last s t front rest v r o e next h k = fed_read h.0 n last s t bytes front rest v r o e next h.1 k
answer_read given.NotYet n last s t front rest v r o e next h k =
    let z = rest_none n v (false, (not_owed s, t)) rest r h.0 refl k in
    let step : LinkStep = ReadFrom s.id 4096 given.NotYet in
    let m : HasMarks (Some given.NotYet) (not_owed s) = record { ended = e; owed = λ _. refl } in
    read_at (suc n) last s (step ∷ (front ++ rest)) (step ∷ []) r.0 (not_owed s) (behind_none step front rest h.1 z.0) z.1
    (record { reads = subst (λ (l : Life). ReadsOf s.id (suc n) (step ∷ []) l) (sym o) (Nothing_ready n); marked = own_mark last given.NotYet s (not_owed s) s.life (open_mark (Some given.NotYet) (not_owed s) o m); id = refl; who = refl })
answer_read given.End n last s t front rest v r o e next h k =
    let z = rest_none n v (false, (behind_its_end s, t)) rest r h.0 refl k in
    let step : LinkStep = ReadFrom s.id 4096 given.End in
    let m : HasMarks (Some given.End) (behind_its_end s) = record { ended = refl; owed = λ f. absurd (no_true f) } in
    read_at (suc n) last s (step ∷ (front ++ rest)) (step ∷ []) r.0 (behind_its_end s) (behind_none step front rest h.1 z.0) z.1
    (record { reads = subst (λ (l : Life). ReadsOf s.id (suc n) (step ∷ []) l) (sym o) (Link_ends n); marked = own_mark last given.End s (behind_its_end s) s.life (open_mark (Some given.End) (behind_its_end s) o m); id = refl; who = refl })
answer_read given.Failed n last s t front rest v r o e next h k =
    let z = rest_none n v _ rest r h.2.0 refl k in
    read_at (suc n) last s (ReadFrom s.id 4096 given.Failed ∷ (front ++ rest)) (ReadFrom s.id 4096 given.Failed ∷ Closed s.id ∷ []) r.0 _ (behind_closed (ReadFrom s.id 4096 given.Failed) s.id front h.0 rest h.1 h.2.1 z.0) z.1
    (record { reads = Link_fails n; marked = tt; id = refl; who = refl })

upto_read : (n : ℕ) (last : Option Reading) (s : Session) (t : Turn) (steps : List LinkStep) (r : Session × Turn) → s.life ≡ life.Open → s.ended ≡ false → HasMarks last s → Path (upto reading_piece n (s, t)) steps r → Read n last s steps r.0
unfolding upto reading_piece
upto_read zero last s t steps r o e m h =
    read_at zero last s steps [] r.0 s h.1 (ap (λ (x : Session × Turn). x.0) h.0)
    (record { reads = subst (λ (l : Life). ReadsOf s.id zero [] l) (sym o) Enough; marked = open_mark last s o m; id = refl; who = refl })
upto_read (suc n) last s t steps r o e m h =
    let p = path_split (reading_piece (s, t)) (λ (q : Bool × (Session × Turn)). cond q.0 (upto reading_piece n q.1) (Return q.1)) steps r h in
    let f = p.first in
    let k = answer_read f.0 n last s t f.1 p.rest p.value r o e (λ last2 s2 t2 steps2 o2 e2 m2 h2. upto_read n last2 s2 t2 steps2 r o2 e2 m2 h2) f.3 p.second in
    read_at (suc n) last s steps (ReadFrom s.id 4096 f.0 ∷ (f.1 ++ p.rest)) r.0 r.0 (p.whole ∙ ap (λ (l : List LinkStep). l ++ p.rest) f.2) refl k

not_ended : (end other : Bool) → cond end false other ≡ true → end ≡ false
not_ended true other e = sym e
not_ended false other e = refl

same_wants : (end owed ends owes named : Bool) → end ≡ ends → (end ≡ false → owed ≡ owes) → cond end false (cond owed true named) ≡ cond ends false (cond owes true named)
same_wants true owed ends owes named e f = ap (λ (b : Bool). cond b false (cond owes true named)) e
same_wants false owed ends owes named e f = ap (λ (b : Bool). cond b true named) (f refl) ∙ ap (λ (b : Bool). cond b false (cond owes true named)) e

-- an open session is read as the answers want it
is_wanted : (ready : List Ready) (calls : List LinkStep) (s : Session) → s.life ≡ life.Open → HasMarks (last_read s.id calls) s → is_read ready s ≡ wants_read ready calls s.id
is_wanted ready calls s o m =
    ap (λ (l : Life). cond (is_open_life l) (cond s.ended false (cond s.owed true (names_session ready s.id))) false) o
    ∙ same_wants s.ended s.owed (has_ended (last_read s.id calls)) (owes_read (last_read s.id calls)) (names_session ready s.id) m.ended m.owed

abbrev Out : Life → List Ready → List LinkStep → Session → List LinkStep → Session → Type 0
Out l ready calls s steps r = ReadsBy l (wants_read ready calls s.id) s.id steps r.life × HasMarksBy r.life (read_since s.id (last_read s.id calls) steps) r × (r.id ≡ s.id) × (r.principal ≡ s.principal)

out_at : (l : Life) (ready : List Ready) (calls : List LinkStep) (s : Session) (steps steps2 : List LinkStep) (r r2 : Session) → steps ≡ steps2 → r ≡ r2 → Out l ready calls s steps2 r2 → Out l ready calls s steps r
out_at l ready calls s steps steps2 r r2 e f k = subst (λ (x : List LinkStep). Out l ready calls s x r) (sym e) (subst (λ (x : Session). Out l ready calls s steps2 x) (sym f) k)

wanted_read : (b : Bool) (ready : List Ready) (calls : List LinkStep) (s : Session) (t : Turn) (steps : List LinkStep) (r : Session × Turn) → s.life ≡ life.Open → HasMarks (last_read s.id calls) s → is_read ready s ≡ b → Path (reading_if b s t) steps r → Out life.Open ready calls s steps r.0
wanted_read true ready calls s t steps r o m e h =
    let wants : wants_read ready calls s.id ≡ true = sym (is_wanted ready calls s o m) ∙ e in
    let open_ : s.ended ≡ false = m.ended ∙ not_ended (has_ended (last_read s.id calls)) (cond (owes_read (last_read s.id calls)) true (names_session ready s.id)) wants in
    let k = upto_read 16 (last_read s.id calls) s t steps r o open_ m h in
    (subst (λ (b : Bool). ReadsIf b s.id steps r.0.life) (sym wants) k.reads, k.marked, k.id, k.who)
wanted_read false ready calls s t steps r o m e h =
    let wants : wants_read ready calls s.id ≡ false = sym (is_wanted ready calls s o m) ∙ e in
    out_at life.Open ready calls s steps [] r.0 s h.1 (ap (λ (x : Session × Turn). x.0) h.0)
    (subst (λ (b : Bool). ReadsIf b s.id [] s.life) (sym wants) (refl, o), open_mark (last_read s.id calls) s o m, refl, refl)

unread : (ready : List Ready) (s : Session) (t : Turn) (rest : List LinkStep) (r : Session × Turn) → is_open_life s.life ≡ false → Path (reading_if (is_read ready s) s t) rest r → (rest ≡ []) × (r.0 ≡ s)
unread ready s t rest r c h =
    let k : Path (Return (s, t)) rest r = subst (λ (b : Bool). Path (reading_if (cond b (cond s.ended false (cond s.owed true (names_session ready s.id))) false) s t) rest r) c h in
    (k.1, ap (λ (x : Session × Turn). x.0) k.0)

abbrev Then : List Ready → Session × Turn → List LinkStep → Session × Turn → Type 0
Then ready v rest r = Path (reading_if (is_read ready v.0) v.0 v.1) rest r

life_read : (l : Life) (ready : List Ready) (calls : List LinkStep) (s : Session) (t : Turn) (front rest : List LinkStep) (v r : Session × Turn) → s.life ≡ l → HasMarksBy l (last_read s.id calls) s → Path (closing_by l s t) front v → Then ready v rest r → Out l ready calls s (front ++ rest) r.0
life_read life.Open ready calls s t front rest v r o m h k =
    let q : Then ready (s, t) rest r = subst (λ (x : Session × Turn). Then ready x rest r) h.0 k in
    out_at life.Open ready calls s (front ++ rest) rest r.0 r.0 (ap (λ (l : List LinkStep). l ++ rest) h.1) refl (wanted_read (is_read ready s) ready calls s t rest r o m refl q)
life_read (life.Doomed w) ready calls s t front rest v r o m h k =
    let closed : Session = record s { life = life.Closed w } in
    let z = unread ready v.0 v.1 rest r (ap (λ (x : Session × Turn). is_open_life x.0.life) h.2.0) k in
    let whole : front ++ rest ≡ Closed s.id ∷ [] = ap (λ (l : List LinkStep). l ++ rest) h.1 ∙ ap (λ (l : List LinkStep). Closed s.id ∷ (l ++ rest)) h.2.1 ∙ ap (λ (l : List LinkStep). Closed s.id ∷ l) z.0 in
    out_at (life.Doomed w) ready calls s (front ++ rest) (Closed s.id ∷ []) r.0 closed whole (z.1 ∙ ap (λ (x : Session × Turn). x.0) h.2.0) ((refl, refl), tt, refl, refl)
life_read (life.Closed w) ready calls s t front rest v r o m h k =
    let z = unread ready v.0 v.1 rest r (ap (λ (x : Session × Turn). is_open_life x.0.life) h.0 ∙ ap is_open_life o) k in
    let whole : front ++ rest ≡ [] = ap (λ (l : List LinkStep). l ++ rest) h.1 ∙ z.0 in
    out_at (life.Closed w) ready calls s (front ++ rest) [] r.0 s whole (z.1 ∙ ap (λ (x : Session × Turn). x.0) h.0) ((refl, o), subst (λ (l : Life). HasMarksBy l (last_read s.id calls) s) (sym o) tt, refl, refl)

one_read : (ready : List Ready) (calls : List LinkStep) (s : Session) (t : Turn) (steps : List LinkStep) (r : Session × Turn) → HasMarksBy s.life (last_read s.id calls) s → Path (reading_one ready s t) steps r → Out s.life ready calls s steps r.0
unfolding reading_one closing_doomed
one_read ready calls s t steps r m h =
    let p = path_split (closing_doomed s t) (λ (q : Session × Turn). reading_if (is_read ready q.0) q.0 q.1) steps r h in
    out_at s.life ready calls s steps (p.front ++ p.rest) r.0 r.0 p.whole refl (life_read s.life ready calls s t p.front p.rest p.value r refl m p.first p.second)

-- the reads of one session leave the last answers of others
abbrev pub Untouched : LinkId → List LinkStep → Type 0
Untouched other steps = (last : Option Reading) → read_since other last steps ≡ last

reads_others : (id other : LinkId) (n : ℕ) (steps : List LinkStep) (l : Life) → nat_eq id.0 other.0 ≡ false → ReadsOf id n steps l → Untouched other steps
reads_others id other _ _ _ e Enough last = refl
reads_others id other _ _ _ e (Bytes_come left bytes more l h) last = read_other id other last (given.Bytes bytes) more e ∙ reads_others id other left more l e h last
reads_others id other _ _ _ e (Nothing_ready left) last = read_other id other last given.NotYet [] e
reads_others id other _ _ _ e (Link_ends left) last = read_other id other last given.End [] e
reads_others id other _ _ _ e (Link_fails left) last = read_other id other last given.Failed (Closed id ∷ []) e
reads_others id other _ _ _ e (No_room left bytes) last = read_other id other last (given.Bytes bytes) (Closed id ∷ []) e

if_others : (b : Bool) (id other : LinkId) (steps : List LinkStep) (l : Life) → nat_eq id.0 other.0 ≡ false → ReadsIf b id steps l → Untouched other steps
if_others true id other steps l e h last = reads_others id other 16 steps l e h last
if_others false id other steps l e h last = ap (λ (x : List LinkStep). read_since other last x) h.0

by_others : (l : Life) (b : Bool) (id other : LinkId) (steps : List LinkStep) (after : Life) → nat_eq id.0 other.0 ≡ false → ReadsBy l b id steps after → Untouched other steps
by_others life.Open b id other steps after e h last = if_others b id other steps after e h last
by_others (life.Doomed w) b id other steps after e h last = ap (λ (x : List LinkStep). read_since other last x) h.0
by_others (life.Closed w) b id other steps after e h last = ap (λ (x : List LinkStep). read_since other last x) h.0

untouched_then : (id : LinkId) (a b steps : List LinkStep) → steps ≡ a ++ b → Untouched id a → Untouched id b → Untouched id steps
untouched_then id a b steps e f g last = ap (λ (x : List LinkStep). read_since id last x) e ∙ read_append id last a b ∙ g (read_since id last a) ∙ f last

pub sessions_others : (ready : List Ready) (calls : List LinkStep) (ss : List Session) (steps : List LinkStep) (ts : List Session) (id : LinkId) → IsNoneOf id ss → ReadsSessions ready calls ss steps ts → Untouched id steps
sessions_others ready calls [] steps [] id n h last = ap (λ (x : List LinkStep). read_since id last x) h
sessions_others ready calls [] steps (t ∷ ts) id n h last = absurd h
sessions_others ready calls (s ∷ ss) steps [] id n h last = absurd h
sessions_others ready calls (s ∷ ss) steps (t ∷ ts) id n h last =
    untouched_then id h.0 h.1 steps h.2 (by_others s.life (wants_read ready calls s.id) s.id id h.0 t.life n.0 h.3) (sessions_others ready (calls ++ h.0) ss h.1 ts id n.1 h.6) last

-- marks stay where nothing is read of a session
untouched_mark : (calls steps : List LinkStep) (s : Session) → Untouched s.id steps → HasMarksBy s.life (last_read s.id calls) s → HasMarksBy s.life (last_read s.id (calls ++ steps)) s
untouched_mark calls steps s u m = subst (λ (x : Option Reading). HasMarksBy s.life x s) (sym (read_append s.id None calls steps ∙ u (last_read s.id calls))) m

pub untouched_marks : (calls steps : List LinkStep) (ss : List Session) (f : (s : Session) → Untouched s.id steps) → AreMarkedSessions calls ss → AreMarkedSessions (calls ++ steps) ss
untouched_marks calls steps [] f m = tt
untouched_marks calls steps (s ∷ ss) f m = (untouched_mark calls steps s (f s) m.0, untouched_marks calls steps ss f m.1)

others_marks : (l : Life) (b : Bool) (id : LinkId) (after : Life) (calls here : List LinkStep) (ss : List Session) → ReadsBy l b id here after → IsNoneOf id ss → AreMarkedSessions calls ss → AreMarkedSessions (calls ++ here) ss
others_marks l b id after calls here [] h n m = tt
others_marks l b id after calls here (s ∷ ss) h n m = (untouched_mark calls here s (by_others l b id s.id here after (turned_round s.id.0 id.0 n.0) h) m.0, others_marks l b id after calls here ss h n.1 m.1)

pub walk_reads : (ready : List Ready) (calls : List LinkStep) (done ss : List Session) (t : Turn) (steps : List LinkStep) (r : List Session × Turn) → HaveOwnIds ss → AreMarkedSessions calls ss → Path (walk (reading_one ready) done ss t) steps r
    → (ts : List Session) × (r.0 ≡ done ++ ts) × ReadsSessions ready calls ss steps ts × AreMarkedSessions (calls ++ steps) ts
walk_reads ready calls done [] t steps r d m h = ([], ap (λ (x : List Session × Turn). x.0) h.0 ∙ sym (append-nil done), h.1, tt)
walk_reads ready calls done (s ∷ ss) t steps r d m h =
    let p = path_split (reading_one ready s t) (λ (q : Session × Turn). walk (reading_one ready) (done ++ q.0 ∷ []) ss q.1) steps r h in
    let v = p.value.0 in
    let one = one_read ready calls s t p.front p.value m.0 p.first in
    let behind = others_marks s.life (wants_read ready calls s.id) s.id v.life calls p.front ss one.0 d.0 m.1 in
    let k = walk_reads ready (calls ++ p.front) (done ++ v ∷ []) ss p.value.1 p.rest r d.1 behind p.second in
    let still : Untouched s.id p.rest = sessions_others ready (calls ++ p.front) ss p.rest k.0 s.id d.0 k.2 in
    let last : last_read s.id (calls ++ steps) ≡ read_since s.id (last_read s.id calls) p.front =
    ap (λ (x : List LinkStep). last_read s.id (calls ++ x)) p.whole ∙ read_append s.id None calls (p.front ++ p.rest) ∙ read_append s.id (last_read s.id calls) p.front p.rest ∙ still (read_since s.id (last_read s.id calls) p.front) in
    let mine : HasMarksBy v.life (last_read v.id (calls ++ steps)) v =
    subst (λ (i : LinkId). HasMarksBy v.life (last_read i (calls ++ steps)) v) (sym one.2) (subst (λ (x : Option Reading). HasMarksBy v.life x v) (sym last) one.1) in
    let whole : (calls ++ p.front) ++ p.rest ≡ calls ++ steps = append_assoc calls p.front p.rest ∙ ap (λ (x : List LinkStep). calls ++ x) (sym p.whole) in
    (v ∷ k.0, k.1 ∙ append_assoc done (v ∷ []) k.0, (p.front, p.rest, p.whole, one.0, one.2, one.3, k.2), (mine, subst (λ (x : List LinkStep). AreMarkedSessions x k.0) whole k.3))
