-- What a flush writes to each session, and which it closes by that.
use Rattle.std.proofs.Common.{◌≡◌, ℕ, zero, suc, ◌≤◌, Bool, true, false, cond, nat_eq, List, [], ◌∷◌, ◌++◌, length, drop, Option, Some, None, refl, sym, ap, ◌∙◌, subst, append_assoc, arith}
use Rattle.std.proofs.lemmas.List.{append-nil, length-drop}
use Rattle.ug_links.specs.declared.waiter.LinkId.{LinkId}
use Rattle.ug_links.specs.declared.links.LinkWrote.{LinkWrote}
use Rattle.ug_links.specs.declared.links.LinkWrote.TheVariants as wrote
use Rattle.ug_links.specs.declared.step.LinkStep.{LinkStep}
use Rattle.ug_links.specs.declared.step.LinkStep.TheVariants.{WroteTo, Closed}
use Rattle.ug_links.specs.declared.step.Reading.{Reading}
use Rattle.ug_links.specs.Steps.{IsStep}
use Rattle.ug_links.specs.Talk.{Return, Path, AreSteps, walk, upto}
use Rattle.ug_links.proofs.Paths.{path_split}
use Rattle.ug_sessions.specs.declared.session.Session.{Session}
use Rattle.ug_sessions.specs.declared.session.Turn.{Turn}
use Rattle.ug_sessions.specs.declared.session.Life.{Life}
use Rattle.ug_sessions.specs.declared.session.Life.TheVariants as life
use Rattle.ug_sessions.specs.declared.session.Why.{Why}
use Rattle.ug_sessions.specs.declared.session.Why.TheVariants as why
use Rattle.ug_sessions.specs.Sessions.{closed_for, is_open_life, is_open_session}
use Rattle.ug_sessions.specs.Reading.{closing_by, closing_doomed}
use Rattle.ug_sessions.specs.Sending.{after_writing, writing_if, writing_some, is_served, finish_ended, finish_refused, finish_open, finish_sent, finishing, sending_if, flushing_one}
use Rattle.ug_sessions.specs.LastAnswers.{read_since, last_read, has_ended}
use Rattle.ug_sessions.specs.Rounds.{WritesTo, All_sent, Done, Some_sent, Not_ready, Breaks, WritesBy, WritesSessions, closed_once_sent}
use Rattle.ug_sessions.specs.Tied.{HasMarks, HasMarksBy, AreMarkedSessions}
use Rattle.ug_sessions.proofs.Flushed.{empty_of, positive, zero_of, steps_apart}
use Rattle.ug_sessions.proofs.Marks.{Untouched, read_append}

-- what the writes of a session came to
record Wrote (once_sent : Option Why) (s : Session) (steps : List LinkStep) (r : Session) : Type 0 where
  writes : WritesTo s.id once_sent s.unsent steps r.unsent r.life
  quiet : (id : LinkId) → Untouched id steps
  id : r.id ≡ s.id
  who : r.principal ≡ s.principal
  marks : (last : Option Reading) → HasMarks last s → HasMarksBy r.life last r

wrote_at : (c : Option Why) (s : Session) (steps steps2 : List LinkStep) (r r2 : Session) → steps ≡ steps2 → r ≡ r2 → Wrote c s steps2 r2 → Wrote c s steps r
wrote_at c s steps steps2 r r2 e f k = subst (λ (l : List LinkStep). Wrote c s l r) (sym e) (subst (λ (x : Session). Wrote c s steps2 x) (sym f) k)

open_mark : (last : Option Reading) (s : Session) → s.life ≡ life.Open → HasMarks last s → HasMarksBy s.life last s
open_mark last s e m = subst (λ (l : Life). HasMarksBy l last s) (sym e) m

-- it is closed where all is sent
done : (c : Option Why) (w : Why) (s : Session) (t : Turn) (steps more : List LinkStep) (r : Session) → s.unsent ≡ [] → c ≡ Some w → steps ≡ Closed s.id ∷ more → more ≡ [] → r ≡ closed_for w s → Wrote c s steps r
done c w s t steps more r u e f g h =
    wrote_at c s steps (Closed s.id ∷ []) r (closed_for w s) (f ∙ ap (λ (l : List LinkStep). Closed s.id ∷ l) g) h
    (record { writes = subst (λ (l : List ℕ). WritesTo s.id c l (Closed s.id ∷ []) l (life.Closed w)) (sym u) (Done w e); quiet = λ id last. refl; id = refl; who = refl; marks = λ last m. tt })

-- it stays open where all is sent
stays_open : (c : Option Why) (s : Session) (steps : List LinkStep) (r : Session) → s.life ≡ life.Open → s.unsent ≡ [] → c ≡ None → steps ≡ [] → r ≡ s → Wrote c s steps r
stays_open c s steps r o u e f g =
    wrote_at c s steps [] r s f g
    (record { writes = subst (λ (l : Life). WritesTo s.id c s.unsent [] s.unsent l) (sym o) (subst (λ (l : List ℕ). WritesTo s.id c l [] l life.Open) (sym u) (All_sent e)); quiet = λ id last. refl; id = refl; who = refl; marks = λ last m. open_mark last s o m })

abbrev once : Session → Option Why
once s = closed_once_sent s.ended s

served_once : (refused end drained : Bool) (unanswered : ℕ) (b : Bool) → refused ≡ false → cond end (cond drained (nat_eq unanswered 0) false) false ≡ b
    → cond refused (Some why.TooLong) (cond end (cond drained (cond (nat_eq unanswered 0) (Some why.Ended) None) None) None) ≡ cond b (Some why.Ended) None
served_once refused false drained unanswered b r e = ap (λ (x : Bool). cond x (Some why.TooLong) None) r ∙ ap (λ (x : Bool). cond x (Some why.Ended) None) e
served_once refused true false unanswered b r e = ap (λ (x : Bool). cond x (Some why.TooLong) None) r ∙ ap (λ (x : Bool). cond x (Some why.Ended) None) e
served_once refused true true unanswered b r e = ap (λ (x : Bool). cond x (Some why.TooLong) (cond (nat_eq unanswered 0) (Some why.Ended) None)) r ∙ ap (λ (x : Bool). cond x (Some why.Ended) None) e

ended_wrote : (b : Bool) (s : Session) (t : Turn) (steps : List LinkStep) (r : Session × Turn) → s.life ≡ life.Open → s.unsent ≡ [] → once s ≡ cond b (Some why.Ended) None → Path (finish_ended b s t) steps r → Wrote (once s) s steps r.0
ended_wrote true s t steps r o u e h = done (once s) why.Ended s t steps h.0 r.0 u e h.1 h.2.1 (ap (λ (x : Session × Turn). x.0) h.2.0)
ended_wrote false s t steps r o u e h = stays_open (once s) s steps r.0 o u e h.1 (ap (λ (x : Session × Turn). x.0) h.0)

refused_wrote : (b : Bool) (s : Session) (t : Turn) (steps : List LinkStep) (r : Session × Turn) → s.life ≡ life.Open → s.unsent ≡ [] → s.refused ≡ b → Path (finish_refused b s t) steps r → Wrote (once s) s steps r.0
refused_wrote true s t steps r o u e h =
    let too_long : once s ≡ Some why.TooLong = ap (λ (x : Bool). cond x (Some why.TooLong) (cond s.ended (cond s.drained (cond (nat_eq s.unanswered 0) (Some why.Ended) None) None) None)) e in
    done (once s) why.TooLong s t steps h.0 r.0 u too_long h.1 h.2.1 (ap (λ (x : Session × Turn). x.0) h.2.0)
refused_wrote false s t steps r o u e h = ended_wrote (is_served s) s t steps r o u (served_once s.refused s.ended s.drained s.unanswered (is_served s) e refl) h

sent_wrote : (s : Session) (t : Turn) (steps : List LinkStep) (r : Session × Turn) → s.life ≡ life.Open → s.unsent ≡ [] → Path (finishing s t) steps r → Wrote (once s) s steps r.0
unfolding finishing
sent_wrote s t steps r o u h =
    let k : Path (finish_open (is_open_session s) s t) steps r = subst (λ (l : List ℕ). Path (finish_sent (nat_eq (length l) 0) s t) steps r) u h in
    let q : Path (finish_refused s.refused s t) steps r = subst (λ (l : Life). Path (finish_open (is_open_life l) s t) steps r) o k in
    refused_wrote s.refused s t steps r o u refl q

-- while bytes are unsent, nothing is finished
unsent_quiet : (s : Session) (t : Turn) (steps : List LinkStep) (r : Session × Turn) → nat_eq (length s.unsent) 0 ≡ false → Path (finishing s t) steps r → (steps ≡ []) × (r.0 ≡ s)
unfolding finishing
unsent_quiet s t steps r e h =
    let k : Path (Return (s, t)) steps r = subst (λ (b : Bool). Path (finish_sent b s t) steps r) e h in
    (k.1, ap (λ (x : Session × Turn). x.0) k.0)

closed_quiet : (s : Session) (t : Turn) (steps : List LinkStep) (r : Session × Turn) → is_open_session s ≡ false → Path (finishing s t) steps r → (steps ≡ []) × (r.0 ≡ s)
unfolding finishing
closed_quiet s t steps r e h =
    let T : Bool → Type 0 = λ b. Path (finish_sent b s t) steps r → (steps ≡ []) × (r.0 ≡ s) in
    let f : (b : Bool) → T b = λ b. elim b as T [
      | true ↦ λ q. let k : Path (Return (s, t)) steps r = subst (λ (c : Bool). Path (finish_open c s t) steps r) e q in (k.1, ap (λ (x : Session × Turn). x.0) k.0)
      | false ↦ λ q. (q.1, ap (λ (x : Session × Turn). x.0) q.0)
    ] in
    f (nat_eq (length s.unsent) 0) h

abbrev Then : ℕ → Bool × (Session × Turn) → List LinkStep → Session × Turn → Type 0
Then n v rest w = Path (cond v.0 (upto writing_some n v.1) (Return v.1)) rest w

-- where no more is written, the session is as the last answer left it
rest_none : (n : ℕ) (v x : Bool × (Session × Turn)) (rest : List LinkStep) (w : Session × Turn) → v ≡ x → x.0 ≡ false → Then n v rest w → (rest ≡ []) × (w ≡ x.1)
rest_none n v x rest w e f h =
    let k : Path (Return x.1) rest w = subst (λ (b : Bool). Path (cond b (upto writing_some n x.1) (Return x.1)) rest w) f (subst (λ (y : Bool × (Session × Turn)). Then n y rest w) e h) in
    (k.1, k.0)

abbrev Next : ℕ → Session × Turn → List LinkStep → Session × Turn → Type 0
Next n w last r = (before : List LinkStep) (s : Session) (t : Turn) (steps : List LinkStep) → s.life ≡ life.Open → length s.unsent ≤ n → AreSteps before steps → Path (upto writing_some n (s, t)) steps w → Path (finishing w.0 w.1) last r → Wrote (once s) s (steps ++ last) r.0

answer_wrote : (answer : LinkWrote) (n : ℕ) (before : List LinkStep) (s : Session) (t : Turn) (front rest last : List LinkStep) (v : Bool × (Session × Turn)) (w r : Session × Turn) → s.life ≡ life.Open → length s.unsent ≤ suc n → nat_eq (length s.unsent) 0 ≡ false
    → IsStep before (WroteTo s.id s.unsent answer) → AreSteps ((before ++ WroteTo s.id s.unsent answer ∷ []) ++ front) rest → Next n w last r → Path (after_writing s t answer) front v → Then n v rest w → Path (finishing w.0 w.1) last r
    → Wrote (once s) s (WroteTo s.id s.unsent answer ∷ ((front ++ rest) ++ last)) r.0
answer_wrote (wrote.Sent k) n before s t front rest last v w r o le e may a next h q z =
    let s2 : Session = record s { unsent = drop k s.unsent } in
    let step : LinkStep = WroteTo s.id s.unsent (wrote.Sent k) in
    let go : Path (upto writing_some n (s2, t)) rest w = subst (λ (y : Bool × (Session × Turn)). Then n y rest w) h.0 q in
    let long = length-drop k s.unsent in
    let le2 : length (drop k s.unsent) ≤ n = let x = may.0 in let y = may.1 in omega (arith, long, x, y, le) in
    let m = next ((before ++ step ∷ []) ++ front) s2 t rest o le2 a go z in
    wrote_at (once s) s (step ∷ ((front ++ rest) ++ last)) (step ∷ (rest ++ last)) r.0 r.0 (ap (λ (l : List LinkStep). step ∷ ((l ++ rest) ++ last)) h.1) refl
    (record { writes = Some_sent k s.unsent (rest ++ last) r.0.unsent r.0.life may.0 may.1 m.writes; quiet = λ id x. m.quiet id x; id = m.id; who = m.who; marks = λ x y. m.marks x (record { ended = y.ended; owed = y.owed }) })
answer_wrote wrote.NotYet n before s t front rest last v w r o le e may a next h q z =
    let step : LinkStep = WroteTo s.id s.unsent wrote.NotYet in
    let y = rest_none n v (false, (s, t)) rest w h.0 refl q in
    let x = unsent_quiet s t last r e (subst (λ (u : Session × Turn). Path (finishing u.0 u.1) last r) y.1 z) in
    let whole : step ∷ ((front ++ rest) ++ last) ≡ step ∷ [] = ap (λ (l : List LinkStep). step ∷ ((l ++ rest) ++ last)) h.1 ∙ ap (λ (l : List LinkStep). step ∷ (l ++ last)) y.0 ∙ ap (λ (l : List LinkStep). step ∷ l) x.0 in
    wrote_at (once s) s (step ∷ ((front ++ rest) ++ last)) (step ∷ []) r.0 s whole x.1
    (record { writes = subst (λ (l : Life). WritesTo s.id (once s) s.unsent (step ∷ []) s.unsent l) (sym o) (Not_ready s.unsent (positive (length s.unsent) e)); quiet = λ id i. refl; id = refl; who = refl; marks = λ i m. open_mark i s o m })
answer_wrote wrote.Failed n before s t front rest last v w r o le e may a next h q z =
    let step : LinkStep = WroteTo s.id s.unsent wrote.Failed in
    let shut : Session = record s { unsent = []; life = life.Closed why.Failed } in
    let y = rest_none n v _ rest w h.2.0 refl q in
    let x = closed_quiet w.0 w.1 last r (ap (λ (u : Session × Turn). is_open_session u.0) y.1) z in
    let whole : step ∷ ((front ++ rest) ++ last) ≡ step ∷ Closed s.id ∷ [] =
    ap (λ (l : List LinkStep). step ∷ ((l ++ rest) ++ last)) h.1 ∙ ap (λ (l : List LinkStep). step ∷ Closed s.id ∷ ((l ++ rest) ++ last)) h.2.1 ∙ ap (λ (l : List LinkStep). step ∷ Closed s.id ∷ (l ++ last)) y.0 ∙ ap (λ (l : List LinkStep). step ∷ Closed s.id ∷ l) x.0 in
    wrote_at (once s) s (step ∷ ((front ++ rest) ++ last)) (step ∷ Closed s.id ∷ []) r.0 shut whole (x.1 ∙ ap (λ (u : Session × Turn). u.0) y.1)
    (record { writes = Breaks s.unsent (positive (length s.unsent) e); quiet = λ id i. refl; id = refl; who = refl; marks = λ i m. tt })

-- one write, and those behind it
some_wrote : (b : Bool) (n : ℕ) (before : List LinkStep) (s : Session) (t : Turn) (front rest last : List LinkStep) (v : Bool × (Session × Turn)) (w r : Session × Turn) → s.life ≡ life.Open → length s.unsent ≤ suc n → nat_eq (length s.unsent) 0 ≡ b
    → AreSteps before front → AreSteps (before ++ front) rest → Next n w last r → Path (writing_if b s t) front v → Then n v rest w → Path (finishing w.0 w.1) last r
    → Wrote (once s) s ((front ++ rest) ++ last) r.0
some_wrote true n before s t front rest last v w r o le e can a next h q z =
    let y = rest_none n v (false, (s, t)) rest w h.0 refl q in
    let whole : (front ++ rest) ++ last ≡ last = ap (λ (l : List LinkStep). (l ++ rest) ++ last) h.1 ∙ ap (λ (l : List LinkStep). l ++ last) y.0 in
    wrote_at (once s) s ((front ++ rest) ++ last) last r.0 r.0 whole refl
    (sent_wrote s t last r o (empty_of s.unsent (zero_of (length s.unsent) e)) (subst (λ (u : Session × Turn). Path (finishing u.0 u.1) last r) y.1 z))
some_wrote false n before s t front rest last v w r o le e can a next h q z =
    let step : LinkStep = WroteTo s.id s.unsent h.0 in
    let may = subst (λ (l : List LinkStep). AreSteps before l) h.2 can in
    let same : before ++ front ≡ (before ++ step ∷ []) ++ h.1 = ap (λ (l : List LinkStep). before ++ l) h.2 ∙ sym (append_assoc before (step ∷ []) h.1) in
    wrote_at (once s) s ((front ++ rest) ++ last) (step ∷ ((h.1 ++ rest) ++ last)) r.0 r.0 (ap (λ (l : List LinkStep). (l ++ rest) ++ last) h.2) refl
    (answer_wrote h.0 n before s t h.1 rest last v w r o le e may.0 (subst (λ (l : List LinkStep). AreSteps l rest) same a) next h.3 q z)

upto_wrote : (n : ℕ) (before : List LinkStep) (s : Session) (t : Turn) (steps last : List LinkStep) (w r : Session × Turn) → s.life ≡ life.Open → length s.unsent ≤ n → AreSteps before steps → Path (upto writing_some n (s, t)) steps w → Path (finishing w.0 w.1) last r → Wrote (once s) s (steps ++ last) r.0
unfolding upto writing_some
upto_wrote zero before s t steps last w r o le a h z =
    wrote_at (once s) s (steps ++ last) last r.0 r.0 (ap (λ (l : List LinkStep). l ++ last) h.1) refl
    (sent_wrote s t last r o (empty_of s.unsent le) (subst (λ (u : Session × Turn). Path (finishing u.0 u.1) last r) h.0 z))
upto_wrote (suc n) before s t steps last w r o le a h z =
    let p = path_split (writing_some (s, t)) (λ (q : Bool × (Session × Turn)). cond q.0 (upto writing_some n q.1) (Return q.1)) steps w h in
    let two = steps_apart before p.front p.rest (subst (λ (l : List LinkStep). AreSteps before l) p.whole a) in
    wrote_at (once s) s (steps ++ last) ((p.front ++ p.rest) ++ last) r.0 r.0 (ap (λ (l : List LinkStep). l ++ last) p.whole) refl
    (some_wrote (nat_eq (length s.unsent) 0) n before s t p.front p.rest last p.value w r o le refl two.0 two.1 (λ b2 s2 t2 steps2 o2 le2 a2 h2 z2. upto_wrote n b2 s2 t2 steps2 last w r o2 le2 a2 h2 z2) p.first p.second z)

abbrev Out : Life → List LinkStep → Session → List LinkStep → Session → Type 0
Out l calls s steps r = WritesBy l s (has_ended (last_read s.id calls)) steps r × ((id : LinkId) → Untouched id steps) × (r.id ≡ s.id) × (r.principal ≡ s.principal) × HasMarksBy r.life (last_read s.id calls) r

out_at : (l : Life) (calls : List LinkStep) (s : Session) (steps steps2 : List LinkStep) (r r2 : Session) → steps ≡ steps2 → r ≡ r2 → Out l calls s steps2 r2 → Out l calls s steps r
out_at l calls s steps steps2 r r2 e f k = subst (λ (x : List LinkStep). Out l calls s x r) (sym e) (subst (λ (x : Session). Out l calls s steps2 x) (sym f) k)

abbrev Sends : Session × Turn → List LinkStep → Session × Turn → Type 0
Sends v rest r = Path (sending_if (is_open_session v.0) v.0 v.1) rest r

unsent_closed : (v : Session × Turn) (rest : List LinkStep) (r : Session × Turn) → is_open_session v.0 ≡ false → Sends v rest r → (rest ≡ []) × (r.0 ≡ v.0)
unsent_closed v rest r e h =
    let k : Path (Return v) rest r = subst (λ (b : Bool). Path (sending_if b v.0 v.1) rest r) e h in
    (k.1, ap (λ (x : Session × Turn). x.0) k.0)

open_sends : (calls before : List LinkStep) (s : Session) (t : Turn) (steps : List LinkStep) (r : Session × Turn) → s.life ≡ life.Open → AreSteps before steps → HasMarks (last_read s.id calls) s → Path (sending_if true s t) steps r → Out life.Open calls s steps r.0
open_sends calls before s t steps r o a m h =
    let p = path_split (upto writing_some (length s.unsent) (s, t)) (λ (q : Session × Turn). finishing q.0 q.1) steps r h in
    let two = steps_apart before p.front p.rest (subst (λ (l : List LinkStep). AreSteps before l) p.whole a) in
    let k = upto_wrote (length s.unsent) before s t p.front p.rest p.value r o (omega arith) two.0 p.first p.second in
    let same : once s ≡ closed_once_sent (has_ended (last_read s.id calls)) s = ap (λ (b : Bool). closed_once_sent b s) m.ended in
    out_at life.Open calls s steps (p.front ++ p.rest) r.0 r.0 p.whole refl
    (subst (λ (c : Option Why). WritesTo s.id c s.unsent (p.front ++ p.rest) r.0.unsent r.0.life) same k.writes, k.quiet, k.id, k.who, k.marks (last_read s.id calls) m)

life_sends : (l : Life) (calls before : List LinkStep) (s : Session) (t : Turn) (front rest : List LinkStep) (v r : Session × Turn) → s.life ≡ l → AreSteps (before ++ front) rest → HasMarksBy l (last_read s.id calls) s → Path (closing_by l s t) front v → Sends v rest r → Out l calls s (front ++ rest) r.0
life_sends life.Open calls before s t front rest v r o a m h k =
    let q : Sends (s, t) rest r = subst (λ (x : Session × Turn). Sends x rest r) h.0 k in
    let z : Path (sending_if true s t) rest r = subst (λ (l : Life). Path (sending_if (is_open_life l) s t) rest r) o q in
    out_at life.Open calls s (front ++ rest) rest r.0 r.0 (ap (λ (l : List LinkStep). l ++ rest) h.1) refl (open_sends calls (before ++ front) s t rest r o a m z)
life_sends (life.Doomed w) calls before s t front rest v r o a m h k =
    let z = unsent_closed v rest r (ap (λ (x : Session × Turn). is_open_session x.0) h.2.0) k in
    let whole : front ++ rest ≡ Closed s.id ∷ [] = ap (λ (l : List LinkStep). l ++ rest) h.1 ∙ ap (λ (l : List LinkStep). Closed s.id ∷ (l ++ rest)) h.2.1 ∙ ap (λ (l : List LinkStep). Closed s.id ∷ l) z.0 in
    out_at (life.Doomed w) calls s (front ++ rest) (Closed s.id ∷ []) r.0 (closed_for w s) whole (z.1 ∙ ap (λ (x : Session × Turn). x.0) h.2.0) ((refl, refl), (λ id last. refl), refl, refl, tt)
life_sends (life.Closed w) calls before s t front rest v r o a m h k =
    let z = unsent_closed v rest r (ap (λ (x : Session × Turn). is_open_session x.0) h.0 ∙ ap is_open_life o) k in
    let whole : front ++ rest ≡ [] = ap (λ (l : List LinkStep). l ++ rest) h.1 ∙ z.0 in
    out_at (life.Closed w) calls s (front ++ rest) [] r.0 s whole (z.1 ∙ ap (λ (x : Session × Turn). x.0) h.0) ((refl, o), (λ id last. refl), refl, refl, subst (λ (l : Life). HasMarksBy l (last_read s.id calls) s) (sym o) tt)

one_sends : (calls before : List LinkStep) (s : Session) (t : Turn) (steps : List LinkStep) (r : Session × Turn) → AreSteps before steps → HasMarksBy s.life (last_read s.id calls) s → Path (flushing_one s t) steps r → Out s.life calls s steps r.0
unfolding flushing_one closing_doomed
one_sends calls before s t steps r a m h =
    let p = path_split (closing_doomed s t) (λ (q : Session × Turn). sending_if (is_open_session q.0) q.0 q.1) steps r h in
    let two = steps_apart before p.front p.rest (subst (λ (l : List LinkStep). AreSteps before l) p.whole a) in
    out_at s.life calls s steps (p.front ++ p.rest) r.0 r.0 p.whole refl (life_sends s.life calls before s t p.front p.rest p.value r refl two.1 m p.first p.second)

pub walk_sends : (calls before : List LinkStep) (done ss : List Session) (t : Turn) (steps : List LinkStep) (r : List Session × Turn) → AreSteps before steps → AreMarkedSessions calls ss → Path (walk flushing_one done ss t) steps r
    → (ts : List Session) × (r.0 ≡ done ++ ts) × WritesSessions calls ss steps ts × ((id : LinkId) → Untouched id steps) × AreMarkedSessions calls ts
walk_sends calls before done [] t steps r a m h = ([], ap (λ (x : List Session × Turn). x.0) h.0 ∙ sym (append-nil done), h.1, (λ id last. ap (λ (l : List LinkStep). read_since id last l) h.1), tt)
walk_sends calls before done (s ∷ ss) t steps r a m h =
    let p = path_split (flushing_one s t) (λ (q : Session × Turn). walk flushing_one (done ++ q.0 ∷ []) ss q.1) steps r h in
    let two = steps_apart before p.front p.rest (subst (λ (l : List LinkStep). AreSteps before l) p.whole a) in
    let v = p.value.0 in
    let one = one_sends calls before s t p.front p.value two.0 m.0 p.first in
    let k = walk_sends calls (before ++ p.front) (done ++ v ∷ []) ss p.value.1 p.rest r two.1 m.1 p.second in
    let quiet : (id : LinkId) → Untouched id steps = λ id last. ap (λ (l : List LinkStep). read_since id last l) p.whole ∙ read_append id last p.front p.rest ∙ k.3 id (read_since id last p.front) ∙ one.1 id last in
    (v ∷ k.0, k.1 ∙ append_assoc done (v ∷ []) k.0, (p.front, p.rest, p.whole, one.0, one.2, one.3, k.2), quiet, (subst (λ (i : LinkId). HasMarksBy v.life (last_read i calls) v) (sym one.2) one.4, k.4))
