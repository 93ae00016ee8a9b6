-- Each session that is closed is counted once.
use Rattle.std.proofs.Common.{◌≡◌, ℕ, zero, suc, Bool, true, false, cond, nat_eq, length, List, [], ◌∷◌, ◌++◌, refl, sym, ap, ◌∙◌, subst, append_assoc}
use Rattle.std.proofs.lemmas.List.{append-nil}
use Rattle.ug_links.specs.declared.waiter.Ready.{Ready}
use Rattle.ug_links.specs.declared.links.LinkWrote.{LinkWrote}
use Rattle.ug_links.specs.declared.links.LinkWrote.TheVariants as wrote
use Rattle.ug_links.specs.declared.step.LinkStep.{LinkStep}
use Rattle.ug_links.specs.declared.step.Reading.{Reading}
use Rattle.ug_links.specs.declared.step.Reading.TheVariants.{Bytes, NotYet, End, Failed}
use Rattle.ug_links.specs.Talk.{Talk, Return, Path, walk, upto}
use Rattle.ug_links.proofs.Paths.{path_split}
use Rattle.ug_sessions.specs.declared.session.Session.{Session}
use Rattle.ug_sessions.specs.declared.session.Turn.{Turn}
use Rattle.ug_sessions.specs.declared.session.Why.{Why}
use Rattle.ug_sessions.specs.declared.session.Why.TheVariants as why
use Rattle.ug_sessions.specs.declared.session.Life.{Life}
use Rattle.ug_sessions.specs.declared.session.Life.TheVariants as life
use Rattle.ug_sessions.specs.Tokens.{is_read, names_session}
use Rattle.ug_sessions.specs.Sessions.{is_open_life, is_open_session, closed_for, unsending, emptied, counted_as}
use Rattle.ug_sessions.specs.Reading.{after_feed, after_read_answer, reading_piece, closing_by, closing_doomed, reading_if, reading_one}
use Rattle.ug_sessions.specs.Sending.{after_writing, writing_if, writing_some, is_served, finish_ended, finish_refused, finish_open, finish_sent, finishing, sending_if, flushing_one}
use Rattle.ug_sessions.specs.Counting.{counted_if_closed, counted_over}

-- from a life, and counts, to a session and its counts
abbrev Counted : Life → Turn → Session × Turn → Type 0
Counted l t r = r.1 ≡ counted_if_closed l r.0.life t

still_open : (s : Session) (t : Turn) → s.life ≡ life.Open → Counted life.Open t (s, t)
still_open s t o = sym (ap (λ (l : Life). counted_if_closed life.Open l t) o)

-- one call for an open session: where there may be more, it is open, and nothing was counted
record Goes (t : Turn) (r : Bool × (Session × Turn)) : Type 0 where
  counts : Counted life.Open t r.1
  open_still : r.0 ≡ true → r.1.0.life ≡ life.Open
  same : r.0 ≡ true → r.1.1 ≡ t

goes_on : (b : Bool) (s : Session) (t : Turn) (r : Bool × (Session × Turn)) → s.life ≡ life.Open → r ≡ (b, (s, t)) → Goes t r
goes_on b s t r o e = subst (λ (x : Bool × (Session × Turn)). Goes t x) (sym e) (record { counts = still_open s t o; open_still = λ _. o; same = λ _. refl })

goes_closed : (w : Why) (s : Session) (t : Turn) (r : Bool × (Session × Turn)) → r ≡ (false, (closed_for w s, counted_as w t)) → Goes t r
goes_closed w s t r e =
    let no_more : (false ≡ true) → ⊥ = λ f. cc in
    subst (λ (x : Bool × (Session × Turn)). Goes t x) (sym e) (record { counts = refl; open_still = λ f. absurd (no_more f); same = λ f. absurd (no_more f) })

fed_goes : (b : Bool) (s : Session) (t : Turn) (new : List ℕ) (steps : List LinkStep) (r : Bool × (Session × Turn)) → s.life ≡ life.Open → Path (after_feed s t new b) steps r → Goes t r
fed_goes true s t new steps r o h = goes_on true _ t r o h.0
fed_goes false s t new steps r o h = goes_closed why.Memory (emptied s) t r h.2.0

answer_goes : (a : Reading) (s : Session) (t : Turn) (steps : List LinkStep) (r : Bool × (Session × Turn)) → s.life ≡ life.Open → Path (after_read_answer s t a) steps r → Goes t r
answer_goes (Bytes new) s t steps r o h = fed_goes h.0 s t new steps r o h.1
answer_goes NotYet s t steps r o h = goes_on false _ t r o h.0
answer_goes End s t steps r o h = goes_on false _ t r o h.0
answer_goes Failed s t steps r o h = goes_closed why.Failed (unsending s) t r h.2.0

piece_goes : (s : Session) (t : Turn) (steps : List LinkStep) (r : Bool × (Session × Turn)) → s.life ≡ life.Open → Path (reading_piece (s, t)) steps r → Goes t r
unfolding reading_piece
piece_goes s t steps r o h = answer_goes h.0 s t h.1 r o h.3

wrote_goes : (a : LinkWrote) (s : Session) (t : Turn) (steps : List LinkStep) (r : Bool × (Session × Turn)) → s.life ≡ life.Open → Path (after_writing s t a) steps r → Goes t r
wrote_goes (wrote.Sent n) s t steps r o h = goes_on true _ t r o h.0
wrote_goes wrote.NotYet s t steps r o h = goes_on false _ t r o h.0
wrote_goes wrote.Failed s t steps r o h = goes_closed why.Failed (unsending s) t r h.2.0

write_goes : (b : Bool) (s : Session) (t : Turn) (steps : List LinkStep) (r : Bool × (Session × Turn)) → s.life ≡ life.Open → Path (writing_if b s t) steps r → Goes t r
write_goes true s t steps r o h = goes_on false s t r o h.0
write_goes false s t steps r o h = wrote_goes h.0 s t h.1 r o h.3

some_goes : (s : Session) (t : Turn) (steps : List LinkStep) (r : Bool × (Session × Turn)) → s.life ≡ life.Open → Path (writing_some (s, t)) steps r → Goes t r
unfolding writing_some
some_goes s t steps r o h = write_goes (nat_eq (length s.unsent) 0) s t steps r o h

module _ (f : Session × Turn → Talk (Bool × (Session × Turn))) (goes : (s : Session) (t : Turn) (steps : List LinkStep) (r : Bool × (Session × Turn)) → s.life ≡ life.Open → Path (f (s, t)) steps r → Goes t r) where
  upto_counts : (n : ℕ) (s : Session) (t : Turn) (steps : List LinkStep) (r : Session × Turn) → s.life ≡ life.Open → Path (upto f n (s, t)) steps r → Counted life.Open t r
  unfolding upto
  upto_counts zero s t steps r o h = subst (λ (x : Session × Turn). Counted life.Open t x) (sym h.0) (still_open s t o)
  upto_counts (suc n) s t steps r o h =
      let p = path_split (f (s, t)) (λ (q : Bool × (Session × Turn)). cond q.0 (upto f n q.1) (Return q.1)) steps r h in
      let g : Goes t p.value = goes s t p.front p.value o p.first in
      let T : Bool → Type 0 = λ v. (v ≡ true → p.value.1.0.life ≡ life.Open) → (v ≡ true → p.value.1.1 ≡ t) → Path (cond v (upto f n p.value.1) (Return p.value.1)) p.rest r → Counted life.Open t r in
      let k : (v : Bool) → T v = λ v. elim v as T [
        | true ↦ λ a b q. subst (λ (x : Turn). r.1 ≡ counted_if_closed life.Open r.0.life x) (b refl) (upto_counts n p.value.1.0 p.value.1.1 p.rest r (a refl) q)
        | false ↦ λ a b q. subst (λ (x : Session × Turn). Counted life.Open t x) (sym q.0) g.counts
      ] in
      k p.value.0 g.open_still g.same p.second

-- a session whose link was closed since
after_closing : Life → Session → Turn → Session × Turn
after_closing life.Open s t = (s, t)
after_closing (life.Closed w) s t = (s, t)
after_closing (life.Doomed w) s t = (closed_for w s, counted_as w t)

closing_value : (l : Life) (s : Session) (t : Turn) (steps : List LinkStep) (r : Session × Turn) → Path (closing_by l s t) steps r → r ≡ after_closing l s t
unfolding after_closing
closing_value life.Open s t steps r h = h.0
closing_value (life.Closed w) s t steps r h = h.0
closing_value (life.Doomed w) s t steps r h = h.2.0

read_if_counts : (b : Bool) (s : Session) (t : Turn) (steps : List LinkStep) (r : Session × Turn) → s.life ≡ life.Open → Path (reading_if b s t) steps r → Counted life.Open t r
read_if_counts true s t steps r o h = upto_counts reading_piece piece_goes 16 s t steps r o h
read_if_counts false s t steps r o h = subst (λ (x : Session × Turn). Counted life.Open t x) (sym h.0) (still_open s t o)

unread : (ready : List Ready) (s : Session) (l : Life) → s.life ≡ l → is_open_life l ≡ false → is_read ready s ≡ false
unread ready s l e f = ap (λ (m : Life). cond (is_open_life m) (cond s.ended false (cond s.owed true (names_session ready s.id))) false) e ∙ ap (λ (v : Bool). cond v (cond s.ended false (cond s.owed true (names_session ready s.id))) false) f

read_by : (l : Life) (ready : List Ready) (s : Session) (t : Turn) (steps : List LinkStep) (r q : Session × Turn) → s.life ≡ l → q ≡ after_closing l s t → Path (reading_if (is_read ready q.0) q.0 q.1) steps r → Counted l t r
unfolding after_closing
read_by life.Open ready s t steps r q o e h = read_if_counts (is_read ready s) s t steps r o (subst (λ (x : Session × Turn). Path (reading_if (is_read ready x.0) x.0 x.1) steps r) e h)
read_by (life.Closed w) ready s t steps r q o e h =
    let k = subst (λ (x : Session × Turn). Path (reading_if (is_read ready x.0) x.0 x.1) steps r) e h in
    let m : Path (reading_if false s t) steps r = subst (λ (v : Bool). Path (reading_if v s t) steps r) (unread ready s (life.Closed w) o refl) k in
    ap (λ (x : Session × Turn). x.1) m.0
read_by (life.Doomed w) ready s t steps r q o e h =
    let k : Path (reading_if false (closed_for w s) (counted_as w t)) steps r = subst (λ (x : Session × Turn). Path (reading_if (is_read ready x.0) x.0 x.1) steps r) e h in
    subst (λ (x : Session × Turn). Counted (life.Doomed w) t x) (sym k.0) refl

read_counts : (ready : List Ready) (s : Session) (t : Turn) (steps : List LinkStep) (r : Session × Turn) → Path (reading_one ready s t) steps r → Counted s.life t r
unfolding reading_one closing_doomed
read_counts ready s t steps r h =
    let p = path_split (closing_doomed s t) (λ (q : Session × Turn). reading_if (is_read ready q.0) q.0 q.1) steps r h in
    read_by s.life ready s t p.rest r p.value refl (closing_value s.life s t p.front p.value p.first) p.second

-- the end of a flush: an open session is closed and counted, or nothing becomes of it
ended_counts : (b : Bool) (s : Session) (t : Turn) (steps : List LinkStep) (r : Session × Turn) → s.life ≡ life.Open → Path (finish_ended b s t) steps r → Counted life.Open t r
ended_counts true s t steps r o h = subst (λ (x : Session × Turn). Counted life.Open t x) (sym h.2.0) refl
ended_counts false s t steps r o h = subst (λ (x : Session × Turn). Counted life.Open t x) (sym h.0) (still_open s t o)

refused_counts : (b : Bool) (s : Session) (t : Turn) (steps : List LinkStep) (r : Session × Turn) → s.life ≡ life.Open → Path (finish_refused b s t) steps r → Counted life.Open t r
refused_counts true s t steps r o h = subst (λ (x : Session × Turn). Counted life.Open t x) (sym h.2.0) refl
refused_counts false s t steps r o h = ended_counts (is_served s) s t steps r o h

open_counts : (l : Life) (s : Session) (t u : Turn) (steps : List LinkStep) (r : Session × Turn) → s.life ≡ l → t ≡ counted_if_closed life.Open l u → Path (finish_open (is_open_life l) s t) steps r → Counted life.Open u r
open_counts life.Open s t u steps r o e h = subst (λ (x : Turn). r.1 ≡ counted_if_closed life.Open r.0.life x) e (refused_counts s.refused s t steps r o h)
open_counts (life.Doomed w) s t u steps r o e h = subst (λ (x : Session × Turn). Counted life.Open u x) (sym h.0) (e ∙ sym (ap (λ (l : Life). counted_if_closed life.Open l u) o))
open_counts (life.Closed w) s t u steps r o e h = subst (λ (x : Session × Turn). Counted life.Open u x) (sym h.0) (e ∙ sym (ap (λ (l : Life). counted_if_closed life.Open l u) o))

sent_counts : (b : Bool) (s : Session) (t u : Turn) (steps : List LinkStep) (r : Session × Turn) → t ≡ counted_if_closed life.Open s.life u → Path (finish_sent b s t) steps r → Counted life.Open u r
sent_counts true s t u steps r e h = open_counts s.life s t u steps r refl e h
sent_counts false s t u steps r e h = subst (λ (x : Session × Turn). Counted life.Open u x) (sym h.0) e

finish_counts : (s : Session) (t u : Turn) (steps : List LinkStep) (r : Session × Turn) → t ≡ counted_if_closed life.Open s.life u → Path (finishing s t) steps r → Counted life.Open u r
unfolding finishing
finish_counts s t u steps r e h = sent_counts (nat_eq (length s.unsent) 0) s t u steps r e h

send_open : (s : Session) (t : Turn) (steps : List LinkStep) (r : Session × Turn) → s.life ≡ life.Open → Path (sending_if true s t) steps r → Counted life.Open t r
send_open s t steps r o h =
    let p = path_split (upto writing_some (length s.unsent) (s, t)) (λ (q : Session × Turn). finishing q.0 q.1) steps r h in
    finish_counts p.value.0 p.value.1 t p.rest r (upto_counts writing_some some_goes (length s.unsent) s t p.front p.value o p.first) p.second

send_by : (l : Life) (s : Session) (t : Turn) (steps : List LinkStep) (r q : Session × Turn) → s.life ≡ l → q ≡ after_closing l s t → Path (sending_if (is_open_session q.0) q.0 q.1) steps r → Counted l t r
unfolding after_closing
send_by life.Open s t steps r q o e h =
    let k = subst (λ (x : Session × Turn). Path (sending_if (is_open_session x.0) x.0 x.1) steps r) e h in
    send_open s t steps r o (subst (λ (l : Life). Path (sending_if (is_open_life l) s t) steps r) o k)
send_by (life.Closed w) s t steps r q o e h =
    let k = subst (λ (x : Session × Turn). Path (sending_if (is_open_session x.0) x.0 x.1) steps r) e h in
    let m : Path (sending_if false s t) steps r = subst (λ (l : Life). Path (sending_if (is_open_life l) s t) steps r) o k in
    ap (λ (x : Session × Turn). x.1) m.0
send_by (life.Doomed w) s t steps r q o e h =
    let k : Path (sending_if false (closed_for w s) (counted_as w t)) steps r = subst (λ (x : Session × Turn). Path (sending_if (is_open_session x.0) x.0 x.1) steps r) e h in
    subst (λ (x : Session × Turn). Counted (life.Doomed w) t x) (sym k.0) refl

flush_counts : (s : Session) (t : Turn) (steps : List LinkStep) (r : Session × Turn) → Path (flushing_one s t) steps r → Counted s.life t r
unfolding flushing_one closing_doomed
flush_counts s t steps r h =
    let p = path_split (closing_doomed s t) (λ (q : Session × Turn). sending_if (is_open_session q.0) q.0 q.1) steps r h in
    send_by s.life s t p.rest r p.value refl (closing_value s.life s t p.front p.value p.first) p.second

module _ (f : Session → Turn → Talk (Session × Turn)) (counts : (s : Session) (t : Turn) (steps : List LinkStep) (r : Session × Turn) → Path (f s t) steps r → Counted s.life t r) where
  walk_counts : (done ss : List Session) (t : Turn) (steps : List LinkStep) (r : List Session × Turn) → Path (walk f done ss t) steps r → (ts : List Session) × (r.0 ≡ done ++ ts) × (r.1 ≡ counted_over ss ts t)
  walk_counts done [] t steps r h = ([], ap (λ (x : List Session × Turn). x.0) h.0 ∙ sym (append-nil done), ap (λ (x : List Session × Turn). x.1) h.0)
  walk_counts done (s ∷ ss) t steps r h =
      let p = path_split (f s t) (λ (q : Session × Turn). walk f (done ++ q.0 ∷ []) ss q.1) steps r h in
      let k = walk_counts (done ++ p.value.0 ∷ []) ss p.value.1 p.rest r p.second in
      (p.value.0 ∷ k.0, k.1 ∙ append_assoc done (p.value.0 ∷ []) k.0, k.2 ∙ ap (λ (x : Turn). counted_over ss k.0 x) (counts s t p.front p.value p.first))

  counts_walk : (ss : List Session) (t : Turn) (steps : List LinkStep) (r : List Session × Turn) → Path (walk f [] ss t) steps r → r.1 ≡ counted_over ss r.0 t
  counts_walk ss t steps r h = let k = walk_counts [] ss t steps r h in k.2 ∙ sym (ap (λ (l : List Session). counted_over ss l t) k.1)

pub reading_counts : (ready : List Ready) (ss : List Session) (t : Turn) (steps : List LinkStep) (r : List Session × Turn) → Path (walk (reading_one ready) [] ss t) steps r → r.1 ≡ counted_over ss r.0 t
reading_counts ready = counts_walk (reading_one ready) (read_counts ready)

pub flushing_counts : (ss : List Session) (t : Turn) (steps : List LinkStep) (r : List Session × Turn) → Path (walk flushing_one [] ss t) steps r → r.1 ≡ counted_over ss r.0 t
flushing_counts = counts_walk flushing_one flush_counts
