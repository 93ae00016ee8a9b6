-- What is sent stood in front of what was unsent.
use Rattle.std.proofs.Common.{◌≡◌, ℕ, zero, suc, Bool, true, false, cond, nat_eq, List, [], ◌∷◌, ◌++◌, length, take, drop, ◌⊎◌, inl, inr, refl, sym, ap, ◌∙◌, subst, append_assoc, arith}
use Rattle.std.proofs.lemmas.List.{append-nil, take-append-drop}
use Rattle.std.proofs.lemmas.Bool.Decides.{nat_tests}
use Rattle.ug_links.specs.declared.waiter.LinkId.{LinkId}
use Rattle.ug_links.specs.declared.links.LinkWrote.{LinkWrote}
use Rattle.ug_links.specs.declared.links.LinkWrote.TheVariants as wrote
use Rattle.ug_links.specs.declared.step.LinkStep.{LinkStep}
use Rattle.ug_links.specs.declared.step.LinkStep.TheVariants.{Listened, AcceptedAt, ReadFrom, WroteTo, Closed}
use Rattle.ug_links.specs.Talk.{Return, Close, Path, upto}
use Rattle.ug_links.proofs.Paths.{path_split}
use Rattle.ug_sessions.specs.declared.session.Session.{Session}
use Rattle.ug_sessions.specs.declared.session.Turn.{Turn}
use Rattle.ug_sessions.specs.declared.session.Why.{Why}
use Rattle.ug_sessions.specs.declared.session.Why.TheVariants as why
use Rattle.ug_sessions.specs.declared.session.Life.{Life}
use Rattle.ug_sessions.specs.declared.session.Life.TheVariants as life
use Rattle.ug_sessions.specs.Sessions.{is_open_life, is_open_session}
use Rattle.ug_sessions.specs.Sessions.{closed_for, unsending}
use Rattle.ug_sessions.specs.Reading.{closing_doomed, closing_by}
use Rattle.ug_sessions.specs.Sending.{writing_some, writing_if, after_writing, finishing, finish_sent, finish_open, finish_refused, finish_ended, sending_if, flushing_one}
use Rattle.ug_sessions.specs.Due.{Dues, Accounts, AccountsBy, IsOpenAccount, IsFront, sent_to}

pub own : (id : LinkId) → nat_eq id.0 id.0 ≡ true
own id = grind (arith, nat_tests)

pub sent-append : (id : LinkId) (a b : List LinkStep) → sent_to id (a ++ b) ≡ sent_to id a ++ sent_to id b
sent-append id [] b = refl
sent-append id (WroteTo other bytes (wrote.Sent n) ∷ a) b =
    let T : Bool → Type 0 = λ v. cond v (take n bytes ++ sent_to id (a ++ b)) (sent_to id (a ++ b)) ≡ cond v (take n bytes ++ sent_to id a) (sent_to id a) ++ sent_to id b in
    let f : (v : Bool) → T v = λ v. elim v as T [
      | true ↦ ap (λ (l : List ℕ). take n bytes ++ l) (sent-append id a b) ∙ sym (append_assoc (take n bytes) (sent_to id a) (sent_to id b))
      | false ↦ sent-append id a b
    ] in
    f (nat_eq other.0 id.0)
sent-append id (WroteTo other bytes wrote.NotYet ∷ a) b = sent-append id a b
sent-append id (WroteTo other bytes wrote.Failed ∷ a) b = sent-append id a b
sent-append id (Listened principal answer ∷ a) b = sent-append id a b
sent-append id (AcceptedAt listener answer ∷ a) b = sent-append id a b
sent-append id (ReadFrom other room answer ∷ a) b = sent-append id a b
sent-append id (Closed other ∷ a) b = sent-append id a b

-- its link failed
abbrev pub cut : Session → Session
cut s = closed_for why.Failed (unsending s)

abbrev pub left : Session → List ℕ → Session
left s rest = record s { unsent = rest }

-- a front of what was unsent was sent, and the rest is left; or the link failed
pub record Sends (s : Session) (steps : List LinkStep) (r : Session) : Type 0 where
  pub rest : List ℕ
  pub whole : sent_to s.id steps ++ rest ≡ s.unsent
  pub is : (r ≡ left s rest) ⊎ (r ≡ cut s)

nothing_sent : (s : Session) (steps : List LinkStep) (r : Session) → sent_to s.id steps ≡ [] → r ≡ s → Sends s steps r
nothing_sent s steps r e f = record { rest = s.unsent; whole = ap (λ (l : List ℕ). l ++ s.unsent) e; is = inl f }

abbrev answered : Session → Turn → LinkWrote → List LinkStep → Bool × (Session × Turn) → Type 0
answered s t a rest r = Path (after_writing s t a) rest r → Sends s (WroteTo s.id s.unsent a ∷ rest) r.1.0

one_answer : (s : Session) (t : Turn) (a : LinkWrote) (rest : List LinkStep) (r : Bool × (Session × Turn)) → answered s t a rest r
one_answer s t (wrote.Sent n) rest r h =
    let sent : sent_to s.id (WroteTo s.id s.unsent (wrote.Sent n) ∷ rest) ≡ take n s.unsent = ap (λ (l : List LinkStep). sent_to s.id (WroteTo s.id s.unsent (wrote.Sent n) ∷ l)) h.1 ∙ ap (λ (v : Bool). cond v (take n s.unsent ++ []) []) (own s.id) ∙ append-nil (take n s.unsent) in
    record {
      rest = drop n s.unsent;
      whole = ap (λ (l : List ℕ). l ++ drop n s.unsent) sent ∙ take-append-drop n s.unsent;
      is = inl (ap (λ (x : Bool × (Session × Turn)). x.1.0) h.0);
    }
one_answer s t wrote.NotYet rest r h = nothing_sent s (WroteTo s.id s.unsent wrote.NotYet ∷ rest) r.1.0 (ap (λ (l : List LinkStep). sent_to s.id l) h.1) (ap (λ (x : Bool × (Session × Turn)). x.1.0) h.0)
one_answer s t wrote.Failed rest r h =
    record {
      rest = s.unsent;
      whole = ap (λ (l : List LinkStep). sent_to s.id l ++ s.unsent) h.1 ∙ ap (λ (l : List LinkStep). sent_to s.id l ++ s.unsent) h.2.1;
      is = inr (ap (λ (x : Bool × (Session × Turn)). x.1.0) h.2.0);
    }

one_if : (b : Bool) (s : Session) (t : Turn) (steps : List LinkStep) (r : Bool × (Session × Turn)) → Path (writing_if b s t) steps r → Sends s steps r.1.0
one_if true s t steps r h = nothing_sent s steps r.1.0 (ap (λ (l : List LinkStep). sent_to s.id l) h.1) (ap (λ (x : Bool × (Session × Turn)). x.1.0) h.0)
one_if false s t steps r h = subst (λ (l : List LinkStep). Sends s l r.1.0) (sym h.2) (one_answer s t h.0 h.1 r h.3)

pub one_write : (s : Session) (t : Turn) (steps : List LinkStep) (r : Bool × (Session × Turn)) → Path (writing_some (s, t)) steps r → Sends s steps r.1.0
unfolding writing_some
one_write s t steps r h = one_if (nat_eq (length s.unsent) 0) s t steps r h

no_more : (x y : List ℕ) → x ++ y ≡ [] → (x ≡ []) × (y ≡ [])
no_more [] y e = (refl, e)
no_more (b ∷ x) y e = let none : ⊥ = cc in absurd none

sends_by : (s : Session) (a b : List LinkStep) (m r : Session) (rest : List ℕ) → sent_to s.id a ++ rest ≡ s.unsent → (m ≡ left s rest) ⊎ (m ≡ cut s) → Sends m b r → Sends s (a ++ b) r
sends_by s a b m r rest e (inl f) k =
    let h : Sends (left s rest) b r = subst (λ (x : Session). Sends x b r) f k in
    record {
      rest = h.rest;
      whole = ap (λ (l : List ℕ). l ++ h.rest) (sent-append s.id a b) ∙ append_assoc (sent_to s.id a) (sent_to s.id b) h.rest ∙ ap (λ (l : List ℕ). sent_to s.id a ++ l) h.whole ∙ e;
      is = h.is;
    }
sends_by s a b m r rest e (inr f) k =
    let h : Sends (cut s) b r = subst (λ (x : Session). Sends x b r) f k in
    let none = no_more (sent_to s.id b) h.rest h.whole in
    let end : (r ≡ left (cut s) h.rest) ⊎ (r ≡ cut (cut s)) → r ≡ cut s = λ w. elim w [ inl p ↦ p ∙ ap (λ (l : List ℕ). left (cut s) l) none.1 | inr p ↦ p ] in
    record {
      rest = rest;
      whole = ap (λ (l : List ℕ). l ++ rest) (sent-append s.id a b ∙ ap (λ (l : List ℕ). sent_to s.id a ++ l) none.0 ∙ append-nil (sent_to s.id a)) ∙ e;
      is = inr (end h.is);
    }

sends_then : (s : Session) (a b : List LinkStep) (m r : Session) → Sends s a m → Sends m b r → Sends s (a ++ b) r
sends_then s a b m r h k = sends_by s a b m r h.rest h.whole h.is k

pub sends_upto : (n : ℕ) (s : Session) (t : Turn) (steps : List LinkStep) (r : Session × Turn) → Path (upto writing_some n (s, t)) steps r → Sends s steps r.0
unfolding upto
sends_upto zero s t steps r h = nothing_sent s steps r.0 (ap (λ (l : List LinkStep). sent_to s.id l) h.1) (ap (λ (x : Session × Turn). x.0) h.0)
sends_upto (suc n) s t steps r h =
    let k = path_split (writing_some (s, t)) (λ (q : Bool × (Session × Turn)). cond q.0 (upto writing_some n q.1) (Return q.1)) steps r h in
    let first : Sends s k.front k.value.1.0 = one_write s t k.front k.value k.first in
    let T : Bool → Type 0 = λ v. Path (cond v (upto writing_some n k.value.1) (Return k.value.1)) k.rest r → Sends k.value.1.0 k.rest r.0 in
    let f : (v : Bool) → T v = λ v. elim v as T [
      | true ↦ λ p. sends_upto n k.value.1.0 k.value.1.1 k.rest r p
      | false ↦ λ p. nothing_sent k.value.1.0 k.rest r.0 (ap (λ (l : List LinkStep). sent_to k.value.1.0.id l) p.1) (ap (λ (x : Session × Turn). x.0) p.0)
    ] in
    subst (λ (l : List LinkStep). Sends s l r.0) (sym k.whole) (sends_then s k.front k.rest k.value.1.0 r.0 first (f k.value.0 k.second))

-- nothing is sent, and the session is as it was or closed
pub record Rests (s : Session) (steps : List LinkStep) (r : Session) : Type 0 where
  pub none : (id : LinkId) → sent_to id steps ≡ []
  pub is : (r ≡ s) ⊎ ((w : Why) × (r ≡ closed_for w s))

pub rests : (s : Session) (t : Turn) (steps : List LinkStep) (r : Session × Turn) → Path (Return (s, t)) steps r → Rests s steps r.0
rests s t steps r h = record { none = λ id. ap (λ (l : List LinkStep). sent_to id l) h.1; is = inl (ap (λ (x : Session × Turn). x.0) h.0) }

closes : (w : Why) (id : LinkId) (s : Session) (t : Turn) (steps : List LinkStep) (r : Session × Turn) → Path (Close id (Return (closed_for w s, t))) steps r → Rests s steps r.0
closes w id s t steps r h = record { none = λ other. ap (λ (l : List LinkStep). sent_to other l) h.1 ∙ ap (λ (l : List LinkStep). sent_to other l) h.2.1; is = inr (w, ap (λ (x : Session × Turn). x.0) h.2.0) }

pub doomed_rests : (l : Life) (s : Session) (t : Turn) (steps : List LinkStep) (r : Session × Turn) → Path (closing_by l s t) steps r → Rests s steps r.0
doomed_rests life.Open s t steps r h = rests s t steps r h
doomed_rests (life.Closed w) s t steps r h = rests s t steps r h
doomed_rests (life.Doomed w) s t steps r h = closes w s.id s _ steps r h

ended_rests : (b : Bool) (s : Session) (t : Turn) (steps : List LinkStep) (r : Session × Turn) → Path (finish_ended b s t) steps r → Rests s steps r.0
ended_rests true s t steps r h = closes why.Ended s.id s _ steps r h
ended_rests false s t steps r h = rests s t steps r h

refused_rests : (b : Bool) (s : Session) (t : Turn) (steps : List LinkStep) (r : Session × Turn) → Path (finish_refused b s t) steps r → Rests s steps r.0
refused_rests true s t steps r h = closes why.TooLong s.id s _ steps r h
refused_rests false s t steps r h = ended_rests _ s t steps r h

open_rests : (b : Bool) (s : Session) (t : Turn) (steps : List LinkStep) (r : Session × Turn) → Path (finish_open b s t) steps r → Rests s steps r.0
open_rests true s t steps r h = refused_rests s.refused s t steps r h
open_rests false s t steps r h = rests s t steps r h

sent_rests : (b : Bool) (s : Session) (t : Turn) (steps : List LinkStep) (r : Session × Turn) → Path (finish_sent b s t) steps r → Rests s steps r.0
sent_rests true s t steps r h = open_rests (is_open_session s) s t steps r h
sent_rests false s t steps r h = rests s t steps r h

pub finish_rests : (s : Session) (t : Turn) (steps : List LinkStep) (r : Session × Turn) → Path (finishing s t) steps r → Rests s steps r.0
unfolding finishing
finish_rests s t steps r h = sent_rests (nat_eq (length s.unsent) 0) s t steps r h

pub any_front : (l : Life) (a : Dues) (sent : List ℕ) (s : Session) → AccountsBy l a sent s → IsFront sent a.text
any_front life.Open a sent s h = (s.unsent, sym h.text)
any_front (life.Doomed w) a sent s h = h
any_front (life.Closed w) a sent s h = h

pub kept_by_rest : (a : Dues) (sent : List ℕ) (s r : Session) → (r ≡ s) ⊎ ((w : Why) × (r ≡ closed_for w s)) → Accounts a sent s → Accounts a sent r
kept_by_rest a sent s r (inl p) h = subst (λ (x : Session). Accounts a sent x) (sym p) h
kept_by_rest a sent s r (inr p) h = subst (λ (x : Session). Accounts a sent x) (sym p.1) (any_front s.life a sent s h)

pub kept_resting : (a : Dues) (sent : List ℕ) (s : Session) (id : LinkId) (steps : List LinkStep) (r : Session) → Rests s steps r → Accounts a sent s → Accounts a (sent ++ sent_to id steps) r
kept_resting a sent s id steps r k h =
    let same : sent ++ sent_to id steps ≡ sent = ap (λ (l : List ℕ). sent ++ l) (k.none id) ∙ append-nil sent in
    subst (λ (l : List ℕ). Accounts a l r) (sym same) (kept_by_rest a sent s r k.is h)

sent_by : (a : Dues) (sent : List ℕ) (s : Session) (steps : List LinkStep) (r : Session) (rest : List ℕ) → s.life ≡ life.Open → sent_to s.id steps ++ rest ≡ s.unsent → (r ≡ left s rest) ⊎ (r ≡ cut s) → IsOpenAccount a sent s → Accounts a (sent ++ sent_to s.id steps) r
sent_by a sent s steps r rest o e (inl p) h =
    let now : IsOpenAccount a (sent ++ sent_to s.id steps) (left s rest) = record {
      text = append_assoc sent (sent_to s.id steps) rest ∙ ap (λ (l : List ℕ). sent ++ l) e ∙ h.text;
      watches = h.watches;
      over = h.over;
    } in
    subst (λ (x : Session). Accounts a (sent ++ sent_to s.id steps) x) (sym p) (subst (λ (l : Life). AccountsBy l a (sent ++ sent_to s.id steps) (left s rest)) (sym o) now)
sent_by a sent s steps r rest o e (inr p) h =
    let front : IsFront (sent ++ sent_to s.id steps) a.text = (rest, sym (append_assoc sent (sent_to s.id steps) rest ∙ ap (λ (l : List ℕ). sent ++ l) e ∙ h.text)) in
    subst (λ (x : Session). Accounts a (sent ++ sent_to s.id steps) x) (sym p) front

sending_open : (a : Dues) (sent : List ℕ) (s : Session) (t : Turn) (steps : List LinkStep) (r : Session × Turn) → s.life ≡ life.Open → Path (sending_if true s t) steps r → Accounts a sent s → Accounts a (sent ++ sent_to s.id steps) r.0
sending_open a sent s t steps r o h k =
    let p = path_split (upto writing_some (length s.unsent) (s, t)) (λ (q : Session × Turn). finishing q.0 q.1) steps r h in
    let w : Sends s p.front p.value.0 = sends_upto (length s.unsent) s t p.front p.value p.first in
    let e : Rests p.value.0 p.rest r.0 = finish_rests p.value.0 p.value.1 p.rest r p.second in
    let now : Accounts a (sent ++ sent_to s.id p.front) p.value.0 = sent_by a sent s p.front p.value.0 w.rest o w.whole w.is (subst (λ (l : Life). AccountsBy l a sent s) o k) in
    let end : Accounts a ((sent ++ sent_to s.id p.front) ++ sent_to s.id p.rest) r.0 = kept_resting a (sent ++ sent_to s.id p.front) p.value.0 s.id p.rest r.0 e now in
    let same : (sent ++ sent_to s.id p.front) ++ sent_to s.id p.rest ≡ sent ++ sent_to s.id steps = append_assoc sent (sent_to s.id p.front) (sent_to s.id p.rest) ∙ ap (λ (l : List ℕ). sent ++ l) (sym (ap (λ (l : List LinkStep). sent_to s.id l) p.whole ∙ sent-append s.id p.front p.rest)) in
    subst (λ (l : List ℕ). Accounts a l r.0) same end

sending_by : (l : Life) (a : Dues) (sent : List ℕ) (s : Session) (t : Turn) (steps : List LinkStep) (r : Session × Turn) → s.life ≡ l → Path (sending_if (is_open_life l) s t) steps r → Accounts a sent s → Accounts a (sent ++ sent_to s.id steps) r.0
sending_by life.Open a sent s t steps r o h k = sending_open a sent s t steps r o h k
sending_by (life.Doomed w) a sent s t steps r o h k = kept_resting a sent s s.id steps r.0 (rests s t steps r h) k
sending_by (life.Closed w) a sent s t steps r o h k = kept_resting a sent s s.id steps r.0 (rests s t steps r h) k

rest_id : (s r : Session) → (r ≡ s) ⊎ ((w : Why) × (r ≡ closed_for w s)) → r.id ≡ s.id
rest_id s r (inl p) = ap (λ (x : Session). x.id) p
rest_id s r (inr p) = ap (λ (x : Session). x.id) p.1

pub flush_keeps : (a : Dues) (sent : List ℕ) (s : Session) (t : Turn) (steps : List LinkStep) (r : Session × Turn) → Path (flushing_one s t) steps r → Accounts a sent s → Accounts a (sent ++ sent_to s.id steps) r.0
unfolding flushing_one closing_doomed
flush_keeps a sent s t steps r h k =
    let p = path_split (closing_doomed s t) (λ (q : Session × Turn). sending_if (is_open_session q.0) q.0 q.1) steps r h in
    let e : Rests s p.front p.value.0 = doomed_rests s.life s t p.front p.value p.first in
    let now : Accounts a (sent ++ sent_to s.id p.front) p.value.0 = kept_resting a sent s s.id p.front p.value.0 e k in
    let id : p.value.0.id ≡ s.id = rest_id s p.value.0 e.is in
    let end : Accounts a ((sent ++ sent_to s.id p.front) ++ sent_to p.value.0.id p.rest) r.0 = sending_by p.value.0.life a (sent ++ sent_to s.id p.front) p.value.0 p.value.1 p.rest r refl p.second now in
    let same : (sent ++ sent_to s.id p.front) ++ sent_to p.value.0.id p.rest ≡ sent ++ sent_to s.id steps = ap (λ (i : LinkId). (sent ++ sent_to s.id p.front) ++ sent_to i p.rest) id ∙ append_assoc sent (sent_to s.id p.front) (sent_to s.id p.rest) ∙ ap (λ (l : List ℕ). sent ++ l) (sym (ap (λ (l : List LinkStep). sent_to s.id l) p.whole ∙ sent-append s.id p.front p.rest)) in
    subst (λ (l : List ℕ). Accounts a l r.0) same end
