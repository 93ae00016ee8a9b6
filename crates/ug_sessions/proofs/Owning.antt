-- A session's writes are its own, and it stays who it is.
use Rattle.std.proofs.Common.{◌≡◌, ℕ, zero, suc, Bool, true, false, cond, nat_eq, List, [], ◌∷◌, ◌++◌, length, take, ◌⊎◌, inl, inr, sym, ap, ◌∙◌, subst}
use Rattle.ug_links.specs.declared.waiter.LinkId.{LinkId}
use Rattle.ug_types.specs.Principals.{Named}
use Rattle.ug_links.specs.declared.links.LinkWrote.{LinkWrote}
use Rattle.ug_links.specs.declared.links.LinkWrote.TheVariants as wrote
use Rattle.ug_links.specs.declared.step.LinkStep.{LinkStep}
use Rattle.ug_links.specs.declared.step.LinkStep.TheVariants.{WroteTo}
use Rattle.ug_links.specs.Talk.{Return, Path, upto}
use Rattle.ug_links.proofs.Paths.{path_split}
use Rattle.ug_sessions.specs.declared.session.Session.{Session}
use Rattle.ug_sessions.specs.declared.session.Turn.{Turn}
use Rattle.ug_sessions.specs.declared.session.Why.{Why}
use Rattle.ug_sessions.specs.Sessions.{is_open_session, closed_for}
use Rattle.ug_sessions.specs.Reading.{closing_doomed}
use Rattle.ug_sessions.specs.Sending.{writing_some, writing_if, after_writing, finishing, sending_if, flushing_one}
use Rattle.ug_sessions.specs.Due.{sent_to}
use Rattle.ug_sessions.proofs.Sends.{sent-append, left, cut, Sends, Rests, sends_upto, one_write, doomed_rests, finish_rests, rests}

-- who a session is
pub record Who : Type 0 where
  pub id : LinkId
  pub principal : Named

abbrev pub who : Session → Who
who s = record { id = s.id; principal = s.principal }

who_sends : (s : Session) (rest : List ℕ) (r : Session) → (r ≡ left s rest) ⊎ (r ≡ cut s) → who r ≡ who s
who_sends s rest r (inl p) = ap who p
who_sends s rest r (inr p) = ap who p

pub who_rests : (s r : Session) → (r ≡ s) ⊎ ((w : Why) × (r ≡ closed_for w s)) → who r ≡ who s
who_rests s r (inl p) = ap who p
who_rests s r (inr p) = ap who p.1

-- nothing is sent to others
abbrev pub OnlyTo : LinkId → List LinkStep → Type 0
OnlyTo id steps = (other : LinkId) → nat_eq id.0 other.0 ≡ false → sent_to other steps ≡ []

only_more : (id : LinkId) (a b : List LinkStep) → OnlyTo id a → OnlyTo id b → OnlyTo id (a ++ b)
only_more id a b h k other e = sent-append other a b ∙ ap (λ (l : List ℕ). l ++ sent_to other b) (h other e) ∙ k other e

only_none : (id : LinkId) (steps : List LinkStep) → steps ≡ [] → OnlyTo id steps
only_none id steps e other k = ap (λ (l : List LinkStep). sent_to other l) e

only_answer : (s : Session) (t : Turn) (a : LinkWrote) (rest : List LinkStep) (r : Bool × (Session × Turn)) → Path (after_writing s t a) rest r → OnlyTo s.id (WroteTo s.id s.unsent a ∷ rest)
only_answer s t (wrote.Sent n) rest r h other e = ap (λ (v : Bool). cond v (take n s.unsent ++ sent_to other rest) (sent_to other rest)) e ∙ ap (λ (l : List LinkStep). sent_to other l) h.1
only_answer s t wrote.NotYet rest r h other e = ap (λ (l : List LinkStep). sent_to other l) h.1
only_answer s t wrote.Failed rest r h other e = ap (λ (l : List LinkStep). sent_to other l) h.1 ∙ ap (λ (l : List LinkStep). sent_to other l) h.2.1

only_if : (b : Bool) (s : Session) (t : Turn) (steps : List LinkStep) (r : Bool × (Session × Turn)) → Path (writing_if b s t) steps r → OnlyTo s.id steps
only_if true s t steps r h = only_none s.id steps h.1
only_if false s t steps r h = subst (λ (l : List LinkStep). OnlyTo s.id l) (sym h.2) (only_answer s t h.0 h.1 r h.3)

only_write : (s : Session) (t : Turn) (steps : List LinkStep) (r : Bool × (Session × Turn)) → Path (writing_some (s, t)) steps r → OnlyTo s.id steps
unfolding writing_some
only_write s t steps r h = only_if (nat_eq (length s.unsent) 0) s t steps r h

only_upto : (n : ℕ) (s : Session) (t : Turn) (steps : List LinkStep) (r : Session × Turn) → Path (upto writing_some n (s, t)) steps r → OnlyTo s.id steps
unfolding upto
only_upto zero s t steps r h = only_none s.id steps h.1
only_upto (suc n) s t steps r h =
    let k = path_split (writing_some (s, t)) (λ (q : Bool × (Session × Turn)). cond q.0 (upto writing_some n q.1) (Return q.1)) steps r h in
    let w : Sends s k.front k.value.1.0 = one_write s t k.front k.value k.first in
    let id : k.value.1.0.id ≡ s.id = ap (λ (x : Who). x.id) (who_sends s w.rest k.value.1.0 w.is) in
    let T : Bool → Type 0 = λ v. Path (cond v (upto writing_some n k.value.1) (Return k.value.1)) k.rest r → OnlyTo k.value.1.0.id k.rest in
    let f : (v : Bool) → T v = λ v. elim v as T [
      | true ↦ λ p. only_upto n k.value.1.0 k.value.1.1 k.rest r p
      | false ↦ λ p. only_none k.value.1.0.id k.rest p.1
    ] in
    subst (λ (l : List LinkStep). OnlyTo s.id l) (sym k.whole) (only_more s.id k.front k.rest (only_write s t k.front k.value k.first) (subst (λ (i : LinkId). OnlyTo i k.rest) id (f k.value.0 k.second)))

only_rests : (id : LinkId) (s : Session) (steps : List LinkStep) (r : Session) → Rests s steps r → OnlyTo id steps
only_rests id s steps r h other e = h.none other

-- what a flush of one session does: its writes are its own, and it stays who it is
pub record Owns (s : Session) (steps : List LinkStep) (r : Session) : Type 0 where
  pub only : OnlyTo s.id steps
  pub same : who r ≡ who s

sending_owns : (b : Bool) (s : Session) (t : Turn) (steps : List LinkStep) (r : Session × Turn) → Path (sending_if b s t) steps r → Owns s steps r.0
sending_owns true s t steps r h =
    let p = path_split (upto writing_some (length s.unsent) (s, t)) (λ (q : Session × Turn). finishing q.0 q.1) steps r h in
    let w : Sends s p.front p.value.0 = sends_upto (length s.unsent) s t p.front p.value p.first in
    let e : Rests p.value.0 p.rest r.0 = finish_rests p.value.0 p.value.1 p.rest r p.second in
    record {
      only = subst (λ (l : List LinkStep). OnlyTo s.id l) (sym p.whole) (only_more s.id p.front p.rest (only_upto (length s.unsent) s t p.front p.value p.first) (only_rests s.id p.value.0 p.rest r.0 e));
      same = who_rests p.value.0 r.0 e.is ∙ who_sends s w.rest p.value.0 w.is;
    }
sending_owns false s t steps r h = let e : Rests s steps r.0 = rests s t steps r h in record { only = only_rests s.id s steps r.0 e; same = who_rests s r.0 e.is }

pub flush_owns : (s : Session) (t : Turn) (steps : List LinkStep) (r : Session × Turn) → Path (flushing_one s t) steps r → Owns s steps r.0
unfolding flushing_one closing_doomed
flush_owns s t steps r h =
    let p = path_split (closing_doomed s t) (λ (q : Session × Turn). sending_if (is_open_session q.0) q.0 q.1) steps r h in
    let e : Rests s p.front p.value.0 = doomed_rests s.life s t p.front p.value p.first in
    let k : Owns p.value.0 p.rest r.0 = sending_owns (is_open_session p.value.0) p.value.0 p.value.1 p.rest r p.second in
    let id : p.value.0.id ≡ s.id = ap (λ (x : Who). x.id) (who_rests s p.value.0 e.is) in
    record {
      only = subst (λ (l : List LinkStep). OnlyTo s.id l) (sym p.whole) (only_more s.id p.front p.rest (only_rests s.id s p.front p.value.0 e) (subst (λ (i : LinkId). OnlyTo i p.rest) id k.only));
      same = k.same ∙ who_rests s p.value.0 e.is;
    }
