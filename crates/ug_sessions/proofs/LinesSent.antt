-- A flush leaves a session's lines.
use Rattle.std.proofs.Common.{◌≡◌, ℕ, zero, suc, Bool, true, false, cond, nat_eq, List, [], ◌++◌, length, ◌⊎◌, inl, inr, refl, sym, ap, ◌∙◌, subst}
use Rattle.ug_links.specs.declared.waiter.LinkId.{LinkId}
use Rattle.ug_links.specs.declared.links.LinkWrote.{LinkWrote}
use Rattle.ug_links.specs.declared.links.LinkWrote.TheVariants as wrote
use Rattle.ug_links.specs.declared.step.LinkStep.{LinkStep}
use Rattle.ug_links.specs.Talk.{Return, Path, upto}
use Rattle.ug_links.proofs.Paths.{path_split}
use Rattle.ug_sessions.specs.declared.session.Session.{Session}
use Rattle.ug_sessions.specs.declared.session.Turn.{Turn}
use Rattle.ug_sessions.specs.declared.session.Life.{Life}
use Rattle.ug_sessions.specs.declared.session.Life.TheVariants as life
use Rattle.ug_sessions.specs.Sessions.{is_open_life, is_open_session}
use Rattle.ug_sessions.specs.Reading.{closing_doomed}
use Rattle.ug_sessions.specs.Sending.{writing_some, writing_if, after_writing, is_served, finishing, finish_sent, finish_open, finish_refused, finish_ended, sending_if, flushing_one}
use Rattle.ug_sessions.specs.Handed.{bytes_read, AreAllLines, AreLinesBy, HoldsLines}
use Rattle.ug_sessions.proofs.Sends.{Sends, left, cut, sends_upto}
use Rattle.ug_sessions.proofs.LinesKept.{of_same}
use Rattle.ug_sessions.proofs.LinesRead.{read-append, closed_reads, closing_lines, doomed_reads}

-- nothing is read
abbrev pub ReadsNone : List LinkStep → Type 0
ReadsNone steps = (id : LinkId) → bytes_read id steps ≡ []

none_more : (a b steps : List LinkStep) → steps ≡ a ++ b → ReadsNone a → ReadsNone b → ReadsNone steps
none_more a b steps e h k id = ap (λ (l : List LinkStep). bytes_read id l) e ∙ read-append id a b ∙ ap (λ (l : List ℕ). l ++ bytes_read id b) (h id) ∙ k id

none_at : (steps : List LinkStep) → steps ≡ [] → ReadsNone steps
none_at steps e id = ap (λ (l : List LinkStep). bytes_read id l) e

written_reads : (s : Session) (t : Turn) (a : LinkWrote) (rest : List LinkStep) (r : Bool × (Session × Turn)) → Path (after_writing s t a) rest r → ReadsNone rest
written_reads s t (wrote.Sent n) rest r h id = none_at rest h.1 id
written_reads s t wrote.NotYet rest r h id = none_at rest h.1 id
written_reads s t wrote.Failed rest r h id = closed_reads id s.id rest h.0 h.1 h.2.1

writing_reads : (b : Bool) (s : Session) (t : Turn) (steps : List LinkStep) (r : Bool × (Session × Turn)) → Path (writing_if b s t) steps r → ReadsNone steps
writing_reads true s t steps r h id = none_at steps h.1 id
writing_reads false s t steps r h id = ap (λ (l : List LinkStep). bytes_read id l) h.2 ∙ written_reads s t h.0 h.1 r h.3 id

some_reads : (s : Session) (t : Turn) (steps : List LinkStep) (r : Bool × (Session × Turn)) → Path (writing_some (s, t)) steps r → ReadsNone steps
unfolding writing_some
some_reads s t steps r h = writing_reads (nat_eq (length s.unsent) 0) s t steps r h

upto_reads : (n : ℕ) (s : Session) (t : Turn) (steps : List LinkStep) (r : Session × Turn) → Path (upto writing_some n (s, t)) steps r → ReadsNone steps
unfolding upto
upto_reads zero s t steps r h = none_at steps h.1
upto_reads (suc n) s t steps r h =
    let k = path_split (writing_some (s, t)) (λ (q : Bool × (Session × Turn)). cond q.0 (upto writing_some n q.1) (Return q.1)) steps r h in
    let T : Bool → Type 0 = λ v. Path (cond v (upto writing_some n k.value.1) (Return k.value.1)) k.rest r → ReadsNone k.rest in
    let f : (v : Bool) → T v = λ v. elim v as T [ true ↦ λ p. upto_reads n k.value.1.0 k.value.1.1 k.rest r p | false ↦ λ p. none_at k.rest p.1 ] in
    none_more k.front k.rest steps k.whole (some_reads s t k.front k.value k.first) (f k.value.0 k.second)

-- a session whose end comes: nothing is read, and its lines stay
record Ends (s : Session) (steps : List LinkStep) (r : Session) : Type 0 where
  none : ReadsNone steps
  holds : (handed : List (List ℕ)) (bytes : List ℕ) → HoldsLines handed bytes s → HoldsLines handed bytes r

ends_as_it_was : (s : Session) (t : Turn) (steps : List LinkStep) (r : Session × Turn) → Path (Return (s, t)) steps r → Ends s steps r.0
ends_as_it_was s t steps r h = record { none = none_at steps h.1; holds = λ handed bytes k. subst (λ (y : Session). HoldsLines handed bytes y) (sym (ap (λ (x : Session × Turn). x.0) h.0)) k }

all_of : (handed : List (List ℕ)) (bytes : List ℕ) (s : Session) → s.life ≡ life.Open → HoldsLines handed bytes s → AreAllLines handed bytes s
all_of handed bytes s o k = subst (λ (l : Life). AreLinesBy l handed bytes s) o k

ended_ends : (b : Bool) (s : Session) (t : Turn) (steps : List LinkStep) (r : Session × Turn) → s.life ≡ life.Open → Path (finish_ended b s t) steps r → Ends s steps r.0
ended_ends true s t steps r o h = record {
  none = λ id. closed_reads id s.id steps h.0 h.1 h.2.1;
  holds = λ handed bytes k. let a : AreAllLines handed bytes s = all_of handed bytes s o k in subst (λ (y : Session). HoldsLines handed bytes y) (sym (ap (λ (x : Session × Turn). x.0) h.2.0)) (record { lines = a.lines; begun = a.begun; limit = a.limit });
}
ended_ends false s t steps r o h = ends_as_it_was s t steps r h

refused_ends : (b : Bool) (s : Session) (t : Turn) (steps : List LinkStep) (r : Session × Turn) → s.life ≡ life.Open → Path (finish_refused b s t) steps r → Ends s steps r.0
refused_ends true s t steps r o h = record {
  none = λ id. closed_reads id s.id steps h.0 h.1 h.2.1;
  holds = λ handed bytes k. let a : AreAllLines handed bytes s = all_of handed bytes s o k in subst (λ (y : Session). HoldsLines handed bytes y) (sym (ap (λ (x : Session × Turn). x.0) h.2.0)) (record { lines = a.lines; begun = a.begun; limit = a.limit });
}
refused_ends false s t steps r o h = ended_ends (is_served s) s t steps r o h

open_ends : (l : Life) (s : Session) (t : Turn) (steps : List LinkStep) (r : Session × Turn) → s.life ≡ l → Path (finish_open (is_open_life l) s t) steps r → Ends s steps r.0
open_ends life.Open s t steps r o h = refused_ends s.refused s t steps r o h
open_ends (life.Doomed w) s t steps r o h = ends_as_it_was s t steps r h
open_ends (life.Closed w) s t steps r o h = ends_as_it_was s t steps r h

sent_ends : (b : Bool) (s : Session) (t : Turn) (steps : List LinkStep) (r : Session × Turn) → Path (finish_sent b s t) steps r → Ends s steps r.0
sent_ends true s t steps r h = open_ends s.life s t steps r refl h
sent_ends false s t steps r h = ends_as_it_was s t steps r h

finish_ends : (s : Session) (t : Turn) (steps : List LinkStep) (r : Session × Turn) → Path (finishing s t) steps r → Ends s steps r.0
unfolding finishing
finish_ends s t steps r h = sent_ends (nat_eq (length s.unsent) 0) s t steps r h

sent_lines : (handed : List (List ℕ)) (bytes : List ℕ) (s r : Session) (rest : List ℕ) → s.life ≡ life.Open → (r ≡ left s rest) ⊎ (r ≡ cut s) → HoldsLines handed bytes s → HoldsLines handed bytes r
sent_lines handed bytes s r rest o (inl p) k = subst (λ (y : Session). HoldsLines handed bytes y) (sym p) (of_same handed bytes s (left s rest) refl (refl, refl) k)
sent_lines handed bytes s r rest o (inr p) k = let a : AreAllLines handed bytes s = all_of handed bytes s o k in subst (λ (y : Session). HoldsLines handed bytes y) (sym p) (record { lines = a.lines; begun = a.begun; limit = a.limit })

sending_ends : (l : Life) (s : Session) (t : Turn) (steps : List LinkStep) (r : Session × Turn) → s.life ≡ l → Path (sending_if (is_open_life l) s t) steps r → Ends s steps r.0
sending_ends life.Open s t steps r o h =
    let p = path_split (upto writing_some (length s.unsent) (s, t)) (λ (q : Session × Turn). finishing q.0 q.1) steps r h in
    let w : Sends s p.front p.value.0 = sends_upto (length s.unsent) s t p.front p.value p.first in
    let e : Ends p.value.0 p.rest r.0 = finish_ends p.value.0 p.value.1 p.rest r p.second in
    record {
      none = none_more p.front p.rest steps p.whole (upto_reads (length s.unsent) s t p.front p.value p.first) e.none;
      holds = λ handed bytes k. e.holds handed bytes (sent_lines handed bytes s p.value.0 w.rest o w.is k);
    }
sending_ends (life.Doomed w) s t steps r o h = ends_as_it_was s t steps r h
sending_ends (life.Closed w) s t steps r o h = ends_as_it_was s t steps r h

flush_ends : (s : Session) (t : Turn) (steps : List LinkStep) (r : Session × Turn) → Path (flushing_one s t) steps r → Ends s steps r.0
unfolding flushing_one closing_doomed
flush_ends s t steps r h =
    let p = path_split (closing_doomed s t) (λ (q : Session × Turn). sending_if (is_open_session q.0) q.0 q.1) steps r h in
    let e : Ends p.value.0 p.rest r.0 = sending_ends p.value.0.life p.value.0 p.value.1 p.rest r refl p.second in
    record {
      none = none_more p.front p.rest steps p.whole (λ id. doomed_reads id s.life s t p.front p.value p.first) e.none;
      holds = λ handed bytes k. e.holds handed bytes (closing_lines s.life handed bytes s t p.front p.value refl p.first k);
    }

pub flush_lines : (s : Session) (t : Turn) (steps : List LinkStep) (r : Session × Turn) → Path (flushing_one s t) steps r → (handed : List (List ℕ)) (bytes : List ℕ) → HoldsLines handed bytes s → HoldsLines handed bytes r.0
flush_lines s t steps r h = (flush_ends s t steps r h).holds

pub flush_reads : (s : Session) (t : Turn) (steps : List LinkStep) (r : Session × Turn) → Path (flushing_one s t) steps r → ReadsNone steps
flush_reads s t steps r h = (flush_ends s t steps r h).none
