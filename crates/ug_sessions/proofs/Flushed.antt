-- What is left unsent by a flush.
use Rattle.std.proofs.Common.{◌≡◌, ℕ, zero, suc, ◌<◌, ◌≤◌, Bool, true, false, cond, nat_eq, List, [], ◌∷◌, ◌++◌, length, drop, ◌⊎◌, inl, inr, refl, sym, ap, ◌∙◌, subst, append_assoc, arith}
use Rattle.std.proofs.lemmas.List.{append-nil, length-drop}
use Rattle.std.proofs.lemmas.Bool.Decides.{nat_tests}
use Rattle.ug_links.specs.declared.waiter.LinkId.{LinkId}
use Rattle.ug_links.specs.declared.links.LinkWrote.{LinkWrote}
use Rattle.ug_links.specs.declared.links.LinkWrote.TheVariants as wrote
use Rattle.ug_links.specs.declared.step.LinkStep.{LinkStep}
use Rattle.ug_links.specs.declared.step.LinkStep.TheVariants.{WroteTo}
use Rattle.ug_links.specs.Steps.{IsStep}
use Rattle.ug_links.specs.Talk.{Return, Path, AreSteps, upto}
use Rattle.ug_links.proofs.Paths.{path_split}
use Rattle.ug_sessions.specs.declared.session.Session.{Session}
use Rattle.ug_sessions.specs.declared.session.Turn.{Turn}
use Rattle.ug_sessions.specs.Sessions.{is_open_session}
use Rattle.ug_sessions.specs.Reading.{closing_doomed}
use Rattle.ug_sessions.proofs.LinesRead.{closing_id}
use Rattle.ug_sessions.specs.Sending.{after_writing, writing_if, writing_some, is_served, finish_ended, finish_refused, finish_open, finish_sent, finishing, sending_if, flushing_one, EndsWaiting}

pub empty_of : (xs : List ℕ) → length xs ≤ 0 → xs ≡ []
empty_of [] le = refl
empty_of (x ∷ xs) le = let none : ⊥ = omega (arith, le) in absurd none

pub positive : (n : ℕ) → nat_eq n 0 ≡ false → 0 < n
positive n e = grind (arith, nat_tests)

pub zero_of : (n : ℕ) → nat_eq n 0 ≡ true → n ≤ 0
zero_of n e = grind (arith, nat_tests)

-- nothing is unsent, or the last call waits
abbrev Rested : LinkId → List LinkStep → Session → Type 0
Rested id steps r = (r.unsent ≡ []) ⊎ EndsWaiting id r.unsent steps

-- one write: where there may be more, fewer bytes are left; else the session rests
record Writes (s : Session) (steps : List LinkStep) (more : Bool) (r : Session) : Type 0 where
  fewer : more ≡ true → length r.unsent < length s.unsent
  rests : more ≡ false → Rested s.id steps r
  same : r.id ≡ s.id

no_more : (false ≡ true) → ⊥
no_more f = cc

not_less : (true ≡ false) → ⊥
not_less f = cc

wrote_writes : (a : LinkWrote) (s : Session) (t : Turn) (before rest : List LinkStep) (r : Bool × (Session × Turn)) → 0 < length s.unsent → IsStep before (WroteTo s.id s.unsent a) → Path (after_writing s t a) rest r → Writes s (WroteTo s.id s.unsent a ∷ rest) r.0 r.1.0
wrote_writes (wrote.Sent n) s t before rest r lt may h =
    let long = length-drop n s.unsent in
    let less : length (drop n s.unsent) < length s.unsent = let a : 0 < n = may.0 in omega (arith, long, a, lt) in
    record {
      fewer = λ _. subst (λ (x : Bool × (Session × Turn)). length x.1.0.unsent < length s.unsent) (sym h.0) less;
      rests = λ e. absurd (not_less (sym (ap (λ (x : Bool × (Session × Turn)). x.0) h.0) ∙ e));
      same = ap (λ (x : Bool × (Session × Turn)). x.1.0.id) h.0;
    }
wrote_writes wrote.NotYet s t before rest r lt may h = record {
  fewer = λ e. absurd (no_more (sym (ap (λ (x : Bool × (Session × Turn)). x.0) h.0) ∙ e));
  rests = λ _. inr ([], ap (λ (l : List LinkStep). WroteTo s.id s.unsent wrote.NotYet ∷ l) h.1 ∙ ap (λ (x : Bool × (Session × Turn)). WroteTo s.id x.1.0.unsent wrote.NotYet ∷ []) (sym h.0));
  same = ap (λ (x : Bool × (Session × Turn)). x.1.0.id) h.0;
}
wrote_writes wrote.Failed s t before rest r lt may h = record {
  fewer = λ e. absurd (no_more (sym (ap (λ (x : Bool × (Session × Turn)). x.0) h.2.0) ∙ e));
  rests = λ _. inl (ap (λ (x : Bool × (Session × Turn)). x.1.0.unsent) h.2.0);
  same = ap (λ (x : Bool × (Session × Turn)). x.1.0.id) h.2.0;
}

write_writes : (b : Bool) (s : Session) (t : Turn) (before steps : List LinkStep) (r : Bool × (Session × Turn)) → nat_eq (length s.unsent) 0 ≡ b → AreSteps before steps → Path (writing_if b s t) steps r → Writes s steps r.0 r.1.0
write_writes true s t before steps r e a h = record {
  fewer = λ f. absurd (no_more (sym (ap (λ (x : Bool × (Session × Turn)). x.0) h.0) ∙ f));
  rests = λ _. inl (ap (λ (x : Bool × (Session × Turn)). x.1.0.unsent) h.0 ∙ empty_of s.unsent (zero_of (length s.unsent) e));
  same = ap (λ (x : Bool × (Session × Turn)). x.1.0.id) h.0;
}
write_writes false s t before steps r e a h =
    let may = subst (λ (l : List LinkStep). AreSteps before l) h.2 a in
    subst (λ (l : List LinkStep). Writes s l r.0 r.1.0) (sym h.2) (wrote_writes h.0 s t before h.1 r (positive (length s.unsent) e) may.0 h.3)

some_writes : (s : Session) (t : Turn) (before steps : List LinkStep) (r : Bool × (Session × Turn)) → AreSteps before steps → Path (writing_some (s, t)) steps r → Writes s steps r.0 r.1.0
unfolding writing_some
some_writes s t before steps r a h = write_writes (nat_eq (length s.unsent) 0) s t before steps r refl a h

pub steps_apart : (before a b : List LinkStep) → AreSteps before (a ++ b) → AreSteps before a × AreSteps (before ++ a) b
steps_apart before [] b h = (tt, subst (λ (l : List LinkStep). AreSteps l b) (sym (append-nil before)) h)
steps_apart before (x ∷ a) b h =
    let k = steps_apart (before ++ x ∷ []) a b h.1 in
    ((h.0, k.0), subst (λ (l : List LinkStep). AreSteps l b) (append_assoc before (x ∷ []) a) k.1)

behind_rest : (id : LinkId) (a b steps : List LinkStep) (r : Session) → steps ≡ a ++ b → Rested id b r → Rested id steps r
behind_rest id a b steps r e (inl p) = inl p
behind_rest id a b steps r e (inr p) = inr (a ++ p.0, e ∙ ap (λ (l : List LinkStep). a ++ l) p.1 ∙ sym (append_assoc a p.0 (WroteTo id r.unsent wrote.NotYet ∷ [])))

end_rest : (id : LinkId) (a b steps : List LinkStep) (r u : Session) → steps ≡ a ++ b → b ≡ [] → u ≡ r → Rested id a r → Rested id steps u
end_rest id a b steps r u e f g h =
    let whole : steps ≡ a = e ∙ ap (λ (l : List LinkStep). a ++ l) f ∙ append-nil a in
    subst (λ (l : List LinkStep). Rested id l u) (sym whole) (subst (λ (x : Session). Rested id a x) (sym g) h)

upto_rests : (n : ℕ) (s : Session) (t : Turn) (before steps : List LinkStep) (r : Session × Turn) → length s.unsent ≤ n → AreSteps before steps → Path (upto writing_some n (s, t)) steps r → Rested s.id steps r.0
unfolding upto
upto_rests zero s t before steps r le a h = inl (ap (λ (x : Session × Turn). x.0.unsent) h.0 ∙ empty_of s.unsent le)
upto_rests (suc n) s t before steps r le a h =
    let p = path_split (writing_some (s, t)) (λ (q : Bool × (Session × Turn)). cond q.0 (upto writing_some n q.1) (Return q.1)) steps r h in
    let two = steps_apart before p.front p.rest (subst (λ (l : List LinkStep). AreSteps before l) p.whole a) in
    let w : Writes s p.front p.value.0 p.value.1.0 = some_writes s t before p.front p.value two.0 p.first in
    let T : Bool → Type 0 = λ v. (v ≡ true → length p.value.1.0.unsent < length s.unsent) → (v ≡ false → Rested s.id p.front p.value.1.0) → Path (cond v (upto writing_some n p.value.1) (Return p.value.1)) p.rest r → Rested s.id steps r.0 in
    let f : (v : Bool) → T v = λ v. elim v as T [
      | true ↦ λ x y q.
          let less = x refl in
          let fits : length p.value.1.0.unsent ≤ n = omega (arith, less, le) in
          behind_rest s.id p.front p.rest steps r.0 p.whole (subst (λ (i : LinkId). Rested i p.rest r.0) w.same (upto_rests n p.value.1.0 p.value.1.1 (before ++ p.front) p.rest r fits two.1 q))
      | false ↦ λ x y q. end_rest s.id p.front p.rest steps p.value.1.0 r.0 p.whole q.1 (ap (λ (z : Session × Turn). z.0) q.0) (y refl)
    ] in
    f p.value.0 w.fewer w.rests p.second

-- what ends open was not closed, and no call was made
abbrev Quiet : Session → List LinkStep → Session → Type 0
Quiet s steps r = is_open_session r ≡ true → (steps ≡ []) × (r ≡ s)

shut : {A : Type 0} (r x : Session) → r ≡ x → is_open_session x ≡ false → is_open_session r ≡ true → A
shut r x e f o = absurd (no_more (sym f ∙ sym (ap is_open_session e) ∙ o))

ended_quiet : (b : Bool) (s : Session) (t : Turn) (steps : List LinkStep) (r : Session × Turn) → Path (finish_ended b s t) steps r → Quiet s steps r.0
ended_quiet true s t steps r h o = shut r.0 _ (ap (λ (x : Session × Turn). x.0) h.2.0) refl o
ended_quiet false s t steps r h o = (h.1, ap (λ (x : Session × Turn). x.0) h.0)

refused_quiet : (b : Bool) (s : Session) (t : Turn) (steps : List LinkStep) (r : Session × Turn) → Path (finish_refused b s t) steps r → Quiet s steps r.0
refused_quiet true s t steps r h o = shut r.0 _ (ap (λ (x : Session × Turn). x.0) h.2.0) refl o
refused_quiet false s t steps r h o = ended_quiet (is_served s) s t steps r h o

open_quiet : (b : Bool) (s : Session) (t : Turn) (steps : List LinkStep) (r : Session × Turn) → Path (finish_open b s t) steps r → Quiet s steps r.0
open_quiet true s t steps r h o = refused_quiet s.refused s t steps r h o
open_quiet false s t steps r h o = (h.1, ap (λ (x : Session × Turn). x.0) h.0)

sent_quiet : (b : Bool) (s : Session) (t : Turn) (steps : List LinkStep) (r : Session × Turn) → Path (finish_sent b s t) steps r → Quiet s steps r.0
sent_quiet true s t steps r h o = open_quiet (is_open_session s) s t steps r h o
sent_quiet false s t steps r h o = (h.1, ap (λ (x : Session × Turn). x.0) h.0)

finish_quiet : (s : Session) (t : Turn) (steps : List LinkStep) (r : Session × Turn) → Path (finishing s t) steps r → Quiet s steps r.0
unfolding finishing
finish_quiet s t steps r h o = sent_quiet (nat_eq (length s.unsent) 0) s t steps r h o

send_rests : (b : Bool) (s : Session) (t : Turn) (before steps : List LinkStep) (r : Session × Turn) → is_open_session s ≡ b → AreSteps before steps → Path (sending_if b s t) steps r → is_open_session r.0 ≡ true → Rested s.id steps r.0
send_rests true s t before steps r e a h o =
    let p = path_split (upto writing_some (length s.unsent) (s, t)) (λ (q : Session × Turn). finishing q.0 q.1) steps r h in
    let two = steps_apart before p.front p.rest (subst (λ (l : List LinkStep). AreSteps before l) p.whole a) in
    let rested = upto_rests (length s.unsent) s t before p.front p.value (omega arith) two.0 p.first in
    let k = finish_quiet p.value.0 p.value.1 p.rest r p.second o in
    end_rest s.id p.front p.rest steps p.value.0 r.0 p.whole k.0 k.1 rested
send_rests false s t before steps r e a h o = shut r.0 s (ap (λ (x : Session × Turn). x.0) h.0) e o

pub flush_rests : (s : Session) (t : Turn) (before steps : List LinkStep) (r : Session × Turn) → AreSteps before steps → Path (flushing_one s t) steps r → is_open_session r.0 ≡ true → (r.0.unsent ≡ []) ⊎ EndsWaiting s.id r.0.unsent steps
unfolding flushing_one closing_doomed
flush_rests s t before steps r a h o =
    let p = path_split (closing_doomed s t) (λ (q : Session × Turn). sending_if (is_open_session q.0) q.0 q.1) steps r h in
    let two = steps_apart before p.front p.rest (subst (λ (l : List LinkStep). AreSteps before l) p.whole a) in
    let rested = send_rests (is_open_session p.value.0) p.value.0 p.value.1 (before ++ p.front) p.rest r refl two.1 p.second o in
    behind_rest s.id p.front p.rest steps r.0 p.whole (subst (λ (i : LinkId). Rested i p.rest r.0) (closing_id s.life s t p.front p.value p.first) rested)
