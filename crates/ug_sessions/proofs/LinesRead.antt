-- What is read of a session becomes its lines.
use Rattle.std.proofs.Common.{◌≡◌, ℕ, zero, suc, Bool, true, false, cond, nat_eq, List, [], ◌∷◌, ◌++◌, refl, sym, ap, ◌∙◌, subst, append_assoc}
use Rattle.std.proofs.lemmas.List.{append-nil}
use Rattle.ug_links.specs.declared.waiter.LinkId.{LinkId}
use Rattle.ug_links.specs.declared.waiter.Ready.{Ready}
use Rattle.ug_links.specs.declared.step.LinkStep.{LinkStep}
use Rattle.ug_links.specs.declared.step.LinkStep.TheVariants.{Listened, AcceptedAt, ReadFrom, WroteTo, Closed}
use Rattle.ug_links.specs.declared.step.Reading.{Reading}
use Rattle.ug_links.specs.declared.step.Reading.TheVariants.{Bytes, NotYet, End, Failed}
use Rattle.ug_links.specs.Talk.{Return, Path, upto}
use Rattle.ug_links.proofs.Paths.{path_split}
use Rattle.ug_proto.specs.Lines.{Begun, Partial, stream_lines, lines_ended_in, begun_after}
use Rattle.ug_proto.proofs.Pieces.{lines_more, begun_more}
use Rattle.ug_sessions.specs.declared.session.Session.{Session}
use Rattle.ug_sessions.specs.declared.session.Turn.{Turn}
use Rattle.ug_sessions.specs.declared.session.Life.{Life}
use Rattle.ug_sessions.specs.declared.session.Life.TheVariants as life
use Rattle.ug_sessions.specs.Tokens.{is_read}
use Rattle.ug_sessions.specs.Sessions.{fed, not_owed, behind_its_end, closed_for}
use Rattle.ug_sessions.specs.Reading.{after_feed, after_read_answer, reading_piece, closing_by, closing_doomed, reading_if, reading_one}
use Rattle.ug_sessions.specs.Tried.{AllRead}
use Rattle.ug_sessions.specs.Handed.{bytes_read, AreAllLines, AreLinesBy, HoldsLines}
use Rattle.ug_sessions.proofs.Sends.{own}
use Rattle.ug_sessions.proofs.Tried.{doomed_steps}
use Rattle.ug_sessions.proofs.LinesKept.{by_same, of_same}

pub read-append : (id : LinkId) (a b : List LinkStep) → bytes_read id (a ++ b) ≡ bytes_read id a ++ bytes_read id b
read-append id [] b = refl
read-append id (ReadFrom other room (Bytes bytes) ∷ a) b =
    let T : Bool → Type 0 = λ v. cond v (bytes ++ bytes_read id (a ++ b)) (bytes_read id (a ++ b)) ≡ cond v (bytes ++ bytes_read id a) (bytes_read id a) ++ bytes_read id b in
    let f : (v : Bool) → T v = λ v. elim v as T [
      | true ↦ ap (λ (l : List ℕ). bytes ++ l) (read-append id a b) ∙ sym (append_assoc bytes (bytes_read id a) (bytes_read id b))
      | false ↦ read-append id a b
    ] in
    f (nat_eq other.0 id.0)
read-append id (ReadFrom other room NotYet ∷ a) b = read-append id a b
read-append id (ReadFrom other room End ∷ a) b = read-append id a b
read-append id (ReadFrom other room Failed ∷ a) b = read-append id a b
read-append id (WroteTo other bytes answer ∷ a) b = read-append id a b
read-append id (Listened principal answer ∷ a) b = read-append id a b
read-append id (AcceptedAt listener answer ∷ a) b = read-append id a b
read-append id (Closed other ∷ a) b = read-append id a b

none_read : (id : LinkId) (steps : List LinkStep) → AllRead (λ _. ⊥) steps → bytes_read id steps ≡ []
none_read id [] h = refl
none_read id (ReadFrom other room answer ∷ steps) h = absurd h.0
none_read id (Closed other ∷ steps) h = none_read id steps h.1
none_read id (AcceptedAt listener answer ∷ steps) h = absurd h.0
none_read id (WroteTo other bytes answer ∷ steps) h = absurd h.0
none_read id (Listened principal answer ∷ steps) h = absurd h.0

pub closed_reads : (id other : LinkId) (steps rest : List LinkStep) → steps ≡ Closed other ∷ rest → rest ≡ [] → bytes_read id steps ≡ []
closed_reads id other steps rest e f = ap (λ (l : List LinkStep). bytes_read id l) e ∙ ap (λ (l : List LinkStep). bytes_read id l) f

-- the bytes of one read of a session
own_read : (id : LinkId) (room : ℕ) (new : List ℕ) (rest : List LinkStep) → bytes_read id rest ≡ [] → bytes_read id (ReadFrom id room (Bytes new) ∷ rest) ≡ new
own_read id room new rest e = ap (λ (v : Bool). cond v (new ++ bytes_read id rest) (bytes_read id rest)) (own id) ∙ ap (λ (l : List ℕ). new ++ l) e ∙ append-nil new

fed_lines : (handed : List (List ℕ)) (bytes new : List ℕ) (s : Session) → AreAllLines handed bytes s → handed ++ (s.framer.lines ++ lines_ended_in s.framer.begun new) ≡ stream_lines (bytes ++ new)
fed_lines handed bytes new s h =
    sym (append_assoc handed s.framer.lines (lines_ended_in s.framer.begun new))
    ∙ ap (λ (l : List (List ℕ)). l ++ lines_ended_in s.framer.begun new) h.lines
    ∙ ap (λ (b : Begun). stream_lines bytes ++ lines_ended_in b new) h.begun
    ∙ sym (lines_more (Partial []) bytes new)

fed_all : (handed : List (List ℕ)) (bytes new : List ℕ) (s : Session) → AreAllLines handed bytes s → AreAllLines handed (bytes ++ new) (fed s new)
fed_all handed bytes new s h = record {
  lines = fed_lines handed bytes new s h;
  begun = ap (λ (b : Begun). begun_after b new) h.begun ∙ sym (begun_more (Partial []) bytes new);
  limit = refl;
}

-- bytes came to an open session
fed_of : (b : Bool) (handed : List (List ℕ)) (bytes new : List ℕ) (s : Session) (t : Turn) (rest : List LinkStep) (r : Bool × (Session × Turn)) → s.life ≡ life.Open → Path (after_feed s t new b) rest r → AreAllLines handed bytes s → HoldsLines handed (bytes ++ new) r.1.0
fed_of true handed bytes new s t rest r o h k =
    subst (λ (x : Session). HoldsLines handed (bytes ++ new) x) (sym (ap (λ (x : Bool × (Session × Turn)). x.1.0) h.0))
    (subst (λ (l : Life). AreLinesBy l handed (bytes ++ new) (fed s new)) (sym o) (fed_all handed bytes new s k))
fed_of false handed bytes new s t rest r o h k =
    subst (λ (x : Session). HoldsLines handed (bytes ++ new) x) (sym (ap (λ (x : Bool × (Session × Turn)). x.1.0) h.2.0))
    (record { none = refl; others = s.framer.lines ++ lines_ended_in s.framer.begun new; lines = sym (fed_lines handed bytes new s k) })

fed_reads : (b : Bool) (s : Session) (t : Turn) (new : List ℕ) (rest : List LinkStep) (r : Bool × (Session × Turn)) → Path (after_feed s t new b) rest r → bytes_read s.id rest ≡ []
fed_reads true s t new rest r h = ap (λ (l : List LinkStep). bytes_read s.id l) h.1
fed_reads false s t new rest r h = closed_reads s.id s.id rest h.0 h.1 h.2.1

fed_going : (b : Bool) (s : Session) (t : Turn) (new : List ℕ) (rest : List LinkStep) (r : Bool × (Session × Turn)) → s.life ≡ life.Open → Path (after_feed s t new b) rest r → r.0 ≡ true → r.1.0.life ≡ life.Open
fed_going true s t new rest r o h e = ap (λ (x : Bool × (Session × Turn)). x.1.0.life) h.0 ∙ o
fed_going false s t new rest r o h e = let none : ⊥ = (let f : false ≡ true = sym (ap (λ (x : Bool × (Session × Turn)). x.0) h.2.0) ∙ e in cc) in absurd none

fed_id : (b : Bool) (s : Session) (t : Turn) (new : List ℕ) (rest : List LinkStep) (r : Bool × (Session × Turn)) → Path (after_feed s t new b) rest r → r.1.0.id ≡ s.id
fed_id true s t new rest r h = ap (λ (x : Bool × (Session × Turn)). x.1.0.id) h.0
fed_id false s t new rest r h = ap (λ (x : Bool × (Session × Turn)). x.1.0.id) h.2.0

-- these calls read an open session
record ReadsOn (s : Session) (steps : List LinkStep) (more : Bool) (r : Session) : Type 0 where
  holds : (handed : List (List ℕ)) (bytes : List ℕ) → AreAllLines handed bytes s → HoldsLines handed (bytes ++ bytes_read s.id steps) r
  going : more ≡ true → r.life ≡ life.Open
  same : r.id ≡ s.id

nothing_came : (handed : List (List ℕ)) (bytes : List ℕ) (id : LinkId) (steps : List LinkStep) (r : Session) → bytes_read id steps ≡ [] → HoldsLines handed bytes r → HoldsLines handed (bytes ++ bytes_read id steps) r
nothing_came handed bytes id steps r e h = subst (λ (l : List ℕ). HoldsLines handed l r) (sym (ap (λ (l : List ℕ). bytes ++ l) e ∙ append-nil bytes)) h

-- a session of the same lines
quiet : (s x : Session) (steps : List LinkStep) (more : Bool) (r : Session) → s.life ≡ life.Open → x.life ≡ s.life → (x.framer ≡ s.framer) × (x.overlong ≡ s.overlong) → x.id ≡ s.id → bytes_read s.id steps ≡ [] → r ≡ x → ReadsOn s steps more r
quiet s x steps more r o l e i n p = record {
  holds = λ handed bytes h. nothing_came handed bytes s.id steps r n (subst (λ (y : Session). HoldsLines handed bytes y) (sym p) (of_same handed bytes s x l e (subst (λ (m : Life). AreLinesBy m handed bytes s) (sym o) h)));
  going = λ _. ap (λ (y : Session). y.life) p ∙ l ∙ o;
  same = ap (λ (y : Session). y.id) p ∙ i;
}

answer_on : (a : Reading) (s : Session) (t : Turn) (rest : List LinkStep) (r : Bool × (Session × Turn)) → s.life ≡ life.Open → Path (after_read_answer s t a) rest r → ReadsOn s (ReadFrom s.id 4096 a ∷ rest) r.0 r.1.0
answer_on (Bytes new) s t rest r o h = record {
  holds = λ handed bytes k. subst (λ (l : List ℕ). HoldsLines handed (bytes ++ l) r.1.0) (sym (own_read s.id 4096 new rest (fed_reads h.0 s t new rest r h.1))) (fed_of h.0 handed bytes new s t rest r o h.1 k);
  going = fed_going h.0 s t new rest r o h.1;
  same = fed_id h.0 s t new rest r h.1;
}
answer_on NotYet s t rest r o h = quiet s (not_owed s) (ReadFrom s.id 4096 NotYet ∷ rest) r.0 r.1.0 o refl (refl, refl) refl (ap (λ (l : List LinkStep). bytes_read s.id l) h.1) (ap (λ (x : Bool × (Session × Turn)). x.1.0) h.0)
answer_on End s t rest r o h = quiet s (behind_its_end s) (ReadFrom s.id 4096 End ∷ rest) r.0 r.1.0 o refl (refl, refl) refl (ap (λ (l : List LinkStep). bytes_read s.id l) h.1) (ap (λ (x : Bool × (Session × Turn)). x.1.0) h.0)
answer_on Failed s t rest r o h = record {
  holds = λ handed bytes k. nothing_came handed bytes s.id (ReadFrom s.id 4096 Failed ∷ rest) r.1.0 (closed_reads s.id s.id rest h.0 h.1 h.2.1) (subst (λ (y : Session). HoldsLines handed bytes y) (sym (ap (λ (x : Bool × (Session × Turn)). x.1.0) h.2.0)) (record { lines = k.lines; begun = k.begun; limit = k.limit }));
  going = λ e. let none : ⊥ = (let f : false ≡ true = sym (ap (λ (x : Bool × (Session × Turn)). x.0) h.2.0) ∙ e in cc) in absurd none;
  same = ap (λ (x : Bool × (Session × Turn)). x.1.0.id) h.2.0;
}

piece_on : (s : Session) (t : Turn) (steps : List LinkStep) (r : Bool × (Session × Turn)) → s.life ≡ life.Open → Path (reading_piece (s, t)) steps r → ReadsOn s steps r.0 r.1.0
unfolding reading_piece
piece_on s t steps r o h = subst (λ (l : List LinkStep). ReadsOn s l r.0 r.1.0) (sym h.2) (answer_on h.0 s t h.1 r o h.3)

-- the lines of an open session after these calls
abbrev After : Session → List LinkStep → Session → Type 0
After s steps r = (handed : List (List ℕ)) (bytes : List ℕ) → HoldsLines handed bytes s → HoldsLines handed (bytes ++ bytes_read s.id steps) r

upto_on : (n : ℕ) (s : Session) (t : Turn) (steps : List LinkStep) (r : Session × Turn) → s.life ≡ life.Open → Path (upto reading_piece n (s, t)) steps r → After s steps r.0
unfolding upto
upto_on zero s t steps r o h handed bytes k = nothing_came handed bytes s.id steps r.0 (ap (λ (l : List LinkStep). bytes_read s.id l) h.1) (subst (λ (y : Session). HoldsLines handed bytes y) (sym (ap (λ (x : Session × Turn). x.0) h.0)) k)
upto_on (suc n) s t steps r o h handed bytes k =
    let p = path_split (reading_piece (s, t)) (λ (q : Bool × (Session × Turn)). cond q.0 (upto reading_piece n q.1) (Return q.1)) steps r h in
    let first : ReadsOn s p.front p.value.0 p.value.1.0 = piece_on s t p.front p.value o p.first in
    let mid : HoldsLines handed (bytes ++ bytes_read s.id p.front) p.value.1.0 = first.holds handed bytes (subst (λ (l : Life). AreLinesBy l handed bytes s) o k) in
    let T : Bool → Type 0 = λ v. (v ≡ true → p.value.1.0.life ≡ life.Open) → Path (cond v (upto reading_piece n p.value.1) (Return p.value.1)) p.rest r → HoldsLines handed ((bytes ++ bytes_read s.id p.front) ++ bytes_read p.value.1.0.id p.rest) r.0 in
    let f : (v : Bool) → T v = λ v. elim v as T [
      | true ↦ λ g q. upto_on n p.value.1.0 p.value.1.1 p.rest r (g refl) q handed (bytes ++ bytes_read s.id p.front) mid
      | false ↦ λ g q. nothing_came handed (bytes ++ bytes_read s.id p.front) p.value.1.0.id p.rest r.0 (ap (λ (l : List LinkStep). bytes_read p.value.1.0.id l) q.1) (subst (λ (y : Session). HoldsLines handed (bytes ++ bytes_read s.id p.front) y) (sym (ap (λ (x : Session × Turn). x.0) q.0)) mid)
    ] in
    let whole : (bytes ++ bytes_read s.id p.front) ++ bytes_read p.value.1.0.id p.rest ≡ bytes ++ bytes_read s.id steps =
    ap (λ (i : LinkId). (bytes ++ bytes_read s.id p.front) ++ bytes_read i p.rest) first.same
    ∙ append_assoc bytes (bytes_read s.id p.front) (bytes_read s.id p.rest)
    ∙ ap (λ (l : List ℕ). bytes ++ l) (sym (ap (λ (l : List LinkStep). bytes_read s.id l) p.whole ∙ read-append s.id p.front p.rest)) in
    subst (λ (l : List ℕ). HoldsLines handed l r.0) whole (f p.value.0 first.going p.second)

pub closing_lines : (l : Life) (handed : List (List ℕ)) (bytes : List ℕ) (s : Session) (t : Turn) (steps : List LinkStep) (r : Session × Turn) → s.life ≡ l → Path (closing_by l s t) steps r → AreLinesBy l handed bytes s → HoldsLines handed bytes r.0
closing_lines life.Open handed bytes s t steps r e h k = subst (λ (y : Session). HoldsLines handed bytes y) (sym (ap (λ (x : Session × Turn). x.0) h.0)) (subst (λ (m : Life). AreLinesBy m handed bytes s) (sym e) k)
closing_lines (life.Closed w) handed bytes s t steps r e h k = subst (λ (y : Session). HoldsLines handed bytes y) (sym (ap (λ (x : Session × Turn). x.0) h.0)) (subst (λ (m : Life). AreLinesBy m handed bytes s) (sym e) k)
closing_lines (life.Doomed w) handed bytes s t steps r e h k = subst (λ (y : Session). HoldsLines handed bytes y) (sym (ap (λ (x : Session × Turn). x.0) h.2.0)) (by_same (life.Doomed w) handed bytes s (closed_for w s) (refl, refl) k)

pub doomed_reads : (id : LinkId) (l : Life) (s : Session) (t : Turn) (steps : List LinkStep) (r : Session × Turn) → Path (closing_by l s t) steps r → bytes_read id steps ≡ []
doomed_reads id l s t steps r h = none_read id steps (doomed_steps l (λ _. ⊥) s t steps r h)

open_of : (ready : List Ready) (s : Session) (l : Life) → s.life ≡ l → is_read ready s ≡ true → s.life ≡ life.Open
open_of ready s life.Open e f = e
open_of ready s (life.Doomed w) e f = let none : ⊥ = (let g : false ≡ true = sym (ap (λ (l : Life). is_read ready (record s { life = l })) e) ∙ f in cc) in absurd none
open_of ready s (life.Closed w) e f = let none : ⊥ = (let g : false ≡ true = sym (ap (λ (l : Life). is_read ready (record s { life = l })) e) ∙ f in cc) in absurd none

if_on : (b : Bool) (ready : List Ready) (s : Session) (t : Turn) (steps : List LinkStep) (r : Session × Turn) → is_read ready s ≡ b → Path (reading_if b s t) steps r → After s steps r.0
if_on true ready s t steps r e h handed bytes k = upto_on 16 s t steps r (open_of ready s s.life refl e) h handed bytes k
if_on false ready s t steps r e h handed bytes k = nothing_came handed bytes s.id steps r.0 (ap (λ (l : List LinkStep). bytes_read s.id l) h.1) (subst (λ (y : Session). HoldsLines handed bytes y) (sym (ap (λ (x : Session × Turn). x.0) h.0)) k)

pub closing_id : (l : Life) (s : Session) (t : Turn) (steps : List LinkStep) (r : Session × Turn) → Path (closing_by l s t) steps r → r.0.id ≡ s.id
closing_id life.Open s t steps r h = ap (λ (x : Session × Turn). x.0.id) h.0
closing_id (life.Closed w) s t steps r h = ap (λ (x : Session × Turn). x.0.id) h.0
closing_id (life.Doomed w) s t steps r h = ap (λ (x : Session × Turn). x.0.id) h.2.0

pub one_on : (ready : List Ready) (s : Session) (t : Turn) (steps : List LinkStep) (r : Session × Turn) → Path (reading_one ready s t) steps r → (handed : List (List ℕ)) (bytes : List ℕ) → HoldsLines handed bytes s → HoldsLines handed (bytes ++ bytes_read s.id steps) r.0
unfolding reading_one closing_doomed
one_on ready s t steps r h handed bytes k =
    let p = path_split (closing_doomed s t) (λ (q : Session × Turn). reading_if (is_read ready q.0) q.0 q.1) steps r h in
    let mid : HoldsLines handed bytes p.value.0 = closing_lines s.life handed bytes s t p.front p.value refl p.first k in
    let end : HoldsLines handed (bytes ++ bytes_read p.value.0.id p.rest) r.0 = if_on (is_read ready p.value.0) ready p.value.0 p.value.1 p.rest r refl p.second handed bytes mid in
    let id : p.value.0.id ≡ s.id = closing_id s.life s t p.front p.value p.first in
    let none : bytes_read s.id p.front ≡ [] = doomed_reads s.id s.life s t p.front p.value p.first in
    let same : bytes_read p.value.0.id p.rest ≡ bytes_read s.id steps =
    ap (λ (i : LinkId). bytes_read i p.rest) id ∙ sym (ap (λ (l : List LinkStep). bytes_read s.id l) p.whole ∙ read-append s.id p.front p.rest ∙ ap (λ (l : List ℕ). l ++ bytes_read s.id p.rest) none) in
    subst (λ (l : List ℕ). HoldsLines handed (bytes ++ l) r.0) same end
