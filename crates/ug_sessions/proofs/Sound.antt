-- Reads and writes keep accounts and lines of all sessions.
use Rattle.std.proofs.Common.{◌≡◌, ℕ, zero, suc, ◌<◌, ◌≤◌, Bool, true, false, cond, nat_eq, filter, length, List, [], ◌∷◌, ◌++◌, sym, ap, ◌∙◌, subst, append_assoc, arith}
use Rattle.std.proofs.lemmas.List.{append-nil}
use Rattle.ug_types.specs.Principals.{Named}
use Rattle.ug_types.specs.declared.access.Section.{Section}
use Rattle.ug_links.specs.declared.waiter.LinkId.{LinkId}
use Rattle.ug_links.specs.declared.waiter.Ready.{Ready}
use Rattle.ug_links.specs.declared.links.LinkWrote.{LinkWrote}
use Rattle.ug_links.specs.declared.links.LinkWrote.TheVariants as wrote
use Rattle.ug_links.specs.declared.step.LinkStep.{LinkStep}
use Rattle.ug_links.specs.declared.step.LinkStep.TheVariants.{Listened, AcceptedAt, ReadFrom, WroteTo, Closed}
use Rattle.ug_links.specs.Steps.{ids_end}
use Rattle.ug_links.specs.Talk.{Talk, Return, Path, walk, upto}
use Rattle.ug_links.proofs.Paths.{path_split}
use Rattle.ug_sessions.specs.declared.session.Session.{Session}
use Rattle.ug_sessions.specs.declared.session.Turn.{Turn}
use Rattle.ug_sessions.specs.declared.session.Life.{Life}
use Rattle.ug_sessions.specs.declared.session.Life.TheVariants as life
use Rattle.ug_sessions.specs.Answering.{Each}
use Rattle.ug_sessions.specs.Reading.{reading_one, closing_by, closing_doomed}
use Rattle.ug_sessions.specs.Sending.{writing_some, writing_if, after_writing, is_served, finishing, finish_sent, finish_open, finish_refused, finish_ended, sending_if, flushing_one}
use Rattle.ug_sessions.specs.Sessions.{is_open_session}
use Rattle.ug_sessions.specs.Due.{AllAccounts, IsNoneOf, HaveOwnIds, Said}
use Rattle.ug_sessions.specs.Known.{AreKnown, AreCallsBelow, AreSound}
use Rattle.ug_sessions.specs.Tried.{AllRead}
use Rattle.ug_sessions.proofs.Owning.{Who, flush_owns}
use Rattle.ug_sessions.proofs.Tried.{One, one_steps}
use Rattle.ug_sessions.proofs.ReadKeeps.{one_stays, reading_keeps}
use Rattle.ug_sessions.proofs.LinesRead.{closing_id}
use Rattle.ug_sessions.proofs.Lists.{flushing_keeps}
use Rattle.ug_sessions.specs.Handed.{AllLines}
use Rattle.ug_sessions.proofs.TooLong.{all_still}
use Rattle.ug_sessions.proofs.LinesOfAll.{reading_lines, flushing_lines}
use Rattle.ug_sessions.proofs.Accepted.{ids_behind, known_more, said_more, handed_more, calls_more}

-- the sessions have the same ids, in the same order
abbrev pub SameIds : List Session → List Session → Type 0
SameIds ss ts = Each (λ (s t : Session). t.id ≡ s.id) ss ts

pub none_same : (id : LinkId) (ss ts : List Session) → SameIds ss ts → IsNoneOf id ss → IsNoneOf id ts
none_same id [] [] e n = tt
none_same id [] (t ∷ ts) e n = absurd e
none_same id (s ∷ ss) [] e n = absurd e
none_same id (s ∷ ss) (t ∷ ts) e n = (ap (λ (i : LinkId). nat_eq i.0 id.0) e.0 ∙ n.0, none_same id ss ts e.1 n.1)

pub distinct_same : (ss ts : List Session) → SameIds ss ts → HaveOwnIds ss → HaveOwnIds ts
distinct_same [] [] e d = tt
distinct_same [] (t ∷ ts) e d = absurd e
distinct_same (s ∷ ss) [] e d = absurd e
distinct_same (s ∷ ss) (t ∷ ts) e d = (subst (λ (i : LinkId). IsNoneOf i ts) (sym e.0) (none_same s.id ss ts e.1 d.0), distinct_same ss ts e.1 d.1)

pub known_same : (n : ℕ) (ss ts : List Session) → SameIds ss ts → AreKnown n ss → AreKnown n ts
known_same n [] [] e k = tt
known_same n [] (t ∷ ts) e k = absurd e
known_same n (s ∷ ss) [] e k = absurd e
known_same n (s ∷ ss) (t ∷ ts) e k = (subst (λ (i : LinkId). i.0 < n) (sym e.0) k.0, known_same n ss ts e.1 k.1)

calls_append : (n : ℕ) (a b : List LinkStep) → AreCallsBelow n a → AreCallsBelow n b → AreCallsBelow n (a ++ b)
calls_append n [] b h k = k
calls_append n (x ∷ a) b h k = (h.0, calls_append n a b h.1 k)

calls_none : (n : ℕ) (steps : List LinkStep) → steps ≡ [] → AreCallsBelow n steps
calls_none n steps e = subst (λ (l : List LinkStep). AreCallsBelow n l) (sym e) tt

calls_closed : (n : ℕ) (id : LinkId) (steps rest : List LinkStep) → steps ≡ Closed id ∷ rest → rest ≡ [] → AreCallsBelow n steps
calls_closed n id steps rest e f = subst (λ (l : List LinkStep). AreCallsBelow n l) (sym e) (tt, calls_none n rest f)

-- a walk that keeps each id, and makes calls of known sessions alone
module _ (f : Session → Turn → Talk (Session × Turn)) (same : (s : Session) (t : Turn) (steps : List LinkStep) (r : Session × Turn) → Path (f s t) steps r → r.0.id ≡ s.id) (own : (n : ℕ) (s : Session) (t : Turn) (steps : List LinkStep) (r : Session × Turn) → s.id.0 < n → Path (f s t) steps r → AreCallsBelow n steps) where
  walk_ids : (done ss : List Session) (t : Turn) (steps : List LinkStep) (r : List Session × Turn) → Path (walk f done ss t) steps r → (ts : List Session) × (r.0 ≡ done ++ ts) × SameIds ss ts
  walk_ids done [] t steps r h = ([], ap (λ (x : List Session × Turn). x.0) h.0 ∙ sym (append-nil done), tt)
  walk_ids done (s ∷ ss) t steps r h =
      let p = path_split (f s t) (λ (q : Session × Turn). walk f (done ++ q.0 ∷ []) ss q.1) steps r h in
      let k = walk_ids (done ++ p.value.0 ∷ []) ss p.value.1 p.rest r p.second in
      (p.value.0 ∷ k.0, k.1 ∙ append_assoc done (p.value.0 ∷ []) k.0, (same s t p.front p.value p.first, k.2))

  ids_walk : (ss : List Session) (t : Turn) (steps : List LinkStep) (r : List Session × Turn) → Path (walk f [] ss t) steps r → SameIds ss r.0
  ids_walk ss t steps r h = let k = walk_ids [] ss t steps r h in subst (λ (l : List Session). SameIds ss l) (sym k.1) k.2

  calls_walk : (n : ℕ) (done ss : List Session) (t : Turn) (steps : List LinkStep) (r : List Session × Turn) → AreKnown n ss → Path (walk f done ss t) steps r → AreCallsBelow n steps
  calls_walk n done [] t steps r k h = calls_none n steps h.1
  calls_walk n done (s ∷ ss) t steps r k h =
      let p = path_split (f s t) (λ (q : Session × Turn). walk f (done ++ q.0 ∷ []) ss q.1) steps r h in
      subst (λ (l : List LinkStep). AreCallsBelow n l) (sym p.whole) (calls_append n p.front p.rest (own n s t p.front p.value k.0 p.first) (calls_walk n (done ++ p.value.0 ∷ []) ss p.value.1 p.rest r k.1 p.second))

  walk_sound : (holds : Section → Named → Bool) (before : List LinkStep) (said : List Said) (handed : List (LinkId × List ℕ)) (ss : List Session) (t : Turn) (steps : List LinkStep) (r : List Session × Turn) → Path (walk f [] ss t) steps r → AllAccounts holds (before ++ steps) said r.0 → AllLines (before ++ steps) handed r.0 → AreSound holds before said handed ss → AreSound holds (before ++ steps) said handed r.0
  walk_sound holds before said handed ss t steps r h a l k =
      let ends = ids_behind before steps in
      let n : ℕ = ids_end before in
      let m : ℕ = ids_end (before ++ steps) in
      let le : ids_end before ≤ ids_end (before ++ steps) = omega (arith, ends) in
      let ids = ids_walk ss t steps r h in
      record {
        accounts = a;
        lines = l;
        handed_known = handed_more n m handed le k.handed_known;
        distinct = distinct_same ss r.0 ids k.distinct;
        known = known_more n m r.0 le (known_same n ss r.0 ids k.known);
        said_known = said_more n m said le k.said_known;
        calls_known = calls_more n m (before ++ steps) le (calls_append n before steps k.calls_known (calls_walk n [] ss t steps r k.known h));
        too_long = all_still before steps said k.too_long;
      }

read_calls : (n : ℕ) (ready : List Ready) (s : Session) (steps : List LinkStep) → s.id.0 < n → AllRead (One ready s) steps → AreCallsBelow n steps
read_calls n ready s [] lt h = tt
read_calls n ready s (ReadFrom id room answer ∷ steps) lt h = (subst (λ (i : LinkId). i.0 < n) h.0.0 lt, read_calls n ready s steps lt h.1)
read_calls n ready s (Closed id ∷ steps) lt h = (tt, read_calls n ready s steps lt h.1)
read_calls n ready s (AcceptedAt listener answer ∷ steps) lt h = absurd h.0
read_calls n ready s (WroteTo id bytes answer ∷ steps) lt h = absurd h.0
read_calls n ready s (Listened principal answer ∷ steps) lt h = absurd h.0

reading_calls : (ready : List Ready) (n : ℕ) (s : Session) (t : Turn) (steps : List LinkStep) (r : Session × Turn) → s.id.0 < n → Path (reading_one ready s t) steps r → AreCallsBelow n steps
reading_calls ready n s t steps r lt h = read_calls n ready s steps lt (one_steps ready s t steps r h)

pub reading_sound : (holds : Section → Named → Bool) (before : List LinkStep) (said : List Said) (handed : List (LinkId × List ℕ)) (ready : List Ready) (ss : List Session) (t : Turn) (steps : List LinkStep) (r : List Session × Turn) → Path (walk (reading_one ready) [] ss t) steps r → AreSound holds before said handed ss → AreSound holds (before ++ steps) said handed r.0
reading_sound holds before said handed ready ss t steps r h k =
    walk_sound (reading_one ready) (λ s t steps r h. ap (λ (w : Who). w.id) (one_stays ready s t steps r h).same) (reading_calls ready) holds before said handed ss t steps r h (reading_keeps holds before said ready ss t steps r k.accounts h) (reading_lines ready handed before ss t steps r k.distinct k.lines h) k

-- the calls of a flush of one session are its own
write_calls : (n : ℕ) (s : Session) (t : Turn) (a : LinkWrote) (rest : List LinkStep) (r : Bool × (Session × Turn)) → Path (after_writing s t a) rest r → AreCallsBelow n rest
write_calls n s t (wrote.Sent k) rest r h = calls_none n rest h.1
write_calls n s t wrote.NotYet rest r h = calls_none n rest h.1
write_calls n s t wrote.Failed rest r h = calls_closed n s.id rest h.0 h.1 h.2.1

write_id : (s : Session) (t : Turn) (a : LinkWrote) (rest : List LinkStep) (r : Bool × (Session × Turn)) → Path (after_writing s t a) rest r → r.1.0.id ≡ s.id
write_id s t (wrote.Sent k) rest r h = ap (λ (x : Bool × (Session × Turn)). x.1.0.id) h.0
write_id s t wrote.NotYet rest r h = ap (λ (x : Bool × (Session × Turn)). x.1.0.id) h.0
write_id s t wrote.Failed rest r h = ap (λ (x : Bool × (Session × Turn)). x.1.0.id) h.2.0

-- calls of one session, which keeps its id
record Calls (n : ℕ) (s : Session) (steps : List LinkStep) (r : Session) : Type 0 where
  own : AreCallsBelow n steps
  same : r.id ≡ s.id

writing_calls : (b : Bool) (n : ℕ) (s : Session) (t : Turn) (steps : List LinkStep) (r : Bool × (Session × Turn)) → s.id.0 < n → Path (writing_if b s t) steps r → Calls n s steps r.1.0
writing_calls true n s t steps r lt h = record { own = calls_none n steps h.1; same = ap (λ (x : Bool × (Session × Turn)). x.1.0.id) h.0 }
writing_calls false n s t steps r lt h = record { own = subst (λ (l : List LinkStep). AreCallsBelow n l) (sym h.2) (lt, write_calls n s t h.0 h.1 r h.3); same = write_id s t h.0 h.1 r h.3 }

some_calls : (n : ℕ) (s : Session) (t : Turn) (steps : List LinkStep) (r : Bool × (Session × Turn)) → s.id.0 < n → Path (writing_some (s, t)) steps r → Calls n s steps r.1.0
unfolding writing_some
some_calls n s t steps r lt h = writing_calls (nat_eq (length s.unsent) 0) n s t steps r lt h

upto_calls : (k n : ℕ) (s : Session) (t : Turn) (steps : List LinkStep) (r : Session × Turn) → s.id.0 < n → Path (upto writing_some k (s, t)) steps r → AreCallsBelow n steps
unfolding upto
upto_calls zero n s t steps r lt h = calls_none n steps h.1
upto_calls (suc k) n s t steps r lt h =
    let p = path_split (writing_some (s, t)) (λ (q : Bool × (Session × Turn)). cond q.0 (upto writing_some k q.1) (Return q.1)) steps r h in
    let first : Calls n s p.front p.value.1.0 = some_calls n s t p.front p.value lt p.first in
    let T : Bool → Type 0 = λ v. Path (cond v (upto writing_some k p.value.1) (Return p.value.1)) p.rest r → AreCallsBelow n p.rest in
    let f : (v : Bool) → T v = λ v. elim v as T [ true ↦ λ q. upto_calls k n p.value.1.0 p.value.1.1 p.rest r (subst (λ (i : LinkId). i.0 < n) (sym first.same) lt) q | false ↦ λ q. calls_none n p.rest q.1 ] in
    subst (λ (l : List LinkStep). AreCallsBelow n l) (sym p.whole) (calls_append n p.front p.rest first.own (f p.value.0 p.second))

ended_calls : (b : Bool) (n : ℕ) (s : Session) (t : Turn) (steps : List LinkStep) (r : Session × Turn) → Path (finish_ended b s t) steps r → AreCallsBelow n steps
ended_calls true n s t steps r h = calls_closed n s.id steps h.0 h.1 h.2.1
ended_calls false n s t steps r h = calls_none n steps h.1

refused_calls : (b : Bool) (n : ℕ) (s : Session) (t : Turn) (steps : List LinkStep) (r : Session × Turn) → Path (finish_refused b s t) steps r → AreCallsBelow n steps
refused_calls true n s t steps r h = calls_closed n s.id steps h.0 h.1 h.2.1
refused_calls false n s t steps r h = ended_calls (is_served s) n s t steps r h

open_calls : (b : Bool) (n : ℕ) (s : Session) (t : Turn) (steps : List LinkStep) (r : Session × Turn) → Path (finish_open b s t) steps r → AreCallsBelow n steps
open_calls true n s t steps r h = refused_calls s.refused n s t steps r h
open_calls false n s t steps r h = calls_none n steps h.1

sent_calls : (b : Bool) (n : ℕ) (s : Session) (t : Turn) (steps : List LinkStep) (r : Session × Turn) → Path (finish_sent b s t) steps r → AreCallsBelow n steps
sent_calls true n s t steps r h = open_calls (is_open_session s) n s t steps r h
sent_calls false n s t steps r h = calls_none n steps h.1

finish_calls : (n : ℕ) (s : Session) (t : Turn) (steps : List LinkStep) (r : Session × Turn) → Path (finishing s t) steps r → AreCallsBelow n steps
unfolding finishing
finish_calls n s t steps r h = sent_calls (nat_eq (length s.unsent) 0) n s t steps r h

closing_calls : (l : Life) (n : ℕ) (s : Session) (t : Turn) (steps : List LinkStep) (r : Session × Turn) → Path (closing_by l s t) steps r → AreCallsBelow n steps
closing_calls life.Open n s t steps r h = calls_none n steps h.1
closing_calls (life.Closed w) n s t steps r h = calls_none n steps h.1
closing_calls (life.Doomed w) n s t steps r h = calls_closed n s.id steps h.0 h.1 h.2.1

sending_calls : (b : Bool) (n : ℕ) (s : Session) (t : Turn) (steps : List LinkStep) (r : Session × Turn) → s.id.0 < n → Path (sending_if b s t) steps r → AreCallsBelow n steps
sending_calls true n s t steps r lt h =
    let p = path_split (upto writing_some (length s.unsent) (s, t)) (λ (q : Session × Turn). finishing q.0 q.1) steps r h in
    subst (λ (l : List LinkStep). AreCallsBelow n l) (sym p.whole) (calls_append n p.front p.rest (upto_calls (length s.unsent) n s t p.front p.value lt p.first) (finish_calls n p.value.0 p.value.1 p.rest r p.second))
sending_calls false n s t steps r lt h = calls_none n steps h.1

flush_calls : (n : ℕ) (s : Session) (t : Turn) (steps : List LinkStep) (r : Session × Turn) → s.id.0 < n → Path (flushing_one s t) steps r → AreCallsBelow n steps
unfolding flushing_one closing_doomed
flush_calls n s t steps r lt h =
    let p = path_split (closing_doomed s t) (λ (q : Session × Turn). sending_if (is_open_session q.0) q.0 q.1) steps r h in
    let id : p.value.0.id ≡ s.id = closing_id s.life s t p.front p.value p.first in
    subst (λ (l : List LinkStep). AreCallsBelow n l) (sym p.whole) (calls_append n p.front p.rest (closing_calls s.life n s t p.front p.value p.first) (sending_calls (is_open_session p.value.0) n p.value.0 p.value.1 p.rest r (subst (λ (i : LinkId). i.0 < n) (sym id) lt) p.second))

pub flushing_sound : (holds : Section → Named → Bool) (before : List LinkStep) (said : List Said) (handed : List (LinkId × List ℕ)) (ss : List Session) (t : Turn) (steps : List LinkStep) (r : List Session × Turn) → Path (walk flushing_one [] ss t) steps r → AreSound holds before said handed ss → AreSound holds (before ++ steps) said handed r.0
flushing_sound holds before said handed ss t steps r h k =
    walk_sound flushing_one (λ s t steps r h. ap (λ (w : Who). w.id) (flush_owns s t steps r h).same) flush_calls holds before said handed ss t steps r h (flushing_keeps holds before said ss t steps r k.distinct k.accounts h) (flushing_lines handed before ss t steps r k.distinct k.lines h) k

-- some of the sessions
module _ (keep : Session → Bool) where
  some_known : (n : ℕ) (ss : List Session) → AreKnown n ss → AreKnown n (filter keep ss)
  some_known n [] k = tt
  some_known n (s ∷ ss) k =
      let T : Bool → Type 0 = λ v. AreKnown n (cond v (s ∷ filter keep ss) (filter keep ss)) in
      let f : (v : Bool) → T v = λ v. elim v as T [ true ↦ (k.0, some_known n ss k.1) | false ↦ some_known n ss k.1 ] in
      f (keep s)

  some_none : (id : LinkId) (ss : List Session) → IsNoneOf id ss → IsNoneOf id (filter keep ss)
  some_none id [] n = tt
  some_none id (s ∷ ss) n =
      let T : Bool → Type 0 = λ v. IsNoneOf id (cond v (s ∷ filter keep ss) (filter keep ss)) in
      let f : (v : Bool) → T v = λ v. elim v as T [ true ↦ (n.0, some_none id ss n.1) | false ↦ some_none id ss n.1 ] in
      f (keep s)

  some_distinct : (ss : List Session) → HaveOwnIds ss → HaveOwnIds (filter keep ss)
  some_distinct [] d = tt
  some_distinct (s ∷ ss) d =
      let T : Bool → Type 0 = λ v. HaveOwnIds (cond v (s ∷ filter keep ss) (filter keep ss)) in
      let f : (v : Bool) → T v = λ v. elim v as T [ true ↦ (some_none s.id ss d.0, some_distinct ss d.1) | false ↦ some_distinct ss d.1 ] in
      f (keep s)

  some_accounts : (holds : Section → Named → Bool) (steps : List LinkStep) (said : List Said) (ss : List Session) → AllAccounts holds steps said ss → AllAccounts holds steps said (filter keep ss)
  some_accounts holds steps said [] a = tt
  some_accounts holds steps said (s ∷ ss) a =
      let T : Bool → Type 0 = λ v. AllAccounts holds steps said (cond v (s ∷ filter keep ss) (filter keep ss)) in
      let f : (v : Bool) → T v = λ v. elim v as T [ true ↦ (a.0, some_accounts holds steps said ss a.1) | false ↦ some_accounts holds steps said ss a.1 ] in
      f (keep s)

  some_lines : (steps : List LinkStep) (handed : List (LinkId × List ℕ)) (ss : List Session) → AllLines steps handed ss → AllLines steps handed (filter keep ss)
  some_lines steps handed [] a = tt
  some_lines steps handed (s ∷ ss) a =
      let T : Bool → Type 0 = λ v. AllLines steps handed (cond v (s ∷ filter keep ss) (filter keep ss)) in
      let f : (v : Bool) → T v = λ v. elim v as T [ true ↦ (a.0, some_lines steps handed ss a.1) | false ↦ some_lines steps handed ss a.1 ] in
      f (keep s)

  pub some_sound : (holds : Section → Named → Bool) (steps : List LinkStep) (said : List Said) (handed : List (LinkId × List ℕ)) (ss : List Session) → AreSound holds steps said handed ss → AreSound holds steps said handed (filter keep ss)
  some_sound holds steps said handed ss k = record {
    lines = some_lines steps handed ss k.lines;
    handed_known = k.handed_known;
    accounts = some_accounts holds steps said ss k.accounts;
    distinct = some_distinct ss k.distinct;
    known = some_known (ids_end steps) ss k.known;
    said_known = k.said_known;
    calls_known = k.calls_known;
    too_long = k.too_long;
  }
