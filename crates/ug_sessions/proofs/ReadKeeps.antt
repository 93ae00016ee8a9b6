-- A read keeps the accounts: nothing is sent, and a closing keeps a front.
use Rattle.std.proofs.Common.{◌≡◌, ℕ, zero, suc, Bool, true, false, cond, List, [], ◌∷◌, ◌++◌, refl, sym, ap, ◌∙◌, subst, append_assoc}
use Rattle.std.proofs.lemmas.List.{append-nil}
use Rattle.ug_links.specs.declared.waiter.LinkId.{LinkId}
use Rattle.ug_types.specs.Principals.{Named}
use Rattle.ug_types.specs.declared.access.Section.{Section}
use Rattle.ug_links.specs.declared.waiter.Ready.{Ready}
use Rattle.ug_links.specs.declared.step.LinkStep.{LinkStep}
use Rattle.ug_links.specs.declared.step.LinkStep.TheVariants.{Listened, AcceptedAt, ReadFrom, WroteTo, Closed}
use Rattle.ug_links.specs.declared.step.Reading.{Reading}
use Rattle.ug_links.specs.declared.step.Reading.TheVariants.{Bytes, NotYet, End, Failed}
use Rattle.ug_links.specs.Talk.{Return, Path, walk, upto}
use Rattle.ug_links.proofs.Paths.{path_split}
use Rattle.ug_sessions.specs.declared.session.Session.{Session}
use Rattle.ug_sessions.specs.declared.session.Turn.{Turn}
use Rattle.ug_sessions.specs.declared.session.Life.{Life}
use Rattle.ug_sessions.specs.declared.session.Life.TheVariants as life
use Rattle.ug_sessions.specs.Tokens.{is_read}
use Rattle.ug_sessions.specs.Reading.{after_feed, after_read_answer, reading_piece, closing_doomed, reading_if, reading_one}
use Rattle.ug_sessions.specs.Tried.{IsOneRead, AllRead}
use Rattle.ug_sessions.specs.Due.{Dues, Accounts, AccountsBy, AllAccounts, Said, said_all, nothing_due, sent_to}
use Rattle.ug_sessions.proofs.Sends.{sent-append, Rests, doomed_rests, any_front, kept_by_rest}
use Rattle.ug_sessions.proofs.Owning.{Who, who, who_rests}
use Rattle.ug_sessions.proofs.Tried.{walk_steps}

-- a session stays who it is, and its account is kept
pub record Stays (s r : Session) : Type 0 where
  pub same : who r ≡ who s
  pub keeps : (a : Dues) (sent : List ℕ) → Accounts a sent s → Accounts a sent r

stays_then : (s m r : Session) → Stays s m → Stays m r → Stays s r
stays_then s m r h k = record { same = k.same ∙ h.same; keeps = λ a sent x. k.keeps a sent (h.keeps a sent x) }

stays_as : (s r x : Session) → r ≡ x → Stays s x → Stays s r
stays_as s r x e h = subst (λ (y : Session). Stays s y) (sym e) h

-- text and marks are as they were
abbrev Untouched : Session → Session → Type 0
Untouched s r = (r.unsent ≡ s.unsent) × (r.watch ≡ s.watch) × (r.refused ≡ s.refused)

untouched : (l : Life) (a : Dues) (sent : List ℕ) (s r : Session) → Untouched s r → AccountsBy l a sent s → AccountsBy l a sent r
untouched life.Open a sent s r u h = record { text = ap (λ (x : List ℕ). sent ++ x) u.0 ∙ h.text; watches = u.1 ∙ h.watches; over = u.2 ∙ h.over }
untouched (life.Doomed w) a sent s r u h = h
untouched (life.Closed w) a sent s r u h = h

fed_stays : (b : Bool) (s : Session) (t : Turn) (bytes : List ℕ) (steps : List LinkStep) (r : Bool × (Session × Turn)) → Path (after_feed s t bytes b) steps r → Stays s r.1.0
fed_stays true s t bytes steps r h = stays_as s r.1.0 _ (ap (λ (x : Bool × (Session × Turn)). x.1.0) h.0) (record { same = refl; keeps = λ a sent k. untouched s.life a sent s _ (refl, refl, refl) k })
fed_stays false s t bytes steps r h = stays_as s r.1.0 _ (ap (λ (x : Bool × (Session × Turn)). x.1.0) h.2.0) (record { same = refl; keeps = λ a sent k. any_front s.life a sent s k })

answer_stays : (a : Reading) (s : Session) (t : Turn) (steps : List LinkStep) (r : Bool × (Session × Turn)) → Path (after_read_answer s t a) steps r → Stays s r.1.0
answer_stays (Bytes bytes) s t steps r h = fed_stays h.0 s t bytes steps r h.1
answer_stays NotYet s t steps r h = stays_as s r.1.0 _ (ap (λ (x : Bool × (Session × Turn)). x.1.0) h.0) (record { same = refl; keeps = λ a sent k. untouched s.life a sent s _ (refl, refl, refl) k })
answer_stays End s t steps r h = stays_as s r.1.0 _ (ap (λ (x : Bool × (Session × Turn)). x.1.0) h.0) (record { same = refl; keeps = λ a sent k. untouched s.life a sent s _ (refl, refl, refl) k })
answer_stays Failed s t steps r h = stays_as s r.1.0 _ (ap (λ (x : Bool × (Session × Turn)). x.1.0) h.2.0) (record { same = refl; keeps = λ a sent k. any_front s.life a sent s k })

piece_stays : (s : Session) (t : Turn) (steps : List LinkStep) (r : Bool × (Session × Turn)) → Path (reading_piece (s, t)) steps r → Stays s r.1.0
unfolding reading_piece
piece_stays s t steps r h = answer_stays h.0 s t h.1 r h.3

as_was : (s r : Session) → r ≡ s → Stays s r
as_was s r e = stays_as s r s e (record { same = refl; keeps = λ a sent k. k })

upto_stays : (n : ℕ) (s : Session) (t : Turn) (steps : List LinkStep) (r : Session × Turn) → Path (upto reading_piece n (s, t)) steps r → Stays s r.0
unfolding upto
upto_stays zero s t steps r h = as_was s r.0 (ap (λ (x : Session × Turn). x.0) h.0)
upto_stays (suc n) s t steps r h =
    let k = path_split (reading_piece (s, t)) (λ (q : Bool × (Session × Turn)). cond q.0 (upto reading_piece n q.1) (Return q.1)) steps r h in
    let T : Bool → Type 0 = λ v. Path (cond v (upto reading_piece n k.value.1) (Return k.value.1)) k.rest r → Stays k.value.1.0 r.0 in
    let f : (v : Bool) → T v = λ v. elim v as T [
      | true ↦ λ p. upto_stays n k.value.1.0 k.value.1.1 k.rest r p
      | false ↦ λ p. as_was k.value.1.0 r.0 (ap (λ (x : Session × Turn). x.0) p.0)
    ] in
    stays_then s k.value.1.0 r.0 (piece_stays s t k.front k.value k.first) (f k.value.0 k.second)

if_stays : (b : Bool) (s : Session) (t : Turn) (steps : List LinkStep) (r : Session × Turn) → Path (reading_if b s t) steps r → Stays s r.0
if_stays true s t steps r h = upto_stays 16 s t steps r h
if_stays false s t steps r h = as_was s r.0 (ap (λ (x : Session × Turn). x.0) h.0)

pub one_stays : (ready : List Ready) (s : Session) (t : Turn) (steps : List LinkStep) (r : Session × Turn) → Path (reading_one ready s t) steps r → Stays s r.0
unfolding reading_one closing_doomed
one_stays ready s t steps r h =
    let p = path_split (closing_doomed s t) (λ (q : Session × Turn). reading_if (is_read ready q.0) q.0 q.1) steps r h in
    let e : Rests s p.front p.value.0 = doomed_rests s.life s t p.front p.value p.first in
    stays_then s p.value.0 r.0 (record { same = who_rests s p.value.0 e.is; keeps = λ a sent k. kept_by_rest a sent s p.value.0 e.is k }) (if_stays (is_read ready p.value.0) p.value.0 p.value.1 p.rest r p.second)

-- reads are no writes
none_written : (P : LinkId → Type 0) (id : LinkId) (steps : List LinkStep) → AllRead P steps → sent_to id steps ≡ []
none_written P id [] h = refl
none_written P id (ReadFrom other room answer ∷ steps) h = none_written P id steps h.1
none_written P id (Closed other ∷ steps) h = none_written P id steps h.1
none_written P id (AcceptedAt listener answer ∷ steps) h = absurd h.0
none_written P id (WroteTo other bytes answer ∷ steps) h = absurd h.0
none_written P id (Listened principal answer ∷ steps) h = absurd h.0

-- with the same calls before
record Kept (holds : Section → Named → Bool) (before : List LinkStep) (said : List Said) (done r : List Session) : Type 0 where
  sessions : List Session
  whole : r ≡ done ++ sessions
  each : AllAccounts holds before said sessions

walk_keeps : (holds : Section → Named → Bool) (before : List LinkStep) (said : List Said) (ready : List Ready) (done ss : List Session) (t : Turn) (steps : List LinkStep) (r : List Session × Turn) → AllAccounts holds before said ss → Path (walk (reading_one ready) done ss t) steps r → Kept holds before said done r.0
walk_keeps holds before said ready done [] t steps r a h = record { sessions = []; whole = ap (λ (x : List Session × Turn). x.0) h.0 ∙ sym (append-nil done); each = tt }
walk_keeps holds before said ready done (s ∷ ss) t steps r a h =
    let p = path_split (reading_one ready s t) (λ (q : Session × Turn). walk (reading_one ready) (done ++ q.0 ∷ []) ss q.1) steps r h in
    let o : Stays s p.value.0 = one_stays ready s t p.front p.value p.first in
    let due = λ (w : Who). said_all holds w.id w.principal nothing_due said in
    let own : Accounts (due (who s)) (sent_to s.id before) p.value.0 = o.keeps (due (who s)) (sent_to s.id before) a.0 in
    let rest = walk_keeps holds before said ready (done ++ p.value.0 ∷ []) ss p.value.1 p.rest r a.1 p.second in
    record {
      sessions = p.value.0 ∷ rest.sessions;
      whole = rest.whole ∙ append_assoc done (p.value.0 ∷ []) rest.sessions;
      each = (subst (λ (w : Who). Accounts (due w) (sent_to w.id before) p.value.0) (sym o.same) own, rest.each);
    }

later : (holds : Section → Named → Bool) (before steps : List LinkStep) (said : List Said) (P : LinkId → Type 0) (ss : List Session) → AllRead P steps → AllAccounts holds before said ss → AllAccounts holds (before ++ steps) said ss
later holds before steps said P [] h a = tt
later holds before steps said P (s ∷ ss) h a =
    let same : sent_to s.id before ≡ sent_to s.id (before ++ steps) = sym (sent-append s.id before steps ∙ ap (λ (l : List ℕ). sent_to s.id before ++ l) (none_written P s.id steps h) ∙ append-nil (sent_to s.id before)) in
    (subst (λ (l : List ℕ). Accounts (said_all holds s.id s.principal nothing_due said) l s) same a.0, later holds before steps said P ss h a.1)

pub reading_keeps : (holds : Section → Named → Bool) (before : List LinkStep) (said : List Said) (ready : List Ready) (ss : List Session) (t : Turn) (steps : List LinkStep) (r : List Session × Turn) → AllAccounts holds before said ss → Path (walk (reading_one ready) [] ss t) steps r → AllAccounts holds (before ++ steps) said r.0
reading_keeps holds before said ready ss t steps r a h =
    let k = walk_keeps holds before said ready [] ss t steps r a h in
    later holds before steps said (IsOneRead ready ss) r.0 (walk_steps ready [] ss t steps r h) (subst (λ (l : List Session). AllAccounts holds before said l) (sym k.whole) k.each)
