-- The accounts of all sessions.
use Rattle.std.proofs.Common.{◌≡◌, ℕ, Bool, false, nat_eq, List, [], ◌∷◌, ◌++◌, sym, ap, ◌∙◌, subst, append_assoc, arith}
use Rattle.std.proofs.lemmas.List.{append-nil}
use Rattle.std.proofs.lemmas.Bool.Decides.{nat_tests}
use Rattle.ug_links.specs.declared.waiter.LinkId.{LinkId}
use Rattle.ug_types.specs.Principals.{Named}
use Rattle.ug_types.specs.declared.access.Section.{Section}
use Rattle.ug_links.specs.declared.step.LinkStep.{LinkStep}
use Rattle.ug_links.specs.Talk.{Path, walk}
use Rattle.ug_links.proofs.Paths.{path_split}
use Rattle.ug_sessions.specs.declared.session.Session.{Session}
use Rattle.ug_sessions.specs.declared.session.Turn.{Turn}
use Rattle.ug_sessions.specs.Sending.{flushing_one}
use Rattle.ug_sessions.specs.Due.{Accounts, AllAccounts, IsNoneOf, HaveOwnIds, Said, said_all, nothing_due, sent_to}
use Rattle.ug_sessions.proofs.Sends.{sent-append, flush_keeps}
use Rattle.ug_sessions.proofs.Owning.{Who, who, OnlyTo, Owns, flush_owns}

pub turned_round : (a b : ℕ) → nat_eq a b ≡ false → nat_eq b a ≡ false
turned_round a b e = grind (arith, nat_tests)

-- a flush of sessions sends nothing to one that is none of them
none_sent : (id : LinkId) (done ss : List Session) (t : Turn) (steps : List LinkStep) (r : List Session × Turn) → IsNoneOf id ss → Path (walk flushing_one done ss t) steps r → sent_to id steps ≡ []
none_sent id done [] t steps r n h = ap (λ (l : List LinkStep). sent_to id l) h.1
none_sent id done (s ∷ ss) t steps r n h =
    let p = path_split (flushing_one s t) (λ (q : Session × Turn). walk flushing_one (done ++ q.0 ∷ []) ss q.1) steps r h in
    let o : Owns s p.front p.value.0 = flush_owns s t p.front p.value p.first in
    ap (λ (l : List LinkStep). sent_to id l) p.whole ∙ sent-append id p.front p.rest ∙ ap (λ (l : List ℕ). l ++ sent_to id p.rest) (o.only id n.0) ∙ none_sent id (done ++ p.value.0 ∷ []) ss p.value.1 p.rest r n.1 p.second

-- calls that send nothing to these sessions leave their accounts
others_keep : (holds : Section → Named → Bool) (before front : List LinkStep) (said : List Said) (s : Session) (ss : List Session) → OnlyTo s.id front → IsNoneOf s.id ss → AllAccounts holds before said ss → AllAccounts holds (before ++ front) said ss
others_keep holds before front said s [] o n h = tt
others_keep holds before front said s (x ∷ ss) o n h =
    let same : sent_to x.id before ≡ sent_to x.id (before ++ front) = sym (sent-append x.id before front ∙ ap (λ (l : List ℕ). sent_to x.id before ++ l) (o x.id (turned_round x.id.0 s.id.0 n.0)) ∙ append-nil (sent_to x.id before)) in
    (subst (λ (l : List ℕ). Accounts (said_all holds x.id x.principal nothing_due said) l x) same h.0, others_keep holds before front said s ss o n.1 h.1)

-- the sessions after a flush
pub record Flushed (holds : Section → Named → Bool) (before steps : List LinkStep) (said : List Said) (done : List Session) (r : List Session) : Type 0 where
  pub sessions : List Session
  pub whole : r ≡ done ++ sessions
  pub each : AllAccounts holds (before ++ steps) said sessions

pub flush_all_keeps : (holds : Section → Named → Bool) (before : List LinkStep) (said : List Said) (done ss : List Session) (t : Turn) (steps : List LinkStep) (r : List Session × Turn) → HaveOwnIds ss → AllAccounts holds before said ss → Path (walk flushing_one done ss t) steps r → Flushed holds before steps said done r.0
flush_all_keeps holds before said done [] t steps r d a h = record { sessions = []; whole = ap (λ (x : List Session × Turn). x.0) h.0 ∙ sym (append-nil done); each = tt }
flush_all_keeps holds before said done (s ∷ ss) t steps r d a h =
    let p = path_split (flushing_one s t) (λ (q : Session × Turn). walk flushing_one (done ++ q.0 ∷ []) ss q.1) steps r h in
    let o : Owns s p.front p.value.0 = flush_owns s t p.front p.value p.first in
    let due = λ (w : Who). said_all holds w.id w.principal nothing_due said in
    let own : Accounts (due (who s)) (sent_to s.id before ++ sent_to s.id p.front) p.value.0 = flush_keeps (due (who s)) (sent_to s.id before) s t p.front p.value p.first a.0 in
    let later : sent_to s.id p.rest ≡ [] = none_sent s.id (done ++ p.value.0 ∷ []) ss p.value.1 p.rest r d.0 p.second in
    let sent : sent_to s.id before ++ sent_to s.id p.front ≡ sent_to s.id (before ++ steps) =
    ap (λ (l : List ℕ). sent_to s.id before ++ l) (sym (ap (λ (l : List LinkStep). sent_to s.id l) p.whole ∙ sent-append s.id p.front p.rest ∙ ap (λ (l : List ℕ). sent_to s.id p.front ++ l) later ∙ append-nil (sent_to s.id p.front))) ∙ sym (sent-append s.id before steps) in
    let here : Accounts (due (who p.value.0)) (sent_to p.value.0.id (before ++ steps)) p.value.0 =
    subst (λ (w : Who). Accounts (due w) (sent_to w.id (before ++ steps)) p.value.0) (sym o.same) (subst (λ (l : List ℕ). Accounts (due (who s)) l p.value.0) sent own) in
    let rest = flush_all_keeps holds (before ++ p.front) said (done ++ p.value.0 ∷ []) ss p.value.1 p.rest r d.1 (others_keep holds before p.front said s ss o.only d.0 a.1) p.second in
    let calls : (before ++ p.front) ++ p.rest ≡ before ++ steps = append_assoc before p.front p.rest ∙ ap (λ (l : List LinkStep). before ++ l) (sym p.whole) in
    record {
      sessions = p.value.0 ∷ rest.sessions;
      whole = rest.whole ∙ append_assoc done (p.value.0 ∷ []) rest.sessions;
      each = (here, subst (λ (l : List LinkStep). AllAccounts holds l said rest.sessions) calls rest.each);
    }

pub flushing_keeps : (holds : Section → Named → Bool) (before : List LinkStep) (said : List Said) (ss : List Session) (t : Turn) (steps : List LinkStep) (r : List Session × Turn) → HaveOwnIds ss → AllAccounts holds before said ss → Path (walk flushing_one [] ss t) steps r → AllAccounts holds (before ++ steps) said r.0
flushing_keeps holds before said ss t steps r d a h =
    let k = flush_all_keeps holds before said [] ss t steps r d a h in
    subst (λ (l : List Session). AllAccounts holds (before ++ steps) said l) (sym k.whole) k.each
