-- Accepting keeps accounts and lines of all sessions, and gives each new one an empty account and no line.
use Rattle.std.proofs.Common.{◌≡◌, ℕ, zero, suc, ◌<◌, ◌≤◌, max, Bool, true, false, cond, nat_eq, nat_lt, count_by, List, [], ◌∷◌, ◌++◌, take, refl, sym, ap, ◌∙◌, subst, append_assoc, arith}
use Rattle.std.proofs.lemmas.List.{append-nil}
use Rattle.std.proofs.lemmas.Bool.Decides.{nat_tests}
use Rattle.ug_types.specs.Principals.{Named}
use Rattle.ug_types.specs.declared.access.Section.{Section}
use Rattle.ug_links.specs.declared.waiter.LinkId.{LinkId}
use Rattle.ug_links.specs.declared.waiter.Ready.{Ready}
use Rattle.ug_links.specs.declared.links.Accepted.{Accepted}
use Rattle.ug_links.specs.declared.links.Accepted.TheVariants as accepted
use Rattle.ug_links.specs.declared.links.LinkWrote.TheVariants as wrote
use Rattle.ug_links.specs.declared.step.LinkStep.{LinkStep}
use Rattle.ug_links.specs.declared.step.LinkStep.TheVariants.{Listened, AcceptedAt, ReadFrom, WroteTo, Closed}
use Rattle.ug_links.specs.declared.step.Reading.TheVariants.{Bytes, NotYet, End, Failed}
use Rattle.ug_links.specs.Steps.{IsStep, ids_end}
use Rattle.ug_links.specs.Talk.{Return, Path, AreSteps, walk, upto}
use Rattle.ug_links.proofs.Paths.{path_split}
use Rattle.ug_sessions.specs.declared.session.Session.{Session}
use Rattle.ug_sessions.specs.declared.session.Listener.{Listener}
use Rattle.ug_sessions.specs.declared.session.Turn.{Turn}
use Rattle.ug_sessions.specs.Sessions.{new_session, is_open_session}
use Rattle.ug_sessions.specs.Accepting.{AtListener, after_room, after_count, after_accepting, accepting_once, accepting_if, accepting_one}
use Rattle.ug_sessions.specs.Due.{Dues, Accounts, AllAccounts, IsNoneOf, HaveOwnIds, Said, Answered, Watched, Noticed, Overlong, said_all, nothing_due, over_due, sent_to}
use Rattle.ug_sessions.specs.Known.{AreKnown, IsSaidBelow, AreSaidBelow, AreHandedBelow, IsCallBelow, AreCallsBelow, AreSound}
use Rattle.ug_sessions.specs.Handed.{bytes_read, lines_handed, AllLines, HoldsLines}
use Rattle.ug_sessions.proofs.LinesRead.{read-append}
use Rattle.ug_sessions.specs.Tried.{is_tried}
use Rattle.ug_sessions.proofs.Sends.{sent-append}
use Rattle.ug_sessions.proofs.TooLong.{all_still}

pub differs : (m n k : ℕ) → m < n → n ≤ k → nat_eq m k ≡ false
differs m n k a b = grind (arith, nat_tests)

differs_round : (m n k : ℕ) → m < n → n ≤ k → nat_eq k m ≡ false
differs_round m n k a b = grind (arith, nat_tests)

pub ids_behind : (a b : List LinkStep) → ids_end (a ++ b) ≡ max (ids_end a) (ids_end b)
ids_behind [] b = omega arith
ids_behind (x ∷ a) b = let e = ids_behind a b in omega (arith, e)

pub known_more : (n m : ℕ) (ss : List Session) → n ≤ m → AreKnown n ss → AreKnown m ss
known_more n m [] le h = tt
known_more n m (s ∷ ss) le h = let a : s.id.0 < n = h.0 in (omega (arith, a, le), known_more n m ss le h.1)

said_one_more : (n m : ℕ) (x : Said) → n ≤ m → IsSaidBelow n x → IsSaidBelow m x
said_one_more n m (Answered id text) le h = omega (arith, h, le)
said_one_more n m (Watched id) le h = omega (arith, h, le)
said_one_more n m (Noticed section text) le h = tt
said_one_more n m (Overlong id) le h = omega (arith, h, le)

pub said_more : (n m : ℕ) (said : List Said) → n ≤ m → AreSaidBelow n said → AreSaidBelow m said
said_more n m [] le h = tt
said_more n m (x ∷ said) le h = (said_one_more n m x le h.0, said_more n m said le h.1)

call_more : (n m : ℕ) (step : LinkStep) → n ≤ m → IsCallBelow n step → IsCallBelow m step
call_more n m (ReadFrom id room answer) le h = omega (arith, h, le)
call_more n m (WroteTo id bytes answer) le h = omega (arith, h, le)
call_more n m (Listened principal answer) le h = tt
call_more n m (AcceptedAt listener answer) le h = tt
call_more n m (Closed id) le h = tt

pub calls_more : (n m : ℕ) (steps : List LinkStep) → n ≤ m → AreCallsBelow n steps → AreCallsBelow m steps
calls_more n m [] le h = tt
calls_more n m (step ∷ steps) le h = (call_more n m step le h.0, calls_more n m steps le h.1)

calls_behind : (n : ℕ) (a : List LinkStep) (step : LinkStep) → AreCallsBelow n a → IsCallBelow n step → AreCallsBelow n (a ++ step ∷ [])
calls_behind n [] step h k = (k, tt)
calls_behind n (x ∷ a) step h k = (h.0, calls_behind n a step h.1 k)

-- nothing was said or sent to a session that is new
none_said : (holds : Section → Named → Bool) (n : ℕ) (id : LinkId) (p : Named) (said : List Said) → n ≤ id.0 → AreSaidBelow n said → said_all holds id p nothing_due said ≡ nothing_due
none_said holds n id p [] le h = refl
none_said holds n id p (Answered other text ∷ said) le h =
    ap (λ (v : Bool). said_all holds id p (cond v (record nothing_due { text = [] ++ text }) nothing_due) said) (differs_round other.0 n id.0 h.0 le) ∙ none_said holds n id p said le h.1
none_said holds n id p (Watched other ∷ said) le h =
    ap (λ (v : Bool). said_all holds id p (cond v (record nothing_due { watches = true }) nothing_due) said) (differs_round other.0 n id.0 h.0 le) ∙ none_said holds n id p said le h.1
none_said holds n id p (Noticed section text ∷ said) le h = none_said holds n id p said le h.1
none_said holds n id p (Overlong other ∷ said) le h =
    ap (λ (v : Bool). said_all holds id p (cond v (over_due nothing_due) nothing_due) said) (differs_round other.0 n id.0 h.0 le) ∙ none_said holds n id p said le h.1

none_sent : (n : ℕ) (id : LinkId) (steps : List LinkStep) → n ≤ id.0 → AreCallsBelow n steps → sent_to id steps ≡ []
none_sent n id [] le h = refl
none_sent n id (WroteTo other bytes (wrote.Sent k) ∷ steps) le h = ap (λ (v : Bool). cond v (take k bytes ++ sent_to id steps) (sent_to id steps)) (differs other.0 n id.0 h.0 le) ∙ none_sent n id steps le h.1
none_sent n id (WroteTo other bytes wrote.NotYet ∷ steps) le h = none_sent n id steps le h.1
none_sent n id (WroteTo other bytes wrote.Failed ∷ steps) le h = none_sent n id steps le h.1
none_sent n id (ReadFrom other room answer ∷ steps) le h = none_sent n id steps le h.1
none_sent n id (Listened principal answer ∷ steps) le h = none_sent n id steps le h.1
none_sent n id (AcceptedAt listener answer ∷ steps) le h = none_sent n id steps le h.1
none_sent n id (Closed other ∷ steps) le h = none_sent n id steps le h.1

pub handed_more : (n m : ℕ) (handed : List (LinkId × List ℕ)) → n ≤ m → AreHandedBelow n handed → AreHandedBelow m handed
handed_more n m [] le h = tt
handed_more n m (x ∷ handed) le h = let a : x.0.0 < n = h.0 in (omega (arith, a, le), handed_more n m handed le h.1)

none_handed : (n : ℕ) (id : LinkId) (handed : List (LinkId × List ℕ)) → n ≤ id.0 → AreHandedBelow n handed → lines_handed id handed ≡ []
none_handed n id [] le h = refl
none_handed n id (x ∷ handed) le h = ap (λ (v : Bool). cond v (x.1 ∷ lines_handed id handed) (lines_handed id handed)) (differs x.0.0 n id.0 h.0 le) ∙ none_handed n id handed le h.1

none_read : (n : ℕ) (id : LinkId) (steps : List LinkStep) → n ≤ id.0 → AreCallsBelow n steps → bytes_read id steps ≡ []
none_read n id [] le h = refl
none_read n id (ReadFrom other room (Bytes bytes) ∷ steps) le h = ap (λ (v : Bool). cond v (bytes ++ bytes_read id steps) (bytes_read id steps)) (differs other.0 n id.0 h.0 le) ∙ none_read n id steps le h.1
none_read n id (ReadFrom other room NotYet ∷ steps) le h = none_read n id steps le h.1
none_read n id (ReadFrom other room End ∷ steps) le h = none_read n id steps le h.1
none_read n id (ReadFrom other room Failed ∷ steps) le h = none_read n id steps le h.1
none_read n id (WroteTo other bytes answer ∷ steps) le h = none_read n id steps le h.1
none_read n id (Listened principal answer ∷ steps) le h = none_read n id steps le h.1
none_read n id (AcceptedAt listener answer ∷ steps) le h = none_read n id steps le h.1
none_read n id (Closed other ∷ steps) le h = none_read n id steps le h.1

-- a call that sends and reads nothing
abbrev IsQuiet : LinkStep → Type 0
IsQuiet (AcceptedAt listener answer) = Unit {0}
IsQuiet (Closed id) = Unit {0}
IsQuiet (ReadFrom id room answer) = ⊥
IsQuiet (WroteTo id bytes answer) = ⊥
IsQuiet (Listened principal answer) = ⊥

quiet_sends : (id : LinkId) (step : LinkStep) → IsQuiet step → sent_to id (step ∷ []) ≡ []
quiet_sends id (AcceptedAt listener answer) q = refl
quiet_sends id (Closed other) q = refl
quiet_sends id (ReadFrom other room answer) q = absurd q
quiet_sends id (WroteTo other bytes answer) q = absurd q
quiet_sends id (Listened principal answer) q = absurd q

quiet_reads : (id : LinkId) (step : LinkStep) → IsQuiet step → bytes_read id (step ∷ []) ≡ []
quiet_reads id (AcceptedAt listener answer) q = refl
quiet_reads id (Closed other) q = refl
quiet_reads id (ReadFrom other room answer) q = absurd q
quiet_reads id (WroteTo other bytes answer) q = absurd q
quiet_reads id (Listened principal answer) q = absurd q

quiet_call : (n : ℕ) (step : LinkStep) → IsQuiet step → IsCallBelow n step
quiet_call n (AcceptedAt listener answer) q = tt
quiet_call n (Closed other) q = tt
quiet_call n (ReadFrom other room answer) q = absurd q
quiet_call n (WroteTo other bytes answer) q = absurd q
quiet_call n (Listened principal answer) q = absurd q

none_of_more : (id : LinkId) (ss : List Session) (t : Session) → IsNoneOf id ss → nat_eq t.id.0 id.0 ≡ false → IsNoneOf id (ss ++ t ∷ [])
none_of_more id [] t n e = (e, tt)
none_of_more id (s ∷ ss) t n e = (n.0, none_of_more id ss t n.1 e)

distinct_more : (n : ℕ) (ss : List Session) (t : Session) → AreKnown n ss → n ≤ t.id.0 → HaveOwnIds ss → HaveOwnIds (ss ++ t ∷ [])
distinct_more n [] t k le d = (tt, tt)
distinct_more n (s ∷ ss) t k le d = (none_of_more s.id ss t d.0 (differs_round s.id.0 n t.id.0 k.0 le), distinct_more n ss t k.1 le d.1)

known_behind : (n : ℕ) (ss : List Session) (t : Session) → AreKnown n ss → t.id.0 < n → AreKnown n (ss ++ t ∷ [])
known_behind n [] t k lt = (lt, tt)
known_behind n (s ∷ ss) t k lt = (k.0, known_behind n ss t k.1 lt)

module _ (holds : Section → Named → Bool) (said : List Said) (handed : List (LinkId × List ℕ)) where
  accounts_quiet : (before : List LinkStep) (step : LinkStep) (ss : List Session) → IsQuiet step → AllAccounts holds before said ss → AllAccounts holds (before ++ step ∷ []) said ss
  accounts_quiet before step [] q h = tt
  accounts_quiet before step (s ∷ ss) q h =
      let same : sent_to s.id before ≡ sent_to s.id (before ++ step ∷ []) = sym (sent-append s.id before (step ∷ []) ∙ ap (λ (l : List ℕ). sent_to s.id before ++ l) (quiet_sends s.id step q) ∙ append-nil (sent_to s.id before)) in
      (subst (λ (l : List ℕ). Accounts (said_all holds s.id s.principal nothing_due said) l s) same h.0, accounts_quiet before step ss q h.1)

  lines_quiet : (before : List LinkStep) (step : LinkStep) (ss : List Session) → IsQuiet step → AllLines before handed ss → AllLines (before ++ step ∷ []) handed ss
  lines_quiet before step [] q h = tt
  lines_quiet before step (s ∷ ss) q h =
      let same : bytes_read s.id before ≡ bytes_read s.id (before ++ step ∷ []) = sym (read-append s.id before (step ∷ []) ∙ ap (λ (l : List ℕ). bytes_read s.id before ++ l) (quiet_reads s.id step q) ∙ append-nil (bytes_read s.id before)) in
      (subst (λ (l : List ℕ). HoldsLines (lines_handed s.id handed) l s) same h.0, lines_quiet before step ss q h.1)

  lines_behind : (steps : List LinkStep) (ss : List Session) (t : Session) → AllLines steps handed ss → HoldsLines (lines_handed t.id handed) (bytes_read t.id steps) t → AllLines steps handed (ss ++ t ∷ [])
  lines_behind steps [] t h k = (k, tt)
  lines_behind steps (s ∷ ss) t h k = (h.0, lines_behind steps ss t h.1 k)

  quiet_sound : (before : List LinkStep) (step : LinkStep) (ss : List Session) → IsQuiet step → AreSound holds before said handed ss → AreSound holds (before ++ step ∷ []) said handed ss
  quiet_sound before step ss q h =
      let ends = ids_behind before (step ∷ []) in
      let le : ids_end before ≤ ids_end (before ++ step ∷ []) = omega (arith, ends) in
      record {
        accounts = accounts_quiet before step ss q h.accounts;
        lines = lines_quiet before step ss q h.lines;
        handed_known = handed_more (ids_end before) (ids_end (before ++ step ∷ [])) handed le h.handed_known;
        distinct = h.distinct;
        known = known_more (ids_end before) (ids_end (before ++ step ∷ [])) ss le h.known;
        said_known = said_more (ids_end before) (ids_end (before ++ step ∷ [])) said le h.said_known;
        calls_known = calls_more (ids_end before) (ids_end (before ++ step ∷ [])) (before ++ step ∷ []) le (calls_behind (ids_end before) before step h.calls_known (quiet_call (ids_end before) step q));
        too_long = all_still before (step ∷ []) said h.too_long;
      }

  accounts_behind : (steps : List LinkStep) (ss : List Session) (t : Session) → AllAccounts holds steps said ss → Accounts (said_all holds t.id t.principal nothing_due said) (sent_to t.id steps) t → AllAccounts holds steps said (ss ++ t ∷ [])
  accounts_behind steps [] t h k = (k, tt)
  accounts_behind steps (s ∷ ss) t h k = (h.0, accounts_behind steps ss t h.1 k)

  -- a session that was accepted just now
  new_sound : (before : List LinkStep) (listener : ℕ) (id : LinkId) (p : Named) (ss : List Session) → ids_end before ≤ id.0 → AreSound holds before said handed ss → AreSound holds (before ++ AcceptedAt listener (accepted.Session id) ∷ []) said handed (ss ++ new_session id p ∷ [])
  new_sound before listener id p ss le h =
      let step : LinkStep = AcceptedAt listener (accepted.Session id) in
      let steps : List LinkStep = before ++ step ∷ [] in
      let k : AreSound holds steps said handed ss = quiet_sound before step ss tt h in
      let ends = ids_behind before (step ∷ []) in
      let lt : id.0 < ids_end steps = omega (arith, ends) in
      let none : sent_to id steps ≡ [] = none_sent (ids_end before) id steps le (calls_behind (ids_end before) before step h.calls_known tt) in
      let due : said_all holds id p nothing_due said ≡ nothing_due = none_said holds (ids_end before) id p said le h.said_known in
      let one : Accounts nothing_due [] (new_session id p) = record { text = refl; watches = refl; over = refl } in
      record {
        accounts = accounts_behind steps ss (new_session id p) k.accounts (subst (λ (a : Dues). Accounts a (sent_to id steps) (new_session id p)) (sym due) (subst (λ (l : List ℕ). Accounts nothing_due l (new_session id p)) (sym none) one));
        distinct = distinct_more (ids_end before) ss (new_session id p) h.known le h.distinct;
        known = known_behind (ids_end steps) ss (new_session id p) k.known lt;
        said_known = k.said_known;
        lines = lines_behind steps ss (new_session id p) k.lines (subst (λ (l : List (List ℕ)). HoldsLines l (bytes_read id steps) (new_session id p)) (sym (none_handed (ids_end before) id handed le h.handed_known)) (subst (λ (l : List ℕ). HoldsLines [] l (new_session id p)) (sym (none_read (ids_end before) id steps le (calls_behind (ids_end before) before step h.calls_known tt))) (record { lines = refl; begun = refl; limit = refl })));
        handed_known = k.handed_known;
        calls_known = k.calls_known;
        too_long = k.too_long;
      }

  abbrev Sound : List LinkStep → List Session → Type 0
  Sound steps ss = AreSound holds steps said handed ss

  closing_sound : (before : List LinkStep) (id : LinkId) (rest more : List LinkStep) (ss ts : List Session) → rest ≡ Closed id ∷ more → more ≡ [] → ts ≡ ss → Sound before ss → Sound (before ++ rest) ts
  closing_sound before id rest more ss ts e f g h =
      let whole : rest ≡ Closed id ∷ [] = e ∙ ap (λ (l : List LinkStep). Closed id ∷ l) f in
      subst (λ (l : List LinkStep). Sound (before ++ l) ts) (sym whole) (subst (λ (l : List Session). Sound (before ++ Closed id ∷ []) l) (sym g) (quiet_sound before (Closed id) ss tt h))

  ended_sound : (before rest : List LinkStep) (ss ts : List Session) → rest ≡ [] → ts ≡ ss → Sound before ss → Sound (before ++ rest) ts
  ended_sound before rest ss ts e g h = subst (λ (l : List LinkStep). Sound (before ++ l) ts) (sym e) (subst (λ (l : List LinkStep). Sound l ts) (sym (append-nil before)) (subst (λ (l : List Session). Sound before l) (sym g) h))

  room_sound : (b : Bool) (before : List LinkStep) (x : AtListener) (id : LinkId) (rest : List LinkStep) (r : Bool × AtListener) → ids_end before ≤ id.0 → Path (after_room x id b) rest r → Sound before x.1.0 → Sound ((before ++ AcceptedAt x.0.number (accepted.Session id) ∷ []) ++ rest) r.1.1.0
  room_sound true before x id rest r le h k = ended_sound (before ++ AcceptedAt x.0.number (accepted.Session id) ∷ []) rest (x.1.0 ++ new_session id x.0.principal ∷ []) r.1.1.0 h.1 (ap (λ (y : Bool × AtListener). y.1.1.0) h.0) (new_sound before x.0.number id x.0.principal x.1.0 le k)
  room_sound false before x id rest r le h k = closing_sound (before ++ AcceptedAt x.0.number (accepted.Session id) ∷ []) id rest h.0 x.1.0 r.1.1.0 h.1 h.2.1 (ap (λ (y : Bool × AtListener). y.1.1.0) h.2.0) (quiet_sound before (AcceptedAt x.0.number (accepted.Session id)) x.1.0 tt k)

  count_sound : (b : Bool) (before : List LinkStep) (x : AtListener) (id : LinkId) (rest : List LinkStep) (r : Bool × AtListener) → ids_end before ≤ id.0 → Path (after_count x id b) rest r → Sound before x.1.0 → Sound ((before ++ AcceptedAt x.0.number (accepted.Session id) ∷ []) ++ rest) r.1.1.0
  count_sound true before x id rest r le h k = room_sound h.0 before x id rest r le h.1 k
  count_sound false before x id rest r le h k = closing_sound (before ++ AcceptedAt x.0.number (accepted.Session id) ∷ []) id rest h.0 x.1.0 r.1.1.0 h.1 h.2.1 (ap (λ (y : Bool × AtListener). y.1.1.0) h.2.0) (quiet_sound before (AcceptedAt x.0.number (accepted.Session id)) x.1.0 tt k)

  answer_sound : (a : Accepted) (before : List LinkStep) (x : AtListener) (rest : List LinkStep) (r : Bool × AtListener) → IsStep before (AcceptedAt x.0.number a) → Path (after_accepting x a) rest r → Sound before x.1.0 → Sound ((before ++ AcceptedAt x.0.number a ∷ []) ++ rest) r.1.1.0
  answer_sound (accepted.Session id) before x rest r le h k = count_sound (nat_lt (count_by is_open_session x.1.0) 64) before x id rest r le h k
  answer_sound accepted.NotYet before x rest r le h k = ended_sound (before ++ AcceptedAt x.0.number accepted.NotYet ∷ []) rest x.1.0 r.1.1.0 h.1 (ap (λ (y : Bool × AtListener). y.1.1.0) h.0) (quiet_sound before (AcceptedAt x.0.number accepted.NotYet) x.1.0 tt k)
  answer_sound accepted.Failed before x rest r le h k = ended_sound (before ++ AcceptedAt x.0.number accepted.Failed ∷ []) rest x.1.0 r.1.1.0 h.1 (ap (λ (y : Bool × AtListener). y.1.1.0) h.0) (quiet_sound before (AcceptedAt x.0.number accepted.Failed) x.1.0 tt k)
  answer_sound accepted.Memory before x rest r le h k = ended_sound (before ++ AcceptedAt x.0.number accepted.Memory ∷ []) rest x.1.0 r.1.1.0 h.1 (ap (λ (y : Bool × AtListener). y.1.1.0) h.0) (quiet_sound before (AcceptedAt x.0.number accepted.Memory) x.1.0 tt k)

  once_sound : (before : List LinkStep) (x : AtListener) (steps : List LinkStep) (r : Bool × AtListener) → AreSteps before steps → Path (accepting_once x) steps r → Sound before x.1.0 → Sound (before ++ steps) r.1.1.0
  unfolding accepting_once
  once_sound before x steps r a h k =
      let step : LinkStep = AcceptedAt x.0.number h.0 in
      let may = subst (λ (l : List LinkStep). AreSteps before l) h.2 a in
      subst (λ (l : List LinkStep). Sound (before ++ l) r.1.1.0) (sym h.2)
      (subst (λ (l : List LinkStep). Sound l r.1.1.0) (append_assoc before (step ∷ []) h.1) (answer_sound h.0 before x h.1 r may.0 h.3 k))

  pub steps_split : (before a b : List LinkStep) → AreSteps before (a ++ b) → AreSteps before a × AreSteps (before ++ a) b
  steps_split before [] b h = (tt, subst (λ (l : List LinkStep). AreSteps l b) (sym (append-nil before)) h)
  steps_split before (x ∷ a) b h =
      let k = steps_split (before ++ x ∷ []) a b h.1 in
      ((h.0, k.0), subst (λ (l : List LinkStep). AreSteps l b) (append_assoc before (x ∷ []) a) k.1)

  upto_sound : (n : ℕ) (before : List LinkStep) (x : AtListener) (steps : List LinkStep) (r : AtListener) → AreSteps before steps → Path (upto accepting_once n x) steps r → Sound before x.1.0 → Sound (before ++ steps) r.1.0
  unfolding upto
  upto_sound zero before x steps r a h k = ended_sound before steps x.1.0 r.1.0 h.1 (ap (λ (y : AtListener). y.1.0) h.0) k
  upto_sound (suc n) before x steps r a h k =
      let p = path_split (accepting_once x) (λ (q : Bool × AtListener). cond q.0 (upto accepting_once n q.1) (Return q.1)) steps r h in
      let two = steps_split before p.front p.rest (subst (λ (l : List LinkStep). AreSteps before l) p.whole a) in
      let mid : Sound (before ++ p.front) p.value.1.1.0 = once_sound before x p.front p.value two.0 p.first k in
      let T : Bool → Type 0 = λ v. Path (cond v (upto accepting_once n p.value.1) (Return p.value.1)) p.rest r → Sound ((before ++ p.front) ++ p.rest) r.1.0 in
      let f : (v : Bool) → T v = λ v. elim v as T [
        | true ↦ λ q. upto_sound n (before ++ p.front) p.value.1 p.rest r two.1 q mid
        | false ↦ λ q. ended_sound (before ++ p.front) p.rest p.value.1.1.0 r.1.0 q.1 (ap (λ (y : AtListener). y.1.0) q.0) mid
      ] in
      subst (λ (l : List LinkStep). Sound (before ++ l) r.1.0) (sym p.whole) (subst (λ (l : List LinkStep). Sound l r.1.0) (append_assoc before p.front p.rest) (f p.value.0 p.second))

  if_sound : (b : Bool) (before : List LinkStep) (x : AtListener) (steps : List LinkStep) (r : AtListener) → AreSteps before steps → Path (accepting_if b x) steps r → Sound before x.1.0 → Sound (before ++ steps) r.1.0
  if_sound true before x steps r a h k = upto_sound 64 before x steps r a h k
  if_sound false before x steps r a h k = ended_sound before steps x.1.0 r.1.0 h.1 (ap (λ (y : AtListener). y.1.0) h.0) k

  one_sound : (ready : List Ready) (before : List LinkStep) (l : Listener) (x : List Session × Turn) (steps : List LinkStep) (r : AtListener) → AreSteps before steps → Path (accepting_one ready l x) steps r → Sound before x.0 → Sound (before ++ steps) r.1.0
  unfolding accepting_one
  one_sound ready before l x steps r a h k = if_sound (is_tried ready l) before (l, x) steps r a h k

  pub accepts_sound : (ready : List Ready) (before : List LinkStep) (done ls : List Listener) (x : List Session × Turn) (steps : List LinkStep) (r : List Listener × (List Session × Turn)) → AreSteps before steps → Path (walk (accepting_one ready) done ls x) steps r → Sound before x.0 → Sound (before ++ steps) r.1.0
  accepts_sound ready before done [] x steps r a h k = ended_sound before steps x.0 r.1.0 h.1 (ap (λ (y : List Listener × (List Session × Turn)). y.1.0) h.0) k
  accepts_sound ready before done (l ∷ ls) x steps r a h k =
      let p = path_split (accepting_one ready l x) (λ (q : AtListener). walk (accepting_one ready) (done ++ q.0 ∷ []) ls q.1) steps r h in
      let two = steps_split before p.front p.rest (subst (λ (l : List LinkStep). AreSteps before l) p.whole a) in
      let mid : Sound (before ++ p.front) p.value.1.0 = one_sound ready before l x p.front p.value two.0 p.first k in
      let end : Sound ((before ++ p.front) ++ p.rest) r.1.0 = accepts_sound ready (before ++ p.front) (done ++ p.value.0 ∷ []) ls p.value.1 p.rest r two.1 p.second mid in
      subst (λ (l : List LinkStep). Sound (before ++ l) r.1.0) (sym p.whole) (subst (λ (l : List LinkStep). Sound l r.1.0) (append_assoc before p.front p.rest) end)
