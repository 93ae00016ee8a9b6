-- Handing out, and giving up, keep the accounts of all sessions.
use Rattle.std.proofs.Common.{◌≡◌, ℕ, Bool, true, false, cond, nat_eq, List, [], ◌∷◌, ◌++◌, refl, sym, ap, ◌∙◌, subst, append_assoc}
use Rattle.std.proofs.lemmas.List.{append-nil}
use Rattle.ug_types.specs.Principals.{Named}
use Rattle.ug_types.specs.declared.access.Section.{Section}
use Rattle.ug_links.specs.declared.waiter.LinkId.{LinkId}
use Rattle.ug_links.specs.declared.step.LinkStep.{LinkStep}
use Rattle.ug_sessions.specs.declared.session.Session.{Session}
use Rattle.ug_sessions.specs.declared.session.Life.{Life}
use Rattle.ug_sessions.specs.declared.session.Life.TheVariants as life
use Rattle.ug_sessions.specs.declared.session.Why.TheVariants as why
use Rattle.ug_sessions.specs.Sessions.{is_open_session, doomed_for}
use Rattle.ug_sessions.specs.Answering.{Each, takes_text, refused_text, RefusesIf, is_due, with_none_left, with_request_lines, Passes, GivesUpOne, HandsFirst}
use Rattle.ug_sessions.specs.Due.{Dues, Accounts, AccountsBy, AllAccounts, IsNoneOf, HaveOwnIds, Said, Overlong, said_one, said_all, nothing_due, over_due, overlong_of, overlong_all, sent_to}
use Rattle.ug_sessions.proofs.Saying.{gives_up_if}
use Rattle.ug_sessions.proofs.Sends.{own}
use Rattle.ug_sessions.proofs.Refusing.{refuses}
use Rattle.ug_sessions.proofs.Owning.{Who, who}
use Rattle.ug_sessions.proofs.Everyone.{who_where}
use Rattle.ug_sessions.proofs.Lists.{turned_round}

-- text and marks are as they were
marks_keep : (l : Life) (a : Dues) (sent : List ℕ) (s t : Session) → t.life ≡ l → (t.unsent ≡ s.unsent) × (t.watch ≡ s.watch) × (t.refused ≡ s.refused) → AccountsBy l a sent s → Accounts a sent t
marks_keep life.Open a sent s t e u h = subst (λ (m : Life). AccountsBy m a sent t) (sym e) (record { text = ap (λ (x : List ℕ). sent ++ x) u.0 ∙ h.text; watches = u.1 ∙ h.watches; over = u.2 ∙ h.over })
marks_keep (life.Doomed w) a sent s t e u h = subst (λ (m : Life). AccountsBy m a sent t) (sym e) h
marks_keep (life.Closed w) a sent s t e u h = subst (λ (m : Life). AccountsBy m a sent t) (sym e) h

said-more : (holds : Section → Named → Bool) (id : LinkId) (p : Named) (a : Dues) (x y : List Said) → said_all holds id p a (x ++ y) ≡ said_all holds id p (said_all holds id p a x) y
said-more holds id p a [] y = refl
said-more holds id p a (z ∷ x) y = said-more holds id p (said_one holds id p a z) x y

module _ (holds : Section → Named → Bool) (steps : List LinkStep) where
  over_by : (b c : Bool) (id other : LinkId) (p : Named) (a : Dues) → nat_eq id.0 other.0 ≡ c → said_all holds id p a (cond b (Overlong other ∷ []) []) ≡ cond c (cond b (over_due a) a) a
  over_by true c id other p a e = ap (λ (v : Bool). cond v (over_due a) a) e
  over_by false true id other p a e = refl
  over_by false false id other p a e = refl

  over_other : (s : Session) (id : LinkId) (p : Named) (a : Dues) → nat_eq id.0 s.id.0 ≡ false → said_all holds id p a (overlong_of s) ≡ a
  over_other s id p a e = over_by (is_due s) false id s.id p a e

  over_own : (s : Session) (p : Named) (a : Dues) → said_all holds s.id p a (overlong_of s) ≡ cond (is_due s) (over_due a) a
  over_own s p a = over_by (is_due s) true s.id s.id p a (own s.id)

  overs_other : (ss : List Session) (id : LinkId) (p : Named) (a : Dues) → IsNoneOf id ss → said_all holds id p a (overlong_all ss) ≡ a
  overs_other [] id p a n = refl
  overs_other (s ∷ ss) id p a n =
      said-more holds id p a (overlong_of s) (overlong_all ss)
      ∙ ap (λ (b : Dues). said_all holds id p b (overlong_all ss)) (over_other s id p a (turned_round s.id.0 id.0 n.0))
      ∙ overs_other ss id p a n.1

  -- what is said of one session leaves the accounts of the others
  others_said : (said : List Said) (s : Session) (ss : List Session) → IsNoneOf s.id ss → AllAccounts holds steps said ss → AllAccounts holds steps (said ++ overlong_of s) ss
  others_said said s [] n k = tt
  others_said said s (x ∷ ss) n k =
      let same = said-more holds x.id x.principal nothing_due said (overlong_of s) ∙ over_other s x.id x.principal (said_all holds x.id x.principal nothing_due said) n.0 in
      (subst (λ (a : Dues). Accounts a (sent_to x.id steps) x) (sym same) k.0, others_said said s ss n.1 k.1)

  pub who_passes : (b : Bool) (s t : Session) → RefusesIf b s t → who t ≡ who s
  who_passes true s t p = ap who p.2 ∙ who_where (takes_text s) s refused_text p.0 p.1
  who_passes false s t p = ap who p

  pass_one : (a : Dues) (sent : List ℕ) (s t : Session) → Passes s t → Accounts a sent s → Accounts (said_all holds s.id s.principal a (overlong_of s)) sent t
  pass_one a sent s t p h =
      let quiet : Accounts a sent (with_none_left s) = marks_keep s.life a sent s (with_none_left s) refl (refl, refl, refl) h in
      subst (λ (b : Dues). Accounts b sent t) (sym (over_own s s.principal a)) (refuses a sent (with_none_left s) t p.1 quiet)

  pub passes_keep : (said : List Said) (ss ts : List Session) → HaveOwnIds ss → Each Passes ss ts → AllAccounts holds steps said ss → AllAccounts holds steps (said ++ overlong_all ss) ts
  passes_keep said [] [] d e k = tt
  passes_keep said [] (t ∷ ts) d e k = absurd e
  passes_keep said (s ∷ ss) [] d e k = absurd e
  passes_keep said (s ∷ ss) (t ∷ ts) d e k =
      let before = said_all holds s.id s.principal nothing_due said in
      let one : Accounts (said_all holds s.id s.principal before (overlong_of s)) (sent_to s.id steps) t = pass_one before (sent_to s.id steps) s t e.0 k.0 in
      let all : said_all holds s.id s.principal nothing_due (said ++ overlong_all (s ∷ ss)) ≡ said_all holds s.id s.principal before (overlong_of s) =
      said-more holds s.id s.principal nothing_due said (overlong_all (s ∷ ss))
      ∙ said-more holds s.id s.principal before (overlong_of s) (overlong_all ss)
      ∙ overs_other ss s.id s.principal (said_all holds s.id s.principal before (overlong_of s)) d.0 in
      let due = λ (w : Who). said_all holds w.id w.principal nothing_due (said ++ overlong_all (s ∷ ss)) in
      let here : Accounts (due (who s)) (sent_to s.id steps) t = subst (λ (a : Dues). Accounts a (sent_to s.id steps) t) (sym all) one in
      let is : who t ≡ who s = who_passes (is_due s) (with_none_left s) t e.0.1 in
      let rest = passes_keep (said ++ overlong_of s) ss ts d.1 e.1 (others_said said s ss d.0 k.1) in
      (subst (λ (w : Who). Accounts (due w) (sent_to w.id steps) t) (sym is) here, subst (λ (l : List Said). AllAccounts holds steps l ts) (append_assoc said (overlong_of s) (overlong_all ss)) rest)

  -- no session of the first list is in the second
  abbrev pub Apart : List Session → List Session → Type 0
  Apart [] b = Unit {0}
  Apart (x ∷ a) b = IsNoneOf x.id b × Apart a b

  none_split : (id : LinkId) (a b : List Session) → IsNoneOf id (a ++ b) → IsNoneOf id a × IsNoneOf id b
  none_split id [] b n = (tt, n)
  none_split id (x ∷ a) b n = let k = none_split id a b n.1 in ((n.0, k.0), k.1)

  pub distinct_split : (a b : List Session) → HaveOwnIds (a ++ b) → HaveOwnIds a × Apart a b × HaveOwnIds b
  distinct_split [] b d = (tt, tt, d)
  distinct_split (x ∷ a) b d = let k = distinct_split a b d.1 in let n = none_split x.id a b d.0 in ((n.0, k.0), (n.1, k.1), k.2)

  accounts_split : (said : List Said) (a b : List Session) → AllAccounts holds steps said (a ++ b) → AllAccounts holds steps said a × AllAccounts holds steps said b
  accounts_split said [] b k = (tt, k)
  accounts_split said (x ∷ a) b k = let h = accounts_split said a b k.1 in ((k.0, h.0), h.1)

  accounts_join : (said : List Said) (a b : List Session) → AllAccounts holds steps said a → AllAccounts holds steps said b → AllAccounts holds steps said (a ++ b)
  accounts_join said [] b h k = k
  accounts_join said (x ∷ a) b h k = (h.0, accounts_join said a b h.1 k)

  apart_said : (said : List Said) (a b : List Session) → Apart a b → AllAccounts holds steps said b → AllAccounts holds steps (said ++ overlong_all a) b
  apart_said said [] b p k = subst (λ (l : List Said). AllAccounts holds steps l b) (sym (append-nil said)) k
  apart_said said (x ∷ a) b p k = subst (λ (l : List Said). AllAccounts holds steps l b) (append_assoc said (overlong_of x) (overlong_all a)) (apart_said (said ++ overlong_of x) a b p.1 (others_said said x b p.0 k))

  lines_keep : (said : List Said) (s t : Session) (lines : List (List ℕ)) → t ≡ with_request_lines lines s → Accounts (said_all holds s.id s.principal nothing_due said) (sent_to s.id steps) s → Accounts (said_all holds t.id t.principal nothing_due said) (sent_to t.id steps) t
  lines_keep said s t lines e k =
      subst (λ (x : Session). Accounts (said_all holds x.id x.principal nothing_due said) (sent_to x.id steps) x) (sym e)
      (marks_keep s.life (said_all holds s.id s.principal nothing_due said) (sent_to s.id steps) s (with_request_lines lines s) refl (refl, refl, refl) k)

  pub hands_keep : (said : List Said) (ss ts : List Session) (id : LinkId) (principal : Named) (line : List ℕ) → HaveOwnIds ss → (h : HandsFirst ss id principal line ts) → AllAccounts holds steps said ss → AllAccounts holds steps (said ++ overlong_all h.front) ts
  hands_keep said ss ts id principal line d h k =
      let now = said ++ overlong_all h.front in
      let apart = distinct_split h.front (h.session ∷ h.behind) (subst HaveOwnIds h.was d) in
      let each = accounts_split said h.front (h.session ∷ h.behind) (subst (λ (l : List Session). AllAccounts holds steps said l) h.was k) in
      let front : AllAccounts holds steps now h.passed = passes_keep said h.front h.passed apart.0 h.none each.0 in
      let rest : AllAccounts holds steps now (h.session ∷ h.behind) = apart_said said h.front (h.session ∷ h.behind) apart.1 each.1 in
      let one = lines_keep now h.session h.after h.after.framer.lines h.hands.1 rest.0 in
      subst (λ (l : List Session). AllAccounts holds steps now l) (sym h.is) (accounts_join now h.passed (h.after ∷ h.behind) front (one, rest.1))

  pub who_gives : (b c : Bool) (s t : Session) → t ≡ cond b (cond c (doomed_for why.Memory s) s) s → who t ≡ who s
  who_gives true true s t e = ap who e
  who_gives true false s t e = ap who e
  who_gives false c s t e = ap who e

  pub gives_up_keep : (said : List Said) (id : LinkId) (ss ts : List Session) → Each (GivesUpOne id) ss ts → AllAccounts holds steps said ss → AllAccounts holds steps said ts
  gives_up_keep said id [] [] e k = tt
  gives_up_keep said id [] (t ∷ ts) e k = absurd e
  gives_up_keep said id (s ∷ ss) [] e k = absurd e
  gives_up_keep said id (s ∷ ss) (t ∷ ts) e k =
      let due = λ (w : Who). said_all holds w.id w.principal nothing_due said in
      let now : Accounts (due (who s)) (sent_to s.id steps) t = gives_up_if (nat_eq s.id.0 id.0) (due (who s)) (sent_to s.id steps) s t e.0 k.0 in
      (subst (λ (w : Who). Accounts (due w) (sent_to w.id steps) t) (sym (who_gives (nat_eq s.id.0 id.0) (is_open_session s) s t e.0)) now, gives_up_keep said id ss ts e.1 k.1)
