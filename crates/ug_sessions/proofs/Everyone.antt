-- What is said keeps the accounts of all sessions.
use Rattle.std.proofs.Common.{◌≡◌, ℕ, ◌+◌, Bool, true, false, cond, nat_eq, nat_le, List, [], ◌∷◌, ◌++◌, length, refl, sym, ap, subst}
use Rattle.ug_links.specs.declared.waiter.LinkId.{LinkId}
use Rattle.ug_types.specs.Principals.{Named}
use Rattle.ug_types.specs.declared.access.Section.{Section}
use Rattle.ug_links.specs.declared.step.LinkStep.{LinkStep}
use Rattle.ug_sessions.specs.declared.session.Session.{Session}
use Rattle.ug_sessions.specs.Answering.{Each, PutsWhere, PutsWithin, put_if, takes_text, with_answer, AnswersIf, NoticesIf, AnswersOne, WatchesOne, NoticesOne}
use Rattle.ug_sessions.specs.Due.{Dues, Accounts, AllAccounts, Said, Answered, Watched, Noticed, said_one, said_all, nothing_due, sent_to}
use Rattle.ug_sessions.proofs.Saying.{answers_if, watches_if, notices}
use Rattle.ug_sessions.proofs.Owning.{Who, who}

said-append : (holds : Section → Named → Bool) (id : LinkId) (principal : Named) (a : Dues) (said : List Said) (x : Said) → said_all holds id principal a (said ++ x ∷ []) ≡ said_one holds id principal (said_all holds id principal a said) x
said-append holds id principal a [] x = refl
said-append holds id principal a (y ∷ said) x = said-append holds id principal (said_one holds id principal a y) said x

-- a session stays who it is, and its account is kept
abbrev pub Keeps : (Section → Named → Bool) → Said → Session → Session → Type 0
Keeps holds x s t = (who t ≡ who s) × ((a : Dues) (sent : List ℕ) → Accounts a sent s → Accounts (said_one holds s.id s.principal a x) sent t)

pub each_keeps : (holds : Section → Named → Bool) (steps : List LinkStep) (said : List Said) (x : Said) (R : Session → Session → Type 0) (h : (s t : Session) → R s t → Keeps holds x s t) (ss ts : List Session) → Each R ss ts → AllAccounts holds steps said ss → AllAccounts holds steps (said ++ x ∷ []) ts
each_keeps holds steps said x R h [] [] e k = tt
each_keeps holds steps said x R h [] (t ∷ ts) e k = absurd e
each_keeps holds steps said x R h (s ∷ ss) [] e k = absurd e
each_keeps holds steps said x R h (s ∷ ss) (t ∷ ts) e k =
    let one = h s t e.0 in
    let due = λ (w : Who). said_all holds w.id w.principal nothing_due (said ++ x ∷ []) in
    let now : Accounts (said_one holds s.id s.principal (said_all holds s.id s.principal nothing_due said) x) (sent_to s.id steps) t = one.1 (said_all holds s.id s.principal nothing_due said) (sent_to s.id steps) k.0 in
    let after : Accounts (due (who s)) (sent_to s.id steps) t = subst (λ (a : Dues). Accounts a (sent_to s.id steps) t) (sym (said-append holds s.id s.principal nothing_due said x)) now in
    (subst (λ (w : Who). Accounts (due w) (sent_to w.id steps) t) (sym one.0) after, each_keeps holds steps said x R h ss ts e.1 k.1)

who_within : (w : Bool) (s : Session) (text : List ℕ) (t : Session) → PutsWithin w s text t → who t ≡ who s
who_within true s text t p =
    let T : Bool → Type 0 = λ m. t ≡ put_if s text m → who t ≡ who s in
    let f : (m : Bool) → T m = λ m. elim m as T [ true ↦ λ q. ap who q | false ↦ λ q. ap who q ] in
    f p.0 p.1
who_within false s text t p = ap who p

pub who_where : (b : Bool) (s : Session) (text : List ℕ) (t : Session) → PutsWhere b s text t → who t ≡ who s
who_where true s text t p = who_within (nat_le (length s.unsent + length text) 1048576) s text t p
who_where false s text t p = ap who p

pub who_answers : (b : Bool) (s : Session) (text : List ℕ) (t : Session) → AnswersIf b text s t → who t ≡ who s
who_answers true s text t p = who_where (takes_text (with_answer s)) (with_answer s) text t p
who_answers false s text t p = ap who p

pub who_notices : (b : Bool) (s : Session) (text : List ℕ) (t : Session) → NoticesIf b text s t → who t ≡ who s
who_notices true s text t p = who_where (takes_text s) s text t p
who_notices false s text t p = ap who p

pub who_watches : (b : Bool) (s t : Session) → t ≡ cond b (record s { watch = true }) s → who t ≡ who s
who_watches true s t p = ap who p
who_watches false s t p = ap who p

pub answers_keep : (holds : Section → Named → Bool) (steps : List LinkStep) (said : List Said) (id : LinkId) (text : List ℕ) (ss ts : List Session) → Each (AnswersOne id text) ss ts → AllAccounts holds steps said ss → AllAccounts holds steps (said ++ Answered id text ∷ []) ts
answers_keep holds steps said id text ss ts e k = each_keeps holds steps said (Answered id text) (AnswersOne id text) (λ s t p. (who_answers (nat_eq s.id.0 id.0) s text t p, λ a sent h. answers_if (nat_eq s.id.0 id.0) a text sent s t p h)) ss ts e k

pub watches_keep : (holds : Section → Named → Bool) (steps : List LinkStep) (said : List Said) (id : LinkId) (ss ts : List Session) → Each (WatchesOne id) ss ts → AllAccounts holds steps said ss → AllAccounts holds steps (said ++ Watched id ∷ []) ts
watches_keep holds steps said id ss ts e k = each_keeps holds steps said (Watched id) (WatchesOne id) (λ s t p. (who_watches (nat_eq s.id.0 id.0) s t p, λ a sent h. watches_if (nat_eq s.id.0 id.0) a sent s t p h)) ss ts e k

pub notices_keep : (holds : Section → Named → Bool) (steps : List LinkStep) (said : List Said) (section : Section) (text : List ℕ) (ss ts : List Session) → Each (NoticesOne (holds section) text) ss ts → AllAccounts holds steps said ss → AllAccounts holds steps (said ++ Noticed section text ∷ []) ts
notices_keep holds steps said section text ss ts e k = each_keeps holds steps said (Noticed section text) (NoticesOne (holds section) text) (λ s t p. (who_notices (cond s.watch (holds section s.principal) false) s text t p, λ a sent h. notices (holds section) a text sent s t p h)) ss ts e k
