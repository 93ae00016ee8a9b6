-- What is said to a session keeps its account.
use Rattle.std.proofs.Common.{◌≡◌, ℕ, ◌+◌, Bool, true, false, cond, not, nat_le, List, ◌++◌, length, refl, sym, ap, ◌∙◌, subst, append_assoc}
use Rattle.ug_types.specs.Principals.{Named}
use Rattle.ug_sessions.specs.declared.session.Session.{Session}
use Rattle.ug_sessions.specs.declared.session.Why.{Why}
use Rattle.ug_sessions.specs.declared.session.Why.TheVariants as why
use Rattle.ug_sessions.specs.declared.session.Life.{Life}
use Rattle.ug_sessions.specs.declared.session.Life.TheVariants as life
use Rattle.ug_sessions.specs.Sessions.{is_open_life}
use Rattle.ug_sessions.specs.Sessions.{doomed_for}
use Rattle.ug_sessions.specs.Answering.{PutsBehind, PutsWhere, PutsWithin, put_if, with_text, with_answer, AnswersIf, NoticesIf}
use Rattle.ug_sessions.specs.Due.{Dues, Accounts, AccountsBy, IsOpenAccount, IsFront, more_due}

abbrev grown : Dues → List ℕ → Dues
grown a text = record a { text = a.text ++ text }

front_more : (a : Dues) (text sent : List ℕ) → IsFront sent a.text → IsFront sent (more_due a text).text
front_more a text sent h =
    let T : Bool → Type 0 = λ v. IsFront sent (cond v a (grown a text)).text in
    let f : (v : Bool) → T v = λ v. elim v as T [ true ↦ h | false ↦ (h.0 ++ text, ap (λ (l : List ℕ). l ++ text) h.1 ∙ append_assoc sent h.0 text) ] in
    f a.over

-- a session that is closed
at_doomed : (a : Dues) (text sent : List ℕ) (s t : Session) (w : Why) → IsFront sent a.text → t ≡ doomed_for w s → Accounts (more_due a text) sent t
at_doomed a text sent s t w h e = subst (λ (x : Session). Accounts (more_due a text) sent x) (sym e) (front_more a text sent h)

-- an open session has been sent a front of what is due
open_front : (a : Dues) (sent : List ℕ) (s : Session) → IsOpenAccount a sent s → IsFront sent a.text
open_front a sent s h = (s.unsent, sym h.text)

-- text is put behind
at_open : (a : Dues) (text sent : List ℕ) (s t : Session) → s.life ≡ life.Open → IsOpenAccount a sent s → a.over ≡ false → t ≡ with_text s text → Accounts (more_due a text) sent t
at_open a text sent s t e h o p =
    let more : more_due a text ≡ grown a text = ap (λ (v : Bool). cond v a (grown a text)) o in
    let now : IsOpenAccount (grown a text) sent (with_text s text) = record {
      text = sym (append_assoc sent s.unsent text) ∙ ap (λ (l : List ℕ). l ++ text) h.text;
      watches = h.watches;
      over = h.over;
    } in
    subst (λ (x : Session). Accounts (more_due a text) sent x) (sym p)
    (subst (λ (b : Dues). Accounts b sent (with_text s text)) (sym more)
    (subst (λ (l : Life). AccountsBy l (grown a text) sent (with_text s text)) (sym e) now))

-- nothing is put
at_rest : (a : Dues) (text sent : List ℕ) (s t : Session) → Accounts a sent s → a.over ≡ true → t ≡ s → Accounts (more_due a text) sent t
at_rest a text sent s t h o p =
    let same : more_due a text ≡ a = ap (λ (v : Bool). cond v a (grown a text)) o in
    subst (λ (x : Session). Accounts (more_due a text) sent x) (sym p) (subst (λ (b : Dues). Accounts b sent s) (sym same) h)

puts_within : (w : Bool) (a : Dues) (text sent : List ℕ) (s t : Session) → s.life ≡ life.Open → IsOpenAccount a sent s → a.over ≡ false → PutsWithin w s text t → Accounts (more_due a text) sent t
puts_within true a text sent s t e h o p =
    let T : Bool → Type 0 = λ m. t ≡ put_if s text m → Accounts (more_due a text) sent t in
    let f : (m : Bool) → T m = λ m. elim m as T [ true ↦ λ q. at_open a text sent s t e h o q | false ↦ λ q. at_doomed a text sent s t why.Memory (open_front a sent s h) q ] in
    f p.0 p.1
puts_within false a text sent s t e h o p = at_doomed a text sent s t why.Backlog (open_front a sent s h) p

puts_open : (r : Bool) (a : Dues) (text sent : List ℕ) (s t : Session) → s.life ≡ life.Open → IsOpenAccount a sent s → s.refused ≡ r → PutsWhere (not r) s text t → Accounts (more_due a text) sent t
puts_open true a text sent s t e h k p = at_rest a text sent s t (subst (λ (l : Life). AccountsBy l a sent s) (sym e) h) (sym h.over ∙ k) p
puts_open false a text sent s t e h k p = puts_within (nat_le (length s.unsent + length text) 1048576) a text sent s t e h (sym h.over ∙ k) p

closed_puts : (l : Life) (a : Dues) (text sent : List ℕ) (s t : Session) → s.life ≡ l → AccountsBy l (more_due a text) sent s → t ≡ s → Accounts (more_due a text) sent t
closed_puts l a text sent s t e h p = subst (λ (x : Session). Accounts (more_due a text) sent x) (sym p) (subst (λ (m : Life). AccountsBy m (more_due a text) sent s) (sym e) h)

puts_by : (l : Life) (a : Dues) (text sent : List ℕ) (s t : Session) → s.life ≡ l → PutsWhere (cond (is_open_life l) (not s.refused) false) s text t → AccountsBy l a sent s → Accounts (more_due a text) sent t
puts_by life.Open a text sent s t e p h = puts_open s.refused a text sent s t e h refl p
puts_by (life.Doomed w) a text sent s t e p h = closed_puts (life.Doomed w) a text sent s t e (front_more a text sent h) p
puts_by (life.Closed w) a text sent s t e p h = closed_puts (life.Closed w) a text sent s t e (front_more a text sent h) p

pub puts : (a : Dues) (text sent : List ℕ) (s t : Session) → PutsBehind s text t → Accounts a sent s → Accounts (more_due a text) sent t
puts a text sent s t p h = puts_by s.life a text sent s t refl p h

-- a line that is answered changes no account
with_answer_keeps : (l : Life) (a : Dues) (sent : List ℕ) (s : Session) → s.life ≡ l → AccountsBy l a sent s → Accounts a sent (with_answer s)
with_answer_keeps life.Open a sent s e h = subst (λ (m : Life). AccountsBy m a sent (with_answer s)) (sym e) (record { text = h.text; watches = h.watches; over = h.over })
with_answer_keeps (life.Doomed w) a sent s e h = subst (λ (m : Life). AccountsBy m a sent (with_answer s)) (sym e) h
with_answer_keeps (life.Closed w) a sent s e h = subst (λ (m : Life). AccountsBy m a sent (with_answer s)) (sym e) h

pub notices_if : (b : Bool) (a : Dues) (text sent : List ℕ) (s t : Session) → NoticesIf b text s t → Accounts a sent s → Accounts (cond b (more_due a text) a) sent t
notices_if true a text sent s t p h = puts a text sent s t p h
notices_if false a text sent s t p h = subst (λ (x : Session). Accounts a sent x) (sym p) h

pub answers_if : (b : Bool) (a : Dues) (text sent : List ℕ) (s t : Session) → AnswersIf b text s t → Accounts a sent s → Accounts (cond b (more_due a text) a) sent t
answers_if true a text sent s t p h = puts a text sent (with_answer s) t p (with_answer_keeps s.life a sent s refl h)
answers_if false a text sent s t p h = subst (λ (x : Session). Accounts a sent x) (sym p) h

watches_by : (l : Life) (a : Dues) (sent : List ℕ) (s : Session) → s.life ≡ l → AccountsBy l a sent s → Accounts (record a { watches = true }) sent (record s { watch = true })
watches_by life.Open a sent s e h = subst (λ (m : Life). AccountsBy m (record a { watches = true }) sent (record s { watch = true })) (sym e) (record { text = h.text; watches = refl; over = h.over })
watches_by (life.Doomed w) a sent s e h = subst (λ (m : Life). AccountsBy m (record a { watches = true }) sent (record s { watch = true })) (sym e) h
watches_by (life.Closed w) a sent s e h = subst (λ (m : Life). AccountsBy m (record a { watches = true }) sent (record s { watch = true })) (sym e) h

pub watches_if : (b : Bool) (a : Dues) (sent : List ℕ) (s t : Session) → t ≡ cond b (record s { watch = true }) s → Accounts a sent s → Accounts (cond b (record a { watches = true }) a) sent t
watches_if true a sent s t p h = subst (λ (x : Session). Accounts (record a { watches = true }) sent x) (sym p) (watches_by s.life a sent s refl h)
watches_if false a sent s t p h = subst (λ (x : Session). Accounts a sent x) (sym p) h

-- a closed session takes nothing, and what it was sent stays a front of what is due
more_of : (c : Bool) (a : Dues) (text sent : List ℕ) → IsFront sent a.text → IsFront sent (cond c (more_due a text) a).text
more_of true a text sent h = front_more a text sent h
more_of false a text sent h = h

still : (b : Bool) (l : Life) (text : List ℕ) (s t : Session) → s.life ≡ l → is_open_life l ≡ false → NoticesIf b text s t → t ≡ s
still true l text s t e o p = subst (λ (v : Bool). PutsWhere (cond v (not s.refused) false) s text t) (ap is_open_life e ∙ o) p
still false l text s t e o p = p

front_of : (l : Life) (a : Dues) (sent : List ℕ) (s : Session) → is_open_life l ≡ false → AccountsBy l a sent s → IsFront sent a.text
front_of life.Open a sent s o h = let none : ⊥ = cc in absurd none
front_of (life.Doomed w) a sent s o h = h
front_of (life.Closed w) a sent s o h = h

of_front : (l : Life) (a : Dues) (sent : List ℕ) (s : Session) → is_open_life l ≡ false → IsFront sent a.text → AccountsBy l a sent s
of_front life.Open a sent s o h = let none : ⊥ = cc in absurd none
of_front (life.Doomed w) a sent s o h = h
of_front (life.Closed w) a sent s o h = h

closed_notice : (l : Life) (c b : Bool) (a : Dues) (text sent : List ℕ) (s t : Session) → s.life ≡ l → is_open_life l ≡ false → NoticesIf b text s t → AccountsBy l a sent s → Accounts (cond c (more_due a text) a) sent t
closed_notice l c b a text sent s t e o p h =
    let d = cond c (more_due a text) a in
    subst (λ (x : Session). Accounts d sent x) (sym (still b l text s t e o p))
    (subst (λ (m : Life). AccountsBy m d sent s) (sym e) (of_front l d sent s o (more_of c a text sent (front_of l a sent s o h))))

-- a notice: a session that watches is due it, and no other is
notices_by : (holds : Named → Bool) (l : Life) (a : Dues) (text sent : List ℕ) (s t : Session) → s.life ≡ l → NoticesIf (cond s.watch (holds s.principal) false) text s t → AccountsBy l a sent s → Accounts (cond (cond a.watches (holds s.principal) false) (more_due a text) a) sent t
notices_by holds life.Open a text sent s t e p h =
    subst (λ (w : Bool). Accounts (cond (cond w (holds s.principal) false) (more_due a text) a) sent t) h.watches
    (notices_if (cond s.watch (holds s.principal) false) a text sent s t p (subst (λ (l : Life). AccountsBy l a sent s) (sym e) h))
notices_by holds (life.Doomed w) a text sent s t e p h = closed_notice (life.Doomed w) (cond a.watches (holds s.principal) false) (cond s.watch (holds s.principal) false) a text sent s t e refl p h
notices_by holds (life.Closed w) a text sent s t e p h = closed_notice (life.Closed w) (cond a.watches (holds s.principal) false) (cond s.watch (holds s.principal) false) a text sent s t e refl p h

gives_up_by : (l : Life) (a : Dues) (sent : List ℕ) (s t : Session) → s.life ≡ l → t ≡ cond (is_open_life l) (doomed_for why.Memory s) s → AccountsBy l a sent s → Accounts a sent t
gives_up_by life.Open a sent s t e p h = subst (λ (x : Session). Accounts a sent x) (sym p) (open_front a sent s h)
gives_up_by (life.Doomed w) a sent s t e p h = subst (λ (x : Session). Accounts a sent x) (sym p) (subst (λ (m : Life). AccountsBy m a sent s) (sym e) h)
gives_up_by (life.Closed w) a sent s t e p h = subst (λ (x : Session). Accounts a sent x) (sym p) (subst (λ (m : Life). AccountsBy m a sent s) (sym e) h)

pub gives_up_if : (b : Bool) (a : Dues) (sent : List ℕ) (s t : Session) → t ≡ cond b (cond (is_open_life s.life) (doomed_for why.Memory s) s) s → Accounts a sent s → Accounts a sent t
gives_up_if true a sent s t p h = gives_up_by s.life a sent s t refl p h
gives_up_if false a sent s t p h = subst (λ (x : Session). Accounts a sent x) (sym p) h

-- the reply that a session isn't given, since it is given up for it, was due all the same
untold_by : (l : Life) (a : Dues) (text sent : List ℕ) (s t : Session) → s.life ≡ l → t ≡ cond (is_open_life l) (doomed_for why.Memory s) s → AccountsBy l a sent s → Accounts (more_due a text) sent t
untold_by life.Open a text sent s t e p h = at_doomed a text sent s t why.Memory (open_front a sent s h) p
untold_by (life.Doomed w) a text sent s t e p h = closed_puts (life.Doomed w) a text sent s t e (front_more a text sent h) p
untold_by (life.Closed w) a text sent s t e p h = closed_puts (life.Closed w) a text sent s t e (front_more a text sent h) p

pub untold_if : (b : Bool) (a : Dues) (text sent : List ℕ) (s t : Session) → t ≡ cond b (cond (is_open_life s.life) (doomed_for why.Memory s) s) s → Accounts a sent s → Accounts (cond b (more_due a text) a) sent t
untold_if true a text sent s t p h = untold_by s.life a text sent s t refl p h
untold_if false a text sent s t p h = subst (λ (x : Session). Accounts a sent x) (sym p) h

pub notices : (holds : Named → Bool) (a : Dues) (text sent : List ℕ) (s t : Session) → NoticesIf (cond s.watch (holds s.principal) false) text s t → Accounts a sent s → Accounts (cond (cond a.watches (holds s.principal) false) (more_due a text) a) sent t
notices holds a text sent s t p h = notices_by holds s.life a text sent s t refl p h
