-- The refusal of a line that is too long keeps an account.
use Rattle.std.proofs.Common.{◌≡◌, ℕ, ◌+◌, Bool, true, false, cond, not, nat_le, List, ◌++◌, length, refl, sym, ap, ◌∙◌, subst, append_assoc}
use Rattle.ug_sessions.specs.declared.session.Session.{Session}
use Rattle.ug_sessions.specs.declared.session.Why.{Why}
use Rattle.ug_sessions.specs.declared.session.Why.TheVariants as why
use Rattle.ug_sessions.specs.declared.session.Life.{Life}
use Rattle.ug_sessions.specs.declared.session.Life.TheVariants as life
use Rattle.ug_sessions.specs.Sessions.{is_open_life, doomed_for}
use Rattle.ug_sessions.specs.Answering.{PutsWhere, PutsWithin, put_if, with_text, RefusesIf, is_due, refused_text}
use Rattle.ug_sessions.specs.Due.{Dues, Accounts, AccountsBy, IsOpenAccount, over_due}

abbrev told : Session → Session
told u = record u { refused = true }

abbrev last : Dues → Dues
last a = record a { text = a.text ++ refused_text; over = true }

told_open : (a : Dues) (sent : List ℕ) (s : Session) → s.life ≡ life.Open → IsOpenAccount a sent s → Accounts (last a) sent (told (with_text s refused_text))
told_open a sent s e h =
    let now : IsOpenAccount (last a) sent (told (with_text s refused_text)) = record {
      text = sym (append_assoc sent s.unsent refused_text) ∙ ap (λ (l : List ℕ). l ++ refused_text) h.text;
      watches = h.watches;
      over = refl;
    } in
    subst (λ (l : Life). AccountsBy l (last a) sent (told (with_text s refused_text))) (sym e) now

told_doomed : (a : Dues) (sent : List ℕ) (s : Session) (w : Why) → IsOpenAccount a sent s → Accounts (last a) sent (told (doomed_for w s))
told_doomed a sent s w h = (s.unsent ++ refused_text, ap (λ (l : List ℕ). l ++ refused_text) (sym h.text) ∙ append_assoc sent s.unsent refused_text)

told_within : (w : Bool) (a : Dues) (sent : List ℕ) (s u : Session) → s.life ≡ life.Open → IsOpenAccount a sent s → PutsWithin w s refused_text u → Accounts (last a) sent (told u)
told_within true a sent s u e h p =
    let T : Bool → Type 0 = λ m. u ≡ put_if s refused_text m → Accounts (last a) sent (told u) in
    let f : (m : Bool) → T m = λ m. elim m as T [
      | true ↦ λ q. subst (λ (x : Session). Accounts (last a) sent (told x)) (sym q) (told_open a sent s e h)
      | false ↦ λ q. subst (λ (x : Session). Accounts (last a) sent (told x)) (sym q) (told_doomed a sent s why.Memory h)
    ] in
    f p.0 p.1
told_within false a sent s u e h p = subst (λ (x : Session). Accounts (last a) sent (told x)) (sym p) (told_doomed a sent s why.Backlog h)

as_it_was : (l : Life) (a : Dues) (sent : List ℕ) (s t : Session) → s.life ≡ l → t ≡ s → AccountsBy l a sent s → Accounts a sent t
as_it_was l a sent s t e p h = subst (λ (x : Session). Accounts a sent x) (sym p) (subst (λ (m : Life). AccountsBy m a sent s) (sym e) h)

abbrev due : Life → Bool → Bool → Bool
due l r o = cond (cond (is_open_life l) (not r) false) o false

refuses_by : (l : Life) (r o : Bool) (a : Dues) (sent : List ℕ) (s t : Session) → s.life ≡ l → s.refused ≡ r → RefusesIf (due l r o) s t → AccountsBy l a sent s → Accounts (cond (due l r o) (over_due a) a) sent t
refuses_by life.Open false true a sent s t e f p h =
    let takes : cond (is_open_life s.life) (not s.refused) false ≡ true = ap (λ (l : Life). cond (is_open_life l) (not s.refused) false) e ∙ ap not f in
    let put : PutsWithin (nat_le (length s.unsent + length refused_text) 1048576) s refused_text p.0 = subst (λ (v : Bool). PutsWhere v s refused_text p.0) takes p.1 in
    let now : Accounts (last a) sent (told p.0) = told_within (nat_le (length s.unsent + length refused_text) 1048576) a sent s p.0 e h put in
    let over : over_due a ≡ last a = ap (λ (v : Bool). cond v a (last a)) (sym h.over ∙ f) in
    subst (λ (b : Dues). Accounts b sent t) (sym over) (subst (λ (x : Session). Accounts (last a) sent x) (sym p.2) now)
refuses_by life.Open false false a sent s t e f p h = as_it_was life.Open a sent s t e p h
refuses_by life.Open true o a sent s t e f p h = as_it_was life.Open a sent s t e p h
refuses_by (life.Doomed w) r o a sent s t e f p h = as_it_was (life.Doomed w) a sent s t e p h
refuses_by (life.Closed w) r o a sent s t e f p h = as_it_was (life.Closed w) a sent s t e p h

pub refuses : (a : Dues) (sent : List ℕ) (s t : Session) → RefusesIf (is_due s) s t → Accounts a sent s → Accounts (cond (is_due s) (over_due a) a) sent t
refuses a sent s t p h = refuses_by s.life s.refused s.overlong a sent s t refl refl p h
