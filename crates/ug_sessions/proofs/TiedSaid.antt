-- What is said to sessions, and what is handed out, leaves the server tied to the answers.
use Rattle.std.proofs.Common.{◌≡◌, ℕ, ◌+◌, Bool, true, false, cond, nat_eq, nat_le, List, [], ◌∷◌, ◌++◌, length, Option, None, refl, sym, ap, ◌∙◌, subst}
use Rattle.ug_types.specs.Principals.{Named}
use Rattle.ug_links.specs.declared.waiter.LinkId.{LinkId}
use Rattle.ug_links.specs.declared.step.LinkStep.{LinkStep}
use Rattle.ug_links.specs.declared.step.LinkStep.TheVariants.{Listened, AcceptedAt, ReadFrom, WroteTo, Closed}
use Rattle.ug_links.specs.declared.step.Reading.{Reading}
use Rattle.ug_sessions.specs.declared.session.Session.{Session}
use Rattle.ug_sessions.specs.declared.session.Life.{Life}
use Rattle.ug_sessions.specs.declared.session.Life.TheVariants as life
use Rattle.ug_sessions.specs.declared.session.Why.TheVariants as why
use Rattle.ug_sessions.specs.Sessions.{is_open_session, doomed_for}
use Rattle.ug_sessions.specs.States.{listeners_from}
use Rattle.ug_sessions.specs.Answering.{Each, PutsWhere, PutsWithin, put_if, takes_text, refused_text, with_answer, AnswersIf, NoticesIf, AnswersOne, WatchesOne, NoticesOne, GivesUpOne, RefusesIf, is_due, with_none_left, Passes, HandsFirst}
use Rattle.ug_sessions.specs.LastAnswers.{last_accept, owes_accept, last_read}
use Rattle.ug_sessions.specs.Tied.{IsWhose, HasMarksBy, AreTied, AcceptsNone, AreListenersOf}
use Rattle.ug_sessions.proofs.Each.{each_append}
use Rattle.ug_sessions.proofs.Owning.{Who, who}
use Rattle.ug_sessions.proofs.Everyone.{who_where, who_answers, who_notices}

-- a session stays who it is, and its marks stay true
abbrev Stays : Session → Session → Type 0
Stays s t = (who t ≡ who s) × ((last : Option Reading) → HasMarksBy s.life last s → HasMarksBy t.life last t)

marks_as : (l : Life) (last : Option Reading) (s t : Session) → t.life ≡ l → t.ended ≡ s.ended → t.owed ≡ s.owed → HasMarksBy l last s → HasMarksBy t.life last t
marks_as life.Open last s t e f g h = subst (λ (m : Life). HasMarksBy m last t) (sym e) (record { ended = f ∙ h.ended; owed = λ k. g ∙ h.owed (sym f ∙ k) })
marks_as (life.Doomed w) last s t e f g h = subst (λ (m : Life). HasMarksBy m last t) (sym e) tt
marks_as (life.Closed w) last s t e f g h = subst (λ (m : Life). HasMarksBy m last t) (sym e) tt

-- only other fields changed
alike : (s t u : Session) → t ≡ u → u.life ≡ s.life → u.ended ≡ s.ended → u.owed ≡ s.owed → (last : Option Reading) → HasMarksBy s.life last s → HasMarksBy t.life last t
alike s t u e f g k last h = marks_as s.life last s t (ap (λ (x : Session). x.life) e ∙ f) (ap (λ (x : Session). x.ended) e ∙ g) (ap (λ (x : Session). x.owed) e ∙ k) h

-- it was closed
shut : (t u : Session) → t ≡ u → ((last : Option Reading) → HasMarksBy u.life last u) → (last : Option Reading) → HasMarksBy t.life last t
shut t u e f last = subst (λ (x : Session). HasMarksBy x.life last x) (sym e) (f last)

within_marks : (w : Bool) (s : Session) (text : List ℕ) (t : Session) → PutsWithin w s text t → (last : Option Reading) → HasMarksBy s.life last s → HasMarksBy t.life last t
within_marks true s text t p last h =
    let T : Bool → Type 0 = λ m. t ≡ put_if s text m → HasMarksBy t.life last t in
    let f : (m : Bool) → T m = λ m. elim m as T [
      | true ↦ λ q. alike s t _ q refl refl refl last h
      | false ↦ λ q. shut t _ q (λ l. tt) last
    ] in
    f p.0 p.1
within_marks false s text t p last h = shut t _ p (λ l. tt) last

where_marks : (b : Bool) (s : Session) (text : List ℕ) (t : Session) → PutsWhere b s text t → (last : Option Reading) → HasMarksBy s.life last s → HasMarksBy t.life last t
where_marks true s text t p last h = within_marks (nat_le (length s.unsent + length text) 1048576) s text t p last h
where_marks false s text t p last h = alike s t s p refl refl refl last h

answers_stay : (b : Bool) (s : Session) (text : List ℕ) (t : Session) → AnswersIf b text s t → Stays s t
answers_stay true s text t p =
    let u : Session = with_answer s in
    (who_answers true s text t p, λ last h. where_marks (takes_text u) u text t p last (marks_as s.life last s u refl refl refl h))
answers_stay false s text t p = (ap who p, λ last h. alike s t s p refl refl refl last h)

notices_stay : (b : Bool) (s : Session) (text : List ℕ) (t : Session) → NoticesIf b text s t → Stays s t
notices_stay true s text t p = (who_notices true s text t p, λ last h. where_marks (takes_text s) s text t p last h)
notices_stay false s text t p = (ap who p, λ last h. alike s t s p refl refl refl last h)

watches_stay : (b : Bool) (s t : Session) → t ≡ cond b (record s { watch = true }) s → Stays s t
watches_stay true s t p = (ap who p, λ last h. alike s t _ p refl refl refl last h)
watches_stay false s t p = (ap who p, λ last h. alike s t s p refl refl refl last h)

opens_stay : (b : Bool) (s u t : Session) → t ≡ cond b u s → who u ≡ who s → ((last : Option Reading) → HasMarksBy u.life last u) → Stays s t
opens_stay true s u t p w m = (ap who p ∙ w, λ last h. shut t u p m last)
opens_stay false s u t p w m = (ap who p, λ last h. alike s t s p refl refl refl last h)

gives_up_stay : (b : Bool) (s t : Session) (id : LinkId) → nat_eq s.id.0 id.0 ≡ b → GivesUpOne id s t → Stays s t
gives_up_stay true s t id e p =
    let closed : Session = doomed_for why.Memory s in
    opens_stay (is_open_session s) s closed t (p ∙ ap (λ (v : Bool). cond v (cond (is_open_session s) closed s) s) e) refl (λ last. tt)
gives_up_stay false s t id e p =
    let q : t ≡ s = p ∙ ap (λ (v : Bool). cond v (cond (is_open_session s) (doomed_for why.Memory s) s) s) e in
    (ap who q, λ last h. alike s t s q refl refl refl last h)

passes_stay : (b : Bool) (s t : Session) → RefusesIf b (with_none_left s) t → Stays s t
passes_stay true s t p =
    let u : Session = with_none_left s in
    (ap who p.2 ∙ who_where (takes_text u) u refused_text p.0 p.1, λ last h. alike p.0 t _ p.2 refl refl refl last (where_marks (takes_text u) u refused_text p.0 p.1 last (marks_as s.life last s u refl refl refl h)))
passes_stay false s t p = (ap who p, λ last h. alike s t _ p refl refl refl last h)

each_tied : (principals : List Named) (calls : List LinkStep) (R : Session → Session → Type 0) (f : (s t : Session) → R s t → Stays s t) (ss ts : List Session) → Each R ss ts → AreTied principals calls ss → AreTied principals calls ts
each_tied principals calls R f [] [] e k = (tt, tt)
each_tied principals calls R f [] (t ∷ ts) e k = absurd e
each_tied principals calls R f (s ∷ ss) [] e k = absurd e
each_tied principals calls R f (s ∷ ss) (t ∷ ts) e k =
    let one = f s t e.0 in
    let rest = each_tied principals calls R f ss ts e.1 (k.0.1, k.1.1) in
    let mark : HasMarksBy t.life (last_read t.id calls) t = one.1 (last_read t.id calls) (subst (λ (w : Who). HasMarksBy s.life (last_read w.id calls) s) (sym one.0) k.1.0) in
    ((subst (λ (w : Who). IsWhose principals calls w.id w.principal) (sym one.0) k.0.0, rest.0), (mark, rest.1))

pub answers_tied : (principals : List Named) (calls : List LinkStep) (id : LinkId) (text : List ℕ) (ss ts : List Session) → Each (AnswersOne id text) ss ts → AreTied principals calls ss → AreTied principals calls ts
answers_tied principals calls id text ss ts e k = each_tied principals calls (AnswersOne id text) (λ s t p. answers_stay (nat_eq s.id.0 id.0) s text t p) ss ts e k

pub watches_tied : (principals : List Named) (calls : List LinkStep) (id : LinkId) (ss ts : List Session) → Each (WatchesOne id) ss ts → AreTied principals calls ss → AreTied principals calls ts
watches_tied principals calls id ss ts e k = each_tied principals calls (WatchesOne id) (λ s t p. watches_stay (nat_eq s.id.0 id.0) s t p) ss ts e k

pub notices_tied : (principals : List Named) (calls : List LinkStep) (holds : Named → Bool) (text : List ℕ) (ss ts : List Session) → Each (NoticesOne holds text) ss ts → AreTied principals calls ss → AreTied principals calls ts
notices_tied principals calls holds text ss ts e k = each_tied principals calls (NoticesOne holds text) (λ s t p. notices_stay (cond s.watch (holds s.principal) false) s text t p) ss ts e k

pub gives_up_tied : (principals : List Named) (calls : List LinkStep) (id : LinkId) (ss ts : List Session) → Each (GivesUpOne id) ss ts → AreTied principals calls ss → AreTied principals calls ts
gives_up_tied principals calls id ss ts e k = each_tied principals calls (GivesUpOne id) (λ s t p. gives_up_stay (nat_eq s.id.0 id.0) s t id refl p) ss ts e k

pub passes_tied : (principals : List Named) (calls : List LinkStep) (ss ts : List Session) → Each Passes ss ts → AreTied principals calls ss → AreTied principals calls ts
passes_tied principals calls ss ts e k = each_tied principals calls Passes (λ s t p. passes_stay (is_due s) s t p.1) ss ts e k

all_same : (ss : List Session) → Each Stays ss ss
all_same [] = tt
all_same (s ∷ ss) = ((refl, λ last h. h), all_same ss)

each_passes : (ss ts : List Session) → Each Passes ss ts → Each Stays ss ts
each_passes [] [] e = tt
each_passes [] (t ∷ ts) e = absurd e
each_passes (s ∷ ss) [] e = absurd e
each_passes (s ∷ ss) (t ∷ ts) e = (passes_stay (is_due s) s t e.0.1, each_passes ss ts e.1)

at_session : (principals : List Named) (calls : List LinkStep) (a : List Session) (s : Session) (b : List Session) → AreTied principals calls (a ++ s ∷ b) → IsWhose principals calls s.id s.principal
at_session principals calls [] s b k = k.0.0
at_session principals calls (x ∷ a) s b k = at_session principals calls a s b (k.0.1, k.1.1)

-- the line that is handed out is of the principal at whose listener its session came
pub hands_tied : (principals : List Named) (calls : List LinkStep) (ss ts : List Session) (id : LinkId) (principal : Named) (line : List ℕ) → HandsFirst ss id principal line ts → AreTied principals calls ss → IsWhose principals calls id principal × AreTied principals calls ts
hands_tied principals calls ss ts id principal line h k =
    let s = h.session in
    let t = h.after in
    let one : Stays s t = (ap who h.hands.1, λ last m. alike s t _ h.hands.1 refl refl refl last m) in
    let all : Each Stays (h.front ++ s ∷ h.behind) (h.passed ++ t ∷ h.behind) = each_append Stays h.front h.passed (s ∷ h.behind) (t ∷ h.behind) (each_passes h.front h.passed h.none) (one, all_same h.behind) in
    let old : AreTied principals calls (h.front ++ s ∷ h.behind) = subst (λ (l : List Session). AreTied principals calls l) h.was k in
    let its : IsWhose principals calls id principal = subst (λ (i : LinkId). IsWhose principals calls i principal) (sym h.its_id) (subst (λ (w : Named). IsWhose principals calls s.id w) (sym h.its_principal) (at_session principals calls h.front s h.behind old)) in
    (its, subst (λ (l : List Session). AreTied principals calls l) (sym h.is) (each_tied principals calls Stays (λ x y p. p) (h.front ++ s ∷ h.behind) (h.passed ++ t ∷ h.behind) all old))

none_accepted : (n : ℕ) (calls : List LinkStep) → AcceptsNone calls → last_accept n calls ≡ None
none_accepted n [] h = refl
none_accepted n (AcceptedAt listener answer ∷ calls) h = absurd h
none_accepted n (ReadFrom id room answer ∷ calls) h = none_accepted n calls h
none_accepted n (WroteTo id bytes answer ∷ calls) h = none_accepted n calls h
none_accepted n (Closed id ∷ calls) h = none_accepted n calls h
none_accepted n (Listened principal answer ∷ calls) h = none_accepted n calls h

-- listeners that were never tried
pub new_listeners : (calls : List LinkStep) (n : ℕ) (principals : List Named) → AcceptsNone calls → AreListenersOf calls n principals (listeners_from n principals)
new_listeners calls n [] h = tt
new_listeners calls n (who ∷ principals) h = (record { number = refl; principal = refl; owed = ap owes_accept (sym (none_accepted n calls h)) }, new_listeners calls (n + 1) principals h)
