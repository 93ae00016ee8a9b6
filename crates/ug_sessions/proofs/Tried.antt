-- No session is read but those that are named or owed a try.
use Rattle.std.proofs.Common.{◌≡◌, ℕ, zero, suc, Bool, true, false, cond, List, [], ◌∷◌, ◌++◌, ◌⊎◌, inl, inr, refl, sym, ap, ◌∙◌, subst}
use Rattle.ug_links.specs.declared.waiter.LinkId.{LinkId}
use Rattle.ug_links.specs.declared.waiter.Ready.{Ready}
use Rattle.ug_links.specs.declared.step.LinkStep.{LinkStep}
use Rattle.ug_links.specs.declared.step.LinkStep.TheVariants.{Listened, AcceptedAt, ReadFrom, WroteTo, Closed}
use Rattle.ug_links.specs.declared.step.Reading.{Reading}
use Rattle.ug_links.specs.declared.step.Reading.TheVariants.{Bytes, NotYet, End, Failed}
use Rattle.ug_links.specs.Talk.{Return, Path, walk, upto}
use Rattle.ug_links.proofs.Paths.{path_split}
use Rattle.ug_sessions.specs.declared.session.Session.{Session}
use Rattle.ug_sessions.specs.declared.session.Turn.{Turn}
use Rattle.ug_sessions.specs.declared.session.Life.{Life}
use Rattle.ug_sessions.specs.declared.session.Life.TheVariants as life
use Rattle.ug_sessions.specs.declared.session.Why.{Why}
use Rattle.ug_sessions.specs.Tokens.{is_read}
use Rattle.ug_sessions.specs.Sessions.{closed_for}
use Rattle.ug_sessions.specs.Reading.{after_feed, after_read_answer, reading_piece, closing_by, closing_doomed, reading_if, reading_one}
use Rattle.ug_sessions.specs.Tried.{IsOneRead, AllRead}
use Rattle.ug_sessions.proofs.Sends.{Rests, doomed_rests}

all_append : (P : LinkId → Type 0) (a b : List LinkStep) → AllRead P a → AllRead P b → AllRead P (a ++ b)
all_append P [] b h k = k
all_append P (step ∷ a) b h k = (h.0, all_append P a b h.1 k)

all_none : (P : LinkId → Type 0) (steps : List LinkStep) → steps ≡ [] → AllRead P steps
all_none P steps e = subst (λ (l : List LinkStep). AllRead P l) (sym e) tt

weaker : (P Q : LinkId → Type 0) (f : (id : LinkId) → P id → Q id) (steps : List LinkStep) → AllRead P steps → AllRead Q steps
weaker P Q f [] h = tt
weaker P Q f (ReadFrom id room answer ∷ steps) h = (f id h.0, weaker P Q f steps h.1)
weaker P Q f (Closed id ∷ steps) h = (tt, weaker P Q f steps h.1)
weaker P Q f (AcceptedAt listener answer ∷ steps) h = absurd h.0
weaker P Q f (WroteTo id bytes answer ∷ steps) h = absurd h.0
weaker P Q f (Listened principal answer ∷ steps) h = absurd h.0

abbrev Own : Session → LinkId → Type 0
Own s id = s.id ≡ id

-- the reads of a session are its own, and it keeps its id
record Reads (s : Session) (steps : List LinkStep) (r : Session) : Type 0 where
  all : AllRead (Own s) steps
  same : r.id ≡ s.id

closing : (P : LinkId → Type 0) (id : LinkId) (steps rest : List LinkStep) → steps ≡ Closed id ∷ rest → rest ≡ [] → AllRead P steps
closing P id steps rest e f = subst (λ (l : List LinkStep). AllRead P l) (sym e) (tt, all_none P rest f)

fed_steps : (b : Bool) (s : Session) (t : Turn) (bytes : List ℕ) (steps : List LinkStep) (r : Bool × (Session × Turn)) → Path (after_feed s t bytes b) steps r → Reads s steps r.1.0
fed_steps true s t bytes steps r h = record { all = all_none (Own s) steps h.1; same = ap (λ (x : Bool × (Session × Turn)). x.1.0.id) h.0 }
fed_steps false s t bytes steps r h = record { all = closing (Own s) s.id steps h.0 h.1 h.2.1; same = ap (λ (x : Bool × (Session × Turn)). x.1.0.id) h.2.0 }

answer_steps : (a : Reading) (s : Session) (t : Turn) (steps : List LinkStep) (r : Bool × (Session × Turn)) → Path (after_read_answer s t a) steps r → Reads s steps r.1.0
answer_steps (Bytes bytes) s t steps r h = fed_steps h.0 s t bytes steps r h.1
answer_steps NotYet s t steps r h = record { all = all_none (Own s) steps h.1; same = ap (λ (x : Bool × (Session × Turn)). x.1.0.id) h.0 }
answer_steps End s t steps r h = record { all = all_none (Own s) steps h.1; same = ap (λ (x : Bool × (Session × Turn)). x.1.0.id) h.0 }
answer_steps Failed s t steps r h = record { all = closing (Own s) s.id steps h.0 h.1 h.2.1; same = ap (λ (x : Bool × (Session × Turn)). x.1.0.id) h.2.0 }

piece_steps : (s : Session) (t : Turn) (steps : List LinkStep) (r : Bool × (Session × Turn)) → Path (reading_piece (s, t)) steps r → Reads s steps r.1.0
unfolding reading_piece
piece_steps s t steps r h =
    let k : Reads s h.1 r.1.0 = answer_steps h.0 s t h.1 r h.3 in
    record { all = subst (λ (l : List LinkStep). AllRead (Own s) l) (sym h.2) (refl, k.all); same = k.same }

upto_steps : (n : ℕ) (s : Session) (t : Turn) (steps : List LinkStep) (r : Session × Turn) → Path (upto reading_piece n (s, t)) steps r → AllRead (Own s) steps
unfolding upto
upto_steps zero s t steps r h = all_none (Own s) steps h.1
upto_steps (suc n) s t steps r h =
    let k = path_split (reading_piece (s, t)) (λ (q : Bool × (Session × Turn)). cond q.0 (upto reading_piece n q.1) (Return q.1)) steps r h in
    let first : Reads s k.front k.value.1.0 = piece_steps s t k.front k.value k.first in
    let T : Bool → Type 0 = λ v. Path (cond v (upto reading_piece n k.value.1) (Return k.value.1)) k.rest r → AllRead (Own k.value.1.0) k.rest in
    let f : (v : Bool) → T v = λ v. elim v as T [
      | true ↦ λ p. upto_steps n k.value.1.0 k.value.1.1 k.rest r p
      | false ↦ λ p. all_none (Own k.value.1.0) k.rest p.1
    ] in
    let own : (id : LinkId) → Own k.value.1.0 id → Own s id = λ id e. sym first.same ∙ e in
    subst (λ (l : List LinkStep). AllRead (Own s) l) (sym k.whole) (all_append (Own s) k.front k.rest first.all (weaker (Own k.value.1.0) (Own s) own k.rest (f k.value.0 k.second)))

-- closing a link reads nothing
pub doomed_steps : (l : Life) (P : LinkId → Type 0) (s : Session) (t : Turn) (steps : List LinkStep) (r : Session × Turn) → Path (closing_by l s t) steps r → AllRead P steps
doomed_steps life.Open P s t steps r h = all_none P steps h.1
doomed_steps (life.Closed w) P s t steps r h = all_none P steps h.1
doomed_steps (life.Doomed w) P s t steps r h = closing P s.id steps h.0 h.1 h.2.1

-- what is to be read afterwards was to be read before
abbrev pub One : List Ready → Session → LinkId → Type 0
One ready s id = (s.id ≡ id) × (is_read ready s ≡ true)

was_read : (ready : List Ready) (s r : Session) → (r ≡ s) ⊎ ((w : Why) × (r ≡ closed_for w s)) → is_read ready r ≡ true → (id : LinkId) → Own r id → One ready s id
was_read ready s r (inl p) e id o = (sym (ap (λ (x : Session). x.id) p) ∙ o, sym (ap (is_read ready) p) ∙ e)
was_read ready s r (inr p) e id o = let none : false ≡ true = sym (ap (is_read ready) p.1) ∙ e in let no_way : ⊥ = cc in absurd no_way

if_steps : (b : Bool) (ready : List Ready) (s q : Session) (t : Turn) (steps : List LinkStep) (r : Session × Turn) → (q ≡ s) ⊎ ((w : Why) × (q ≡ closed_for w s)) → is_read ready q ≡ b → Path (reading_if b q t) steps r → AllRead (One ready s) steps
if_steps true ready s q t steps r w e h = weaker (Own q) (One ready s) (was_read ready s q w e) steps (upto_steps 16 q t steps r h)
if_steps false ready s q t steps r w e h = all_none (One ready s) steps h.1

pub one_steps : (ready : List Ready) (s : Session) (t : Turn) (steps : List LinkStep) (r : Session × Turn) → Path (reading_one ready s t) steps r → AllRead (One ready s) steps
unfolding reading_one closing_doomed
one_steps ready s t steps r h =
    let p = path_split (closing_doomed s t) (λ (q : Session × Turn). reading_if (is_read ready q.0) q.0 q.1) steps r h in
    let e : Rests s p.front p.value.0 = doomed_rests s.life s t p.front p.value p.first in
    subst (λ (l : List LinkStep). AllRead (One ready s) l) (sym p.whole)
    (all_append (One ready s) p.front p.rest (doomed_steps s.life (One ready s) s t p.front p.value p.first) (if_steps (is_read ready p.value.0) ready s p.value.0 p.value.1 p.rest r e.is refl p.second))

pub walk_steps : (ready : List Ready) (done ss : List Session) (t : Turn) (steps : List LinkStep) (r : List Session × Turn) → Path (walk (reading_one ready) done ss t) steps r → AllRead (IsOneRead ready ss) steps
walk_steps ready done [] t steps r h = all_none (IsOneRead ready []) steps h.1
walk_steps ready done (s ∷ ss) t steps r h =
    let p = path_split (reading_one ready s t) (λ (q : Session × Turn). walk (reading_one ready) (done ++ q.0 ∷ []) ss q.1) steps r h in
    let here : AllRead (IsOneRead ready (s ∷ ss)) p.front = weaker (One ready s) (IsOneRead ready (s ∷ ss)) (λ id o. inl o) p.front (one_steps ready s t p.front p.value p.first) in
    let there : AllRead (IsOneRead ready (s ∷ ss)) p.rest = weaker (IsOneRead ready ss) (IsOneRead ready (s ∷ ss)) (λ id o. inr o) p.rest (walk_steps ready (done ++ p.value.0 ∷ []) ss p.value.1 p.rest r p.second) in
    subst (λ (l : List LinkStep). AllRead (IsOneRead ready (s ∷ ss)) l) (sym p.whole) (all_append (IsOneRead ready (s ∷ ss)) p.front p.rest here there)
