-- No listener is tried but those that are named or owed a try.
use Rattle.std.proofs.Common.{◌≡◌, ℕ, zero, suc, Bool, true, false, cond, nat_lt, count_by, List, [], ◌∷◌, ◌++◌, inl, inr, refl, sym, ap, ◌∙◌, subst}
use Rattle.ug_links.specs.declared.waiter.LinkId.{LinkId}
use Rattle.ug_links.specs.declared.waiter.Ready.{Ready}
use Rattle.ug_links.specs.declared.links.Accepted.{Accepted}
use Rattle.ug_links.specs.declared.links.Accepted.TheVariants as accepted
use Rattle.ug_links.specs.declared.step.LinkStep.{LinkStep}
use Rattle.ug_links.specs.declared.step.LinkStep.TheVariants.{Listened, AcceptedAt, ReadFrom, WroteTo, Closed}
use Rattle.ug_links.specs.Talk.{Return, Path, walk, upto}
use Rattle.ug_links.proofs.Paths.{path_split}
use Rattle.ug_sessions.specs.declared.session.Session.{Session}
use Rattle.ug_sessions.specs.declared.session.Listener.{Listener}
use Rattle.ug_sessions.specs.declared.session.Turn.{Turn}
use Rattle.ug_sessions.specs.Sessions.{is_open_session}
use Rattle.ug_sessions.specs.Accepting.{AtListener, after_room, after_count, after_accepting, accepting_once, accepting_if, accepting_one}
use Rattle.ug_sessions.specs.Tried.{is_tried, IsOneTried, AllAccepted}

all_append : (P : ℕ → Type 0) (a b : List LinkStep) → AllAccepted P a → AllAccepted P b → AllAccepted P (a ++ b)
all_append P [] b h k = k
all_append P (step ∷ a) b h k = (h.0, all_append P a b h.1 k)

all_none : (P : ℕ → Type 0) (steps : List LinkStep) → steps ≡ [] → AllAccepted P steps
all_none P steps e = subst (λ (l : List LinkStep). AllAccepted P l) (sym e) tt

weaker : (P Q : ℕ → Type 0) (f : (n : ℕ) → P n → Q n) (steps : List LinkStep) → AllAccepted P steps → AllAccepted Q steps
weaker P Q f [] h = tt
weaker P Q f (AcceptedAt listener answer ∷ steps) h = (f listener h.0, weaker P Q f steps h.1)
weaker P Q f (Closed id ∷ steps) h = (tt, weaker P Q f steps h.1)
weaker P Q f (ReadFrom id room answer ∷ steps) h = absurd h.0
weaker P Q f (WroteTo id bytes answer ∷ steps) h = absurd h.0
weaker P Q f (Listened principal answer ∷ steps) h = absurd h.0

-- the accepts of a listener are its own, and it keeps its number
record Accepts (n : ℕ) (steps : List LinkStep) (r : AtListener) : Type 0 where
  all : AllAccepted (λ m. n ≡ m) steps
  same : r.0.number ≡ n

closing : (P : ℕ → Type 0) (id : LinkId) (steps rest : List LinkStep) → steps ≡ Closed id ∷ rest → rest ≡ [] → AllAccepted P steps
closing P id steps rest e f = subst (λ (l : List LinkStep). AllAccepted P l) (sym e) (tt, all_none P rest f)

room_steps : (b : Bool) (x : AtListener) (id : LinkId) (steps : List LinkStep) (r : Bool × AtListener) → Path (after_room x id b) steps r → Accepts x.0.number steps r.1
room_steps true x id steps r h = record { all = all_none _ steps h.1; same = ap (λ (y : Bool × AtListener). y.1.0.number) h.0 }
room_steps false x id steps r h = record { all = closing _ id steps h.0 h.1 h.2.1; same = ap (λ (y : Bool × AtListener). y.1.0.number) h.2.0 }

count_steps : (b : Bool) (x : AtListener) (id : LinkId) (steps : List LinkStep) (r : Bool × AtListener) → Path (after_count x id b) steps r → Accepts x.0.number steps r.1
count_steps true x id steps r h = room_steps h.0 x id steps r h.1
count_steps false x id steps r h = record { all = closing _ id steps h.0 h.1 h.2.1; same = ap (λ (y : Bool × AtListener). y.1.0.number) h.2.0 }

accept_steps : (a : Accepted) (x : AtListener) (steps : List LinkStep) (r : Bool × AtListener) → Path (after_accepting x a) steps r → Accepts x.0.number steps r.1
accept_steps (accepted.Session id) x steps r h = count_steps (nat_lt (count_by is_open_session x.1.0) 64) x id steps r h
accept_steps accepted.NotYet x steps r h = record { all = all_none _ steps h.1; same = ap (λ (y : Bool × AtListener). y.1.0.number) h.0 }
accept_steps accepted.Failed x steps r h = record { all = all_none _ steps h.1; same = ap (λ (y : Bool × AtListener). y.1.0.number) h.0 }
accept_steps accepted.Memory x steps r h = record { all = all_none _ steps h.1; same = ap (λ (y : Bool × AtListener). y.1.0.number) h.0 }

once_steps : (x : AtListener) (steps : List LinkStep) (r : Bool × AtListener) → Path (accepting_once x) steps r → Accepts x.0.number steps r.1
unfolding accepting_once
once_steps x steps r h =
    let k : Accepts x.0.number h.1 r.1 = accept_steps h.0 x h.1 r h.3 in
    record { all = subst (λ (l : List LinkStep). AllAccepted (λ m. x.0.number ≡ m) l) (sym h.2) (refl, k.all); same = k.same }

upto_steps : (n : ℕ) (x : AtListener) (steps : List LinkStep) (r : AtListener) → Path (upto accepting_once n x) steps r → AllAccepted (λ m. x.0.number ≡ m) steps
unfolding upto
upto_steps zero x steps r h = all_none _ steps h.1
upto_steps (suc n) x steps r h =
    let k = path_split (accepting_once x) (λ (q : Bool × AtListener). cond q.0 (upto accepting_once n q.1) (Return q.1)) steps r h in
    let first : Accepts x.0.number k.front k.value.1 = once_steps x k.front k.value k.first in
    let T : Bool → Type 0 = λ v. Path (cond v (upto accepting_once n k.value.1) (Return k.value.1)) k.rest r → AllAccepted (λ m. k.value.1.0.number ≡ m) k.rest in
    let f : (v : Bool) → T v = λ v. elim v as T [ true ↦ λ p. upto_steps n k.value.1 k.rest r p | false ↦ λ p. all_none _ k.rest p.1 ] in
    let own : (m : ℕ) → k.value.1.0.number ≡ m → x.0.number ≡ m = λ m e. sym first.same ∙ e in
    subst (λ (l : List LinkStep). AllAccepted (λ m. x.0.number ≡ m) l) (sym k.whole) (all_append _ k.front k.rest first.all (weaker (λ m. k.value.1.0.number ≡ m) (λ m. x.0.number ≡ m) own k.rest (f k.value.0 k.second)))

abbrev One : List Ready → Listener → ℕ → Type 0
One ready l n = (l.number ≡ n) × (is_tried ready l ≡ true)

if_steps : (b : Bool) (ready : List Ready) (l : Listener) (x : List Session × Turn) (steps : List LinkStep) (r : AtListener) → is_tried ready l ≡ b → Path (accepting_if b (l, x)) steps r → AllAccepted (One ready l) steps
if_steps true ready l x steps r e h = weaker (λ m. l.number ≡ m) (One ready l) (λ m o. (o, e)) steps (upto_steps 64 (l, x) steps r h)
if_steps false ready l x steps r e h = all_none _ steps h.1

one_steps : (ready : List Ready) (l : Listener) (x : List Session × Turn) (steps : List LinkStep) (r : AtListener) → Path (accepting_one ready l x) steps r → AllAccepted (One ready l) steps
unfolding accepting_one
one_steps ready l x steps r h = if_steps (is_tried ready l) ready l x steps r refl h

pub walk_accepts : (ready : List Ready) (done ls : List Listener) (x : List Session × Turn) (steps : List LinkStep) (r : List Listener × (List Session × Turn)) → Path (walk (accepting_one ready) done ls x) steps r → AllAccepted (IsOneTried ready ls) steps
walk_accepts ready done [] x steps r h = all_none _ steps h.1
walk_accepts ready done (l ∷ ls) x steps r h =
    let p = path_split (accepting_one ready l x) (λ (q : AtListener). walk (accepting_one ready) (done ++ q.0 ∷ []) ls q.1) steps r h in
    let here : AllAccepted (IsOneTried ready (l ∷ ls)) p.front = weaker (One ready l) (IsOneTried ready (l ∷ ls)) (λ n o. inl o) p.front (one_steps ready l x p.front p.value p.first) in
    let there : AllAccepted (IsOneTried ready (l ∷ ls)) p.rest = weaker (IsOneTried ready ls) (IsOneTried ready (l ∷ ls)) (λ n o. inr o) p.rest (walk_accepts ready (done ++ p.value.0 ∷ []) ls p.value.1 p.rest r p.second) in
    subst (λ (s : List LinkStep). AllAccepted (IsOneTried ready (l ∷ ls)) s) (sym p.whole) (all_append _ p.front p.rest here there)
