-- What accepting counts.
use Rattle.std.proofs.Common.{◌≡◌, ℕ, zero, suc, ◌+◌, ◌-◌, ◌^◌, ◌<◌, ◌≤◌, min, Bool, true, false, cond, nat_lt, count_by, flat_map, List, [], ◌∷◌, ◌++◌, refl, sym, ap, ◌∙◌, subst, append_assoc, arith}
use Rattle.std.proofs.lemmas.List.{append-nil}
use Rattle.std.proofs.lemmas.List.Sums.{sum_by-cons}
use Rattle.std.proofs.lemmas.Grind.{flat_map-append}
use Rattle.std.proofs.lemmas.Bool.Decides.{nat_tests}
use Rattle.ug_links.specs.declared.waiter.LinkId.{LinkId}
use Rattle.ug_links.specs.declared.waiter.Ready.{Ready}
use Rattle.ug_links.specs.declared.links.Accepted.{Accepted}
use Rattle.ug_links.specs.declared.links.Accepted.TheVariants as accepted
use Rattle.ug_links.specs.declared.step.LinkStep.{LinkStep}
use Rattle.ug_links.specs.declared.step.LinkStep.TheVariants.{AcceptedAt, Closed}
use Rattle.ug_links.specs.Talk.{Return, Path, walk, upto}
use Rattle.ug_links.proofs.Paths.{path_split}
use Rattle.ug_sessions.specs.declared.session.Session.{Session}
use Rattle.ug_sessions.specs.declared.session.Listener.{Listener}
use Rattle.ug_sessions.specs.declared.session.Turn.{Turn}
use Rattle.ug_sessions.specs.declared.session.Why.TheVariants as why
use Rattle.ug_sessions.specs.Sessions.{counted_as, counted_up, is_open_session, new_session, none_counted}
use Rattle.ug_sessions.specs.Accepting.{AtListener, after_room, after_count, after_accepting, accepting_once, accepting_if, accepting_one}
use Rattle.ug_sessions.specs.Arriving.{Arrival, Joins, Finds_full, Finds_no_room, Nobody, Fails, Lacks_memory, calls_in, sessions_in, is_accepted, is_busy, is_failed_arrival, is_short_arrival, KeepLimit, arrivals_counted, AreArrivals}
use Rattle.ug_sessions.specs.Tried.{is_tried}

abbrev after_one : Arrival → Turn → Turn
after_one (Joins n id principal) t = record t { accepted = counted_up t.accepted }
after_one (Finds_full n id) t = record t { busy = counted_up t.busy }
after_one (Finds_no_room n id) t = counted_as why.Memory t
after_one (Nobody n) t = t
after_one (Fails n) t = counted_as why.Failed t
after_one (Lacks_memory n) t = counted_as why.Memory t

abbrev after_all : List Arrival → Turn → Turn
after_all [] t = t
after_all (a ∷ more) t = after_all more (after_one a t)

-- these came, one after another
record Came (ss : List Session) (t : Turn) (steps : List LinkStep) (us : List Session) (u : Turn) : Type 0 where
  arrivals : List Arrival
  calls : steps ≡ flat_map calls_in arrivals
  limit : KeepLimit ss arrivals
  sessions : us ≡ ss ++ flat_map sessions_in arrivals
  counts : u ≡ after_all arrivals t

none_came : (ss : List Session) (t : Turn) (steps : List LinkStep) (us : List Session) (u : Turn) → steps ≡ [] → us ≡ ss → u ≡ t → Came ss t steps us u
none_came ss t steps us u c s e = record { arrivals = []; calls = c; limit = tt; sessions = s ∙ sym (append-nil ss); counts = e }

one_came : (a : Arrival) (ss : List Session) (t : Turn) (steps : List LinkStep) (us : List Session) (u : Turn) → steps ≡ calls_in a → KeepLimit ss (a ∷ []) → us ≡ ss ++ sessions_in a → u ≡ after_one a t → Came ss t steps us u
one_came a ss t steps us u c l s e = record { arrivals = a ∷ []; calls = c ∙ sym (append-nil (calls_in a)); limit = l; sessions = s ∙ ap (λ (x : List Session). ss ++ x) (sym (append-nil (sessions_in a))); counts = e }

limit_behind : (ss : List Session) (xs ys : List Arrival) → KeepLimit ss xs → KeepLimit (ss ++ flat_map sessions_in xs) ys → KeepLimit ss (xs ++ ys)
limit_behind ss [] ys h k = subst (λ (l : List Session). KeepLimit l ys) (append-nil ss) k
limit_behind ss (Joins n id p ∷ xs) ys h k = (h.0, limit_behind (ss ++ new_session id p ∷ []) xs ys h.1 (subst (λ (l : List Session). KeepLimit l ys) (sym (append_assoc ss (new_session id p ∷ []) (flat_map sessions_in xs))) k))
limit_behind ss (Finds_full n id ∷ xs) ys h k = (h.0, limit_behind ss xs ys h.1 k)
limit_behind ss (Finds_no_room n id ∷ xs) ys h k = (h.0, limit_behind ss xs ys h.1 k)
limit_behind ss (Nobody n ∷ xs) ys h k = limit_behind ss xs ys h k
limit_behind ss (Fails n ∷ xs) ys h k = limit_behind ss xs ys h k
limit_behind ss (Lacks_memory n ∷ xs) ys h k = limit_behind ss xs ys h k

counts_behind : (xs ys : List Arrival) (t : Turn) → after_all (xs ++ ys) t ≡ after_all ys (after_all xs t)
counts_behind [] ys t = refl
counts_behind (x ∷ xs) ys t = counts_behind xs ys (after_one x t)

then_came : (ss : List Session) (t : Turn) (a : List LinkStep) (vs : List Session) (v : Turn) (b : List LinkStep) (us : List Session) (u : Turn) → Came ss t a vs v → Came vs v b us u → Came ss t (a ++ b) us u
then_came ss t a vs v b us u h k = record {
  arrivals = h.arrivals ++ k.arrivals;
  calls = ap (λ (l : List LinkStep). l ++ b) h.calls ∙ ap (λ (l : List LinkStep). flat_map calls_in h.arrivals ++ l) k.calls ∙ sym (flat_map-append calls_in h.arrivals k.arrivals);
  limit = limit_behind ss h.arrivals k.arrivals h.limit (subst (λ (l : List Session). KeepLimit l k.arrivals) h.sessions k.limit);
  sessions = k.sessions ∙ ap (λ (l : List Session). l ++ flat_map sessions_in k.arrivals) h.sessions ∙ append_assoc ss (flat_map sessions_in h.arrivals) (flat_map sessions_in k.arrivals) ∙ ap (λ (l : List Session). ss ++ l) (sym (flat_map-append sessions_in h.arrivals k.arrivals));
  counts = k.counts ∙ ap (λ (x : Turn). after_all k.arrivals x) h.counts ∙ sym (counts_behind h.arrivals k.arrivals t);
}

below : (n : ℕ) → nat_lt n 64 ≡ true → n < 64
below n e = grind (arith, nat_tests)

above : (n : ℕ) → nat_lt n 64 ≡ false → 64 ≤ n
above n e = grind (arith, nat_tests)

-- from a listener, sessions and counts to those behind
abbrev CameAt : AtListener → List LinkStep → AtListener → Type 0
CameAt x steps y = Came x.1.0 x.1.1 steps y.1.0 y.1.1

call_then : (x : AtListener) (a : Accepted) (steps rest more : List LinkStep) → steps ≡ AcceptedAt x.0.number a ∷ rest → rest ≡ more → steps ≡ AcceptedAt x.0.number a ∷ more
call_then x a steps rest more e f = e ∙ ap (λ (l : List LinkStep). AcceptedAt x.0.number a ∷ l) f

sessions_same : (x : AtListener) (ss : List Session) → ss ≡ x.1.0 → ss ≡ x.1.0 ++ []
sessions_same x ss e = e ∙ sym (append-nil x.1.0)

room_came : (b : Bool) (x : AtListener) (id : LinkId) (steps rest : List LinkStep) (r : Bool × AtListener) → steps ≡ AcceptedAt x.0.number (accepted.Session id) ∷ rest → count_by is_open_session x.1.0 < 64 → Path (after_room x id b) rest r → CameAt x steps r.1
room_came true x id steps rest r e lt h =
    one_came (Joins x.0.number id x.0.principal) x.1.0 x.1.1 steps r.1.1.0 r.1.1.1 (call_then x (accepted.Session id) steps rest [] e h.1) (lt, tt) (ap (λ (y : Bool × AtListener). y.1.1.0) h.0) (ap (λ (y : Bool × AtListener). y.1.1.1) h.0)
room_came false x id steps rest r e lt h =
    let closes : rest ≡ Closed id ∷ [] = h.1 ∙ ap (λ (l : List LinkStep). Closed id ∷ l) h.2.1 in
    one_came (Finds_no_room x.0.number id) x.1.0 x.1.1 steps r.1.1.0 r.1.1.1 (call_then x (accepted.Session id) steps rest (Closed id ∷ []) e closes) (lt, tt) (sessions_same x r.1.1.0 (ap (λ (y : Bool × AtListener). y.1.1.0) h.2.0)) (ap (λ (y : Bool × AtListener). y.1.1.1) h.2.0)

count_came : (b : Bool) (x : AtListener) (id : LinkId) (steps rest : List LinkStep) (r : Bool × AtListener) → steps ≡ AcceptedAt x.0.number (accepted.Session id) ∷ rest → nat_lt (count_by is_open_session x.1.0) 64 ≡ b → Path (after_count x id b) rest r → CameAt x steps r.1
count_came true x id steps rest r e n h = room_came h.0 x id steps rest r e (below (count_by is_open_session x.1.0) n) h.1
count_came false x id steps rest r e n h =
    let closes : rest ≡ Closed id ∷ [] = h.1 ∙ ap (λ (l : List LinkStep). Closed id ∷ l) h.2.1 in
    one_came (Finds_full x.0.number id) x.1.0 x.1.1 steps r.1.1.0 r.1.1.1 (call_then x (accepted.Session id) steps rest (Closed id ∷ []) e closes) (above (count_by is_open_session x.1.0) n, tt) (sessions_same x r.1.1.0 (ap (λ (y : Bool × AtListener). y.1.1.0) h.2.0)) (ap (λ (y : Bool × AtListener). y.1.1.1) h.2.0)

answer_came : (a : Accepted) (x : AtListener) (steps rest : List LinkStep) (r : Bool × AtListener) → steps ≡ AcceptedAt x.0.number a ∷ rest → Path (after_accepting x a) rest r → CameAt x steps r.1
answer_came (accepted.Session id) x steps rest r e h = count_came (nat_lt (count_by is_open_session x.1.0) 64) x id steps rest r e refl h
answer_came accepted.NotYet x steps rest r e h =
    one_came (Nobody x.0.number) x.1.0 x.1.1 steps r.1.1.0 r.1.1.1 (call_then x accepted.NotYet steps rest [] e h.1) tt (sessions_same x r.1.1.0 (ap (λ (y : Bool × AtListener). y.1.1.0) h.0)) (ap (λ (y : Bool × AtListener). y.1.1.1) h.0)
answer_came accepted.Failed x steps rest r e h =
    one_came (Fails x.0.number) x.1.0 x.1.1 steps r.1.1.0 r.1.1.1 (call_then x accepted.Failed steps rest [] e h.1) tt (sessions_same x r.1.1.0 (ap (λ (y : Bool × AtListener). y.1.1.0) h.0)) (ap (λ (y : Bool × AtListener). y.1.1.1) h.0)
answer_came accepted.Memory x steps rest r e h =
    one_came (Lacks_memory x.0.number) x.1.0 x.1.1 steps r.1.1.0 r.1.1.1 (call_then x accepted.Memory steps rest [] e h.1) tt (sessions_same x r.1.1.0 (ap (λ (y : Bool × AtListener). y.1.1.0) h.0)) (ap (λ (y : Bool × AtListener). y.1.1.1) h.0)

once_came : (x : AtListener) (steps : List LinkStep) (r : Bool × AtListener) → Path (accepting_once x) steps r → CameAt x steps r.1
unfolding accepting_once
once_came x steps r h = answer_came h.0 x steps h.1 r h.2 h.3

same_came : (x r : AtListener) (steps : List LinkStep) → r ≡ x → steps ≡ [] → CameAt x steps r
same_came x r steps e f = none_came x.1.0 x.1.1 steps r.1.0 r.1.1 f (ap (λ (y : AtListener). y.1.0) e) (ap (λ (y : AtListener). y.1.1) e)

upto_came : (n : ℕ) (x : AtListener) (steps : List LinkStep) (r : AtListener) → Path (upto accepting_once n x) steps r → CameAt x steps r
unfolding upto
upto_came zero x steps r h = same_came x r steps h.0 h.1
upto_came (suc n) x steps r h =
    let p = path_split (accepting_once x) (λ (q : Bool × AtListener). cond q.0 (upto accepting_once n q.1) (Return q.1)) steps r h in
    let T : Bool → Type 0 = λ v. Path (cond v (upto accepting_once n p.value.1) (Return p.value.1)) p.rest r → CameAt p.value.1 p.rest r in
    let k : (v : Bool) → T v = λ v. elim v as T [
      | true ↦ λ q. upto_came n p.value.1 p.rest r q
      | false ↦ λ q. same_came p.value.1 r p.rest q.0 q.1
    ] in
    subst (λ (l : List LinkStep). CameAt x l r) (sym p.whole)
    (then_came x.1.0 x.1.1 p.front p.value.1.1.0 p.value.1.1.1 p.rest r.1.0 r.1.1 (once_came x p.front p.value p.first) (k p.value.0 p.second))

if_came : (b : Bool) (x : AtListener) (steps : List LinkStep) (r : AtListener) → Path (accepting_if b x) steps r → CameAt x steps r
if_came true x steps r h = upto_came 64 x steps r h
if_came false x steps r h = same_came x r steps h.0 h.1

one_listener : (ready : List Ready) (l : Listener) (x : List Session × Turn) (steps : List LinkStep) (r : AtListener) → Path (accepting_one ready l x) steps r → Came x.0 x.1 steps r.1.0 r.1.1
unfolding accepting_one
one_listener ready l x steps r h = if_came (is_tried ready l) (l, x) steps r h

walk_came : (ready : List Ready) (done ls : List Listener) (x : List Session × Turn) (steps : List LinkStep) (r : List Listener × (List Session × Turn)) → Path (walk (accepting_one ready) done ls x) steps r → Came x.0 x.1 steps r.1.0 r.1.1
walk_came ready done [] x steps r h = none_came x.0 x.1 steps r.1.0 r.1.1 h.1 (ap (λ (y : List Listener × (List Session × Turn)). y.1.0) h.0) (ap (λ (y : List Listener × (List Session × Turn)). y.1.1) h.0)
walk_came ready done (l ∷ ls) x steps r h =
    let p = path_split (accepting_one ready l x) (λ (q : AtListener). walk (accepting_one ready) (done ++ q.0 ∷ []) ls q.1) steps r h in
    subst (λ (k : List LinkStep). Came x.0 x.1 k r.1.0 r.1.1) (sym p.whole)
    (then_came x.0 x.1 p.front p.value.1.0 p.value.1.1 p.rest r.1.0 r.1.1 (one_listener ready l x p.front p.value p.first) (walk_came ready (done ++ p.value.0 ∷ []) ls p.value.1 p.rest r p.second))

abbrev with_counts : ℕ → ℕ → ℕ → ℕ → Turn
with_counts a b f m = record { accepted = a; busy = b; ended = 0; failed = f; backlog = 0; too_long = 0; memory = m }

-- one more, and then so many, up to the greatest number
abbrev plus : ℕ → ℕ → ℕ
plus n k = min (n + k) (2 ^ 32 - 1)

abbrev top : ℕ → Type 0
top n = n ≤ 2 ^ 32 - 1

plus_none : (n k : ℕ) → top n → k ≡ 0 → n ≡ plus n k
plus_none n k le e = omega (arith, le, e)

plus_one : (n k j : ℕ) → k ≡ 1 + j → plus (counted_up n) j ≡ plus n k
plus_one n k j e = omega (arith, e)

plus_other : (n k j : ℕ) → k ≡ 0 + j → plus n j ≡ plus n k
plus_other n k j e = omega (arith, e)

up_top : (n : ℕ) → top (counted_up n)
up_top n = omega arith

abbrev how_many : (Arrival → Bool) → List Arrival → ℕ
how_many p xs = count_by p xs

first_counted : (p : Arrival → Bool) (a : Arrival) (xs : List Arrival) → how_many p (a ∷ xs) ≡ cond (p a) 1 0 + how_many p xs
first_counted p a xs = sum_by-cons (λ (x : Arrival). cond (p x) 1 0) a xs

same_counts : (a b f m a' b' f' m' : ℕ) → a ≡ a' → b ≡ b' → f ≡ f' → m ≡ m' → with_counts a b f m ≡ with_counts a' b' f' m'
same_counts a b f m a' b' f' m' e g h k =
    ap (λ (n : ℕ). with_counts n b f m) e ∙ ap (λ (n : ℕ). with_counts a' n f m) g ∙ ap (λ (n : ℕ). with_counts a' b' n m) h ∙ ap (λ (n : ℕ). with_counts a' b' f' n) k

abbrev summed : List Arrival → ℕ → ℕ → ℕ → ℕ → Turn
summed xs a b f m = with_counts (plus a (how_many is_accepted xs)) (plus b (how_many is_busy xs)) (plus f (how_many is_failed_arrival xs)) (plus m (how_many is_short_arrival xs))

-- one field is one more, and the others stay
other : (p : Arrival → Bool) (x : Arrival) (xs : List Arrival) (n : ℕ) → p x ≡ false → plus n (how_many p xs) ≡ plus n (how_many p (x ∷ xs))
other p x xs n e = plus_other n (how_many p (x ∷ xs)) (how_many p xs) (first_counted p x xs ∙ ap (λ (b : Bool). cond b 1 0 + how_many p xs) e)

this : (p : Arrival → Bool) (x : Arrival) (xs : List Arrival) (n : ℕ) → p x ≡ true → plus (counted_up n) (how_many p xs) ≡ plus n (how_many p (x ∷ xs))
this p x xs n e = plus_one n (how_many p (x ∷ xs)) (how_many p xs) (first_counted p x xs ∙ ap (λ (b : Bool). cond b 1 0 + how_many p xs) e)

all_counted : (xs : List Arrival) (a b f m : ℕ) → top a → top b → top f → top m → after_all xs (with_counts a b f m) ≡ summed xs a b f m
all_counted [] a b f m ta tb tf tm = same_counts a b f m _ _ _ _ (plus_none a 0 ta refl) (plus_none b 0 tb refl) (plus_none f 0 tf refl) (plus_none m 0 tm refl)
all_counted (Joins n id p ∷ xs) a b f m ta tb tf tm =
    let x : Arrival = Joins n id p in
    all_counted xs (counted_up a) b f m (up_top a) tb tf tm ∙ same_counts _ _ _ _ _ _ _ _ (this is_accepted x xs a refl) (other is_busy x xs b refl) (other is_failed_arrival x xs f refl) (other is_short_arrival x xs m refl)
all_counted (Finds_full n id ∷ xs) a b f m ta tb tf tm =
    let x : Arrival = Finds_full n id in
    all_counted xs a (counted_up b) f m ta (up_top b) tf tm ∙ same_counts _ _ _ _ _ _ _ _ (other is_accepted x xs a refl) (this is_busy x xs b refl) (other is_failed_arrival x xs f refl) (other is_short_arrival x xs m refl)
all_counted (Finds_no_room n id ∷ xs) a b f m ta tb tf tm =
    let x : Arrival = Finds_no_room n id in
    all_counted xs a b f (counted_up m) ta tb tf (up_top m) ∙ same_counts _ _ _ _ _ _ _ _ (other is_accepted x xs a refl) (other is_busy x xs b refl) (other is_failed_arrival x xs f refl) (this is_short_arrival x xs m refl)
all_counted (Nobody n ∷ xs) a b f m ta tb tf tm =
    let x : Arrival = Nobody n in
    all_counted xs a b f m ta tb tf tm ∙ same_counts _ _ _ _ _ _ _ _ (other is_accepted x xs a refl) (other is_busy x xs b refl) (other is_failed_arrival x xs f refl) (other is_short_arrival x xs m refl)
all_counted (Fails n ∷ xs) a b f m ta tb tf tm =
    let x : Arrival = Fails n in
    all_counted xs a b (counted_up f) m ta tb (up_top f) tm ∙ same_counts _ _ _ _ _ _ _ _ (other is_accepted x xs a refl) (other is_busy x xs b refl) (this is_failed_arrival x xs f refl) (other is_short_arrival x xs m refl)
all_counted (Lacks_memory n ∷ xs) a b f m ta tb tf tm =
    let x : Arrival = Lacks_memory n in
    all_counted xs a b f (counted_up m) ta tb tf (up_top m) ∙ same_counts _ _ _ _ _ _ _ _ (other is_accepted x xs a refl) (other is_busy x xs b refl) (other is_failed_arrival x xs f refl) (this is_short_arrival x xs m refl)

zero_top : top 0
zero_top = omega arith

plus_zero : (k : ℕ) → plus 0 k ≡ min k (2 ^ 32 - 1)
plus_zero k = omega arith

from_none : (xs : List Arrival) → after_all xs none_counted ≡ arrivals_counted xs
from_none xs = all_counted xs 0 0 0 0 zero_top zero_top zero_top zero_top ∙ same_counts _ _ _ _ _ _ _ _ (plus_zero (how_many is_accepted xs)) (plus_zero (how_many is_busy xs)) (plus_zero (how_many is_failed_arrival xs)) (plus_zero (how_many is_short_arrival xs))

pub accepts_counted : (ready : List Ready) (ls : List Listener) (ss : List Session) (steps : List LinkStep) (r : List Listener × (List Session × Turn)) → Path (walk (accepting_one ready) [] ls (ss, none_counted)) steps r → AreArrivals ss steps r.1.0 r.1.1
accepts_counted ready ls ss steps r h =
    let k = walk_came ready [] ls (ss, none_counted) steps r h in
    record { arrivals = k.arrivals; calls = k.calls; limit = k.limit; sessions = k.sessions; counted = k.counts ∙ from_none k.arrivals }
