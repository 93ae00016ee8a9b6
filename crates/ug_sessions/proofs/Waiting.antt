-- Only handing out takes lines away, and nothing adds any but a read.
use Rattle.std.proofs.Common.{◌≡◌, ℕ, ◌+◌, ◌<◌, ◌≤◌, suc, List, [], ◌∷◌, ◌++◌, length, Bool, true, false, cond, nat_eq, nat_le, sym, ap, ◌∙◌, subst, arith}
use Rattle.ug_links.specs.declared.waiter.LinkId.{LinkId}
use Rattle.ug_types.specs.Principals.{Named}
use Rattle.ug_sessions.specs.declared.session.Session.{Session}
use Rattle.ug_sessions.specs.Answering.{Each, PutsWhere, PutsWithin, put_if, takes_text, with_answer, AnswersIf, NoticesIf, AnswersOne, WatchesOne, NoticesOne, GivesUpOne, RefusesIf, is_due, with_none_left, Passes, HandsFirst, refused_text}
use Rattle.ug_sessions.specs.Sessions.{doomed_for, is_open_session}
use Rattle.ug_sessions.specs.declared.session.Why.TheVariants as why
use Rattle.ug_sessions.specs.Waiting.{lines_waiting}

-- t has no more lines than s
abbrev Fewer : Session → Session → Type 0
Fewer s t = length t.framer.lines ≤ length s.framer.lines

none_less : (n : ℕ) → 0 ≤ n
none_less n = omega arith

same_lines : (s t : Session) → t ≡ s → Fewer s t
same_lines s t e = subst (λ (x : Session). Fewer s x) (sym e) (omega arith)

within : (w : Bool) (s : Session) (text : List ℕ) (t : Session) → PutsWithin w s text t → Fewer s t
within true s text t p =
    let T : Bool → Type 0 = λ m. t ≡ put_if s text m → Fewer s t in
    let f : (m : Bool) → T m = λ m. elim m as T [ true ↦ λ q. subst (λ (x : Session). Fewer s x) (sym q) (omega arith) | false ↦ λ q. subst (λ (x : Session). Fewer s x) (sym q) (none_less (length s.framer.lines)) ] in
    f p.0 p.1
within false s text t p = subst (λ (x : Session). Fewer s x) (sym p) (none_less (length s.framer.lines))

puts_where : (b : Bool) (s : Session) (text : List ℕ) (t : Session) → PutsWhere b s text t → Fewer s t
puts_where true s text t p = within (nat_le (length s.unsent + length text) 1048576) s text t p
puts_where false s text t p = same_lines s t p

answers_fewer : (b : Bool) (s : Session) (text : List ℕ) (t : Session) → AnswersIf b text s t → Fewer s t
answers_fewer true s text t p = puts_where (takes_text (with_answer s)) (with_answer s) text t p
answers_fewer false s text t p = same_lines s t p

notices_fewer : (b : Bool) (s : Session) (text : List ℕ) (t : Session) → NoticesIf b text s t → Fewer s t
notices_fewer true s text t p = puts_where (takes_text s) s text t p
notices_fewer false s text t p = same_lines s t p

watch_fewer : (b : Bool) (s t : Session) → t ≡ cond b (record s { watch = true }) s → Fewer s t
watch_fewer true s t e = subst (λ (x : Session). Fewer s x) (sym e) (omega arith)
watch_fewer false s t e = same_lines s t e

refuses_fewer : (b : Bool) (s t : Session) → RefusesIf b s t → Fewer s t
refuses_fewer true s t p = subst (λ (x : Session). Fewer s x) (sym p.2) (puts_where (takes_text s) s refused_text p.0 p.1)
refuses_fewer false s t p = same_lines s t p

passes_fewer : (s t : Session) → Passes s t → Fewer s t
passes_fewer s t p = refuses_fewer (is_due s) (with_none_left s) t p.1

each_fewer : (R : Session → Session → Type 0) (h : (s t : Session) → R s t → Fewer s t) (xs ys : List Session) → Each R xs ys → lines_waiting ys ≤ lines_waiting xs
each_fewer R h [] [] e = omega arith
each_fewer R h [] (y ∷ ys) e = absurd e
each_fewer R h (x ∷ xs) [] e = absurd e
each_fewer R h (x ∷ xs) (y ∷ ys) e = let here = h x y e.0 in let rest = each_fewer R h xs ys e.1 in let a : length y.framer.lines ≤ length x.framer.lines = here in let b : lines_waiting ys ≤ lines_waiting xs = rest in omega arith

lines_waiting-append : (xs ys : List Session) → lines_waiting (xs ++ ys) ≡ lines_waiting xs + lines_waiting ys
lines_waiting-append [] ys = omega arith
lines_waiting-append (x ∷ xs) ys = let e : lines_waiting (xs ++ ys) ≡ lines_waiting xs + lines_waiting ys = lines_waiting-append xs ys in omega arith

pub answers_no_more : (id : LinkId) (text : List ℕ) (xs ys : List Session) → Each (AnswersOne id text) xs ys → lines_waiting ys ≤ lines_waiting xs
answers_no_more id text xs ys e = each_fewer (AnswersOne id text) (λ s t p. answers_fewer (nat_eq s.id.0 id.0) s text t p) xs ys e

pub watches_no_more : (id : LinkId) (xs ys : List Session) → Each (WatchesOne id) xs ys → lines_waiting ys ≤ lines_waiting xs
watches_no_more id xs ys e = each_fewer (WatchesOne id) (λ s t p. watch_fewer (nat_eq s.id.0 id.0) s t p) xs ys e

pub notices_no_more : (holds : Named → Bool) (text : List ℕ) (xs ys : List Session) → Each (NoticesOne holds text) xs ys → lines_waiting ys ≤ lines_waiting xs
notices_no_more holds text xs ys e = each_fewer (NoticesOne holds text) (λ s t p. notices_fewer (cond s.watch (holds s.principal) false) s text t p) xs ys e

-- a line that was handed out is gone
pub hands_fewer : (xs ys : List Session) (id : LinkId) (principal : Named) (line : List ℕ) → HandsFirst xs id principal line ys → lines_waiting ys < lines_waiting xs
hands_fewer xs ys id principal line h =
    let front : lines_waiting h.passed ≤ lines_waiting h.front = each_fewer Passes passes_fewer h.front h.passed h.none in
    let one : length h.session.framer.lines ≡ suc (length h.after.framer.lines) = ap length h.hands.0 in
    let was : lines_waiting xs ≡ lines_waiting h.front + (length h.session.framer.lines + lines_waiting h.behind) = ap lines_waiting h.was ∙ lines_waiting-append h.front (h.session ∷ h.behind) in
    let is : lines_waiting ys ≡ lines_waiting h.passed + (length h.after.framer.lines + lines_waiting h.behind) = ap lines_waiting h.is ∙ lines_waiting-append h.passed (h.after ∷ h.behind) in
    omega arith

give_up_fewer : (b c : Bool) (s t : Session) → t ≡ cond b (cond c (doomed_for why.Memory s) s) s → Fewer s t
give_up_fewer true true s t e = subst (λ (x : Session). Fewer s x) (sym e) (none_less (length s.framer.lines))
give_up_fewer true false s t e = same_lines s t e
give_up_fewer false c s t e = same_lines s t e

pub gives_up_no_more : (id : LinkId) (xs ys : List Session) → Each (GivesUpOne id) xs ys → lines_waiting ys ≤ lines_waiting xs
gives_up_no_more id xs ys e = each_fewer (GivesUpOne id) (λ s t p. give_up_fewer (nat_eq s.id.0 id.0) (is_open_session s) s t p) xs ys e
