-- Whose a session is: of the one listener at which it came, since no id comes twice.
use Rattle.std.proofs.Common.{◌≡◌, ℕ, ◌+◌, ◌≤◌, max, List, [], ◌∷◌, ◌++◌, Some, Result, inl, inr, refl, sym, ◌∙◌, ap, subst, arith}
use Rattle.ug_types.specs.Elements.{Has}
use Rattle.ug_types.specs.Principals.{Named}
use Rattle.ug_links.specs.declared.waiter.LinkId.{LinkId}
use Rattle.ug_links.specs.declared.links.Accepted.TheVariants as accepted
use Rattle.ug_links.specs.declared.links.Listening.{Listening}
use Rattle.ug_links.specs.declared.links.Listening.TheVariants as heard
use Rattle.ug_links.specs.declared.step.LinkStep.{LinkStep}
use Rattle.ug_links.specs.declared.step.LinkStep.TheVariants.{Listened, AcceptedAt, ReadFrom, WroteTo, Closed}
use Rattle.ug_links.specs.Steps.{IsStep, ids_end}
use Rattle.ug_links.specs.Talk.{AreSteps, Path}
use Rattle.ug_sessions.specs.Known.{AreCallsBelow}
use Rattle.ug_sessions.specs.Tied.{AcceptsNone, IsWhose, principal_at}
use Rattle.ug_sessions.proofs.Accepted.{ids_behind}
use Rattle.ug_serve.specs.Listening.{listened, listening, unless_refused}
use Rattle.ug_serve.specs.declared.listening.NotListening.{NotListening}
use Rattle.ug_serve.proofs.Others.{IsLeftAlone}

abbrev listener_of : LinkStep → ℕ
listener_of (AcceptedAt n answer) = n
listener_of step = 0

came_late : (n : ℕ) (id : LinkId) (before steps : List LinkStep) → AreSteps before steps → Has steps (AcceptedAt n (accepted.Session id)) → ids_end before ≤ id.0
came_late n id before [] a h = absurd h
came_late n id before (step ∷ steps) a (inl e) = subst (λ (x : LinkStep). IsStep before x) e a.0
came_late n id before (step ∷ steps) a (inr h) =
    let late = came_late n id (before ++ step ∷ []) steps a.1 h in
    let ends = ids_behind before (step ∷ []) in
    omega (arith, late, ends)

not_again : (n m : ℕ) (id : LinkId) (before steps : List LinkStep) (step : LinkStep) → step ≡ AcceptedAt n (accepted.Session id) → AreSteps (before ++ step ∷ []) steps → Has steps (AcceptedAt m (accepted.Session id)) → ⊥
not_again n m id before steps step e a h =
    let late : ids_end (before ++ step ∷ []) ≤ id.0 = came_late m id (before ++ step ∷ []) steps a h in
    let ends : ids_end (before ++ step ∷ []) ≡ max (ids_end before) (max (id.0 + 1) 0) = ids_behind before (step ∷ []) ∙ ap (λ (x : LinkStep). max (ids_end before) (ids_end (x ∷ []))) e in
    omega (arith, late, ends)

came_once : (n m : ℕ) (id : LinkId) (before steps : List LinkStep) → AreSteps before steps → Has steps (AcceptedAt n (accepted.Session id)) → Has steps (AcceptedAt m (accepted.Session id)) → n ≡ m
came_once n m id before [] a h k = absurd h
came_once n m id before (step ∷ steps) a (inl e) (inl f) = ap listener_of (sym e ∙ f)
came_once n m id before (step ∷ steps) a (inl e) (inr k) = absurd (not_again n m id before steps step e a.1 k)
came_once n m id before (step ∷ steps) a (inr h) (inl f) = absurd (not_again m n id before steps step f a.1 h)
came_once n m id before (step ∷ steps) a (inr h) (inr k) = came_once n m id (before ++ step ∷ []) steps a.1 h k

pub whose_one : (principals : List Named) (all : List LinkStep) → AreSteps [] all → (id : LinkId) (p who : Named) → IsWhose principals all id p → IsWhose principals all id who → p ≡ who
whose_one principals all a id p who h k =
    let at : h.0 ≡ k.0 = came_once h.0 k.0 id [] all a h.1 k.1 in
    let both : Some p ≡ Some who = sym h.2 ∙ (ap (λ (n : ℕ). principal_at n principals) at ∙ k.2) in
    cc

-- calls by which links are asked to listen
abbrev pub OnlyListens : List LinkStep → Type 0
OnlyListens [] = Unit {0}
OnlyListens (Listened who answer ∷ steps) = OnlyListens steps
OnlyListens (step ∷ steps) = ⊥

pub listens_alone : (id : LinkId) (steps : List LinkStep) → OnlyListens steps → IsLeftAlone id steps
listens_alone id [] h = record { unsent = refl; unread = refl }
listens_alone id (Listened who answer ∷ steps) h = let k = listens_alone id steps h in record { unsent = k.unsent; unread = k.unread }
listens_alone id (AcceptedAt n answer ∷ steps) h = absurd h
listens_alone id (ReadFrom other room answer ∷ steps) h = absurd h
listens_alone id (WroteTo other bytes answer ∷ steps) h = absurd h
listens_alone id (Closed other ∷ steps) h = absurd h

pub listens_below : (n : ℕ) (steps : List LinkStep) → OnlyListens steps → AreCallsBelow n steps
listens_below n [] h = tt
listens_below n (Listened who answer ∷ steps) h = (tt, listens_below n steps h)
listens_below n (AcceptedAt m answer ∷ steps) h = absurd h
listens_below n (ReadFrom other room answer ∷ steps) h = absurd h
listens_below n (WroteTo other bytes answer ∷ steps) h = absurd h
listens_below n (Closed other ∷ steps) h = absurd h

pub listens_accept_none : (steps : List LinkStep) → OnlyListens steps → AcceptsNone steps
listens_accept_none [] h = tt
listens_accept_none (Listened who answer ∷ steps) h = listens_accept_none steps h
listens_accept_none (AcceptedAt m answer ∷ steps) h = absurd h
listens_accept_none (ReadFrom other room answer ∷ steps) h = absurd h
listens_accept_none (WroteTo other bytes answer ∷ steps) h = absurd h
listens_accept_none (Closed other ∷ steps) h = absurd h

listens_then : (steps : List LinkStep) (who : Named) (a : Listening) (rest : List LinkStep) → steps ≡ Listened who a ∷ rest → OnlyListens rest → OnlyListens steps
listens_then steps who a rest e h = subst OnlyListens (sym e) h

listens_none : (steps : List LinkStep) → steps ≡ [] → OnlyListens steps
listens_none steps e = subst OnlyListens (sym e) tt

abbrev Listens : List Named → Type 0
Listens principals = (steps : List LinkStep) (r : Result (Unit {0}) NotListening) → Path (listening principals) steps r → OnlyListens steps

behind_answer : (principals : List Named) → Listens principals → (a : Listening) (rest : List LinkStep) (r : Result (Unit {0}) NotListening) → Path (unless_refused (listening principals) (listened a)) rest r → OnlyListens rest
behind_answer principals f (heard.Ready number) rest r h = f rest r h
behind_answer principals f heard.Failed rest r h = listens_none rest h.1
behind_answer principals f heard.Memory rest r h = listens_none rest h.1

pub only_listens : (principals : List Named) → Listens principals
only_listens [] steps r h = listens_none steps h.1
only_listens (who ∷ principals) steps r h = listens_then steps who h.0 h.1 h.2 (behind_answer principals (only_listens principals) h.0 h.1 r h.3)
