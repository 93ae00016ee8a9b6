-- What the daemon does with its sockets, as a tree: each node is a call, each branch an answer.
use Rattle.std.specs.Prelude.{◌≡◌, ℕ, zero, suc, Bool, cond, List, [], ◌∷◌, ◌++◌, Option, Some}
use Rattle.ug_types.specs.Principals.{Named}
use Rattle.ug_links.specs.declared.waiter.LinkId.{LinkId}
use Rattle.ug_links.specs.declared.links.Listening.{Listening}
use Rattle.ug_links.specs.declared.links.Accepted.{Accepted}
use Rattle.ug_links.specs.declared.links.LinkWrote.{LinkWrote}
use Rattle.ug_links.specs.declared.step.Reading.{Reading}
use Rattle.ug_links.specs.declared.step.LinkStep.{LinkStep}
use Rattle.ug_links.specs.declared.step.LinkStep.TheVariants.{Listened, AcceptedAt, ReadFrom, WroteTo, Closed}
use Rattle.ug_links.specs.Steps.{IsStep}

-- at Room memory is asked for
pub data Talk (R : Type 0) : Type 0 where
  Return : (value : R) → Talk R
  Listen : (principal : Named) → (next : Listening → Talk R) → Talk R
  Accept : (listener : ℕ) → (next : Accepted → Talk R) → Talk R
  Read : (id : LinkId) → (room : ℕ) → (next : Reading → Talk R) → Talk R
  Write : (id : LinkId) → (bytes : List ℕ) → (next : LinkWrote → Talk R) → Talk R
  Close : (id : LinkId) → (next : Talk R) → Talk R
  Room : (next : Bool → Talk R) → Talk R

-- a run of the tree over an object, where gives says what a call may answer and leave
abbrev pub Talks : {S R : Type 0} → (S → LinkStep → S → Type 0) → S → Talk R → R → S → Type 0
Talks gives s (Return value) r t = (r ≡ value) × (t ≡ s)
Talks {S} gives s (Listen principal next) r t =
    (a : Listening) × (u : S) × gives s (Listened principal a) u × Talks gives u (next a) r t
Talks {S} gives s (Accept listener next) r t =
    (a : Accepted) × (u : S) × gives s (AcceptedAt listener a) u × Talks gives u (next a) r t
Talks {S} gives s (Read id room next) r t =
    (a : Reading) × (u : S) × gives s (ReadFrom id room a) u × Talks gives u (next a) r t
Talks {S} gives s (Write id bytes next) r t =
    (a : LinkWrote) × (u : S) × gives s (WroteTo id bytes a) u × Talks gives u (next a) r t
Talks {S} gives s (Close id next) r t = (u : S) × gives s (Closed id) u × Talks gives u next r t
Talks gives s (Room next) r t = (b : Bool) × Talks gives s (next b) r t

-- a tree, and then the one that its result picks
abbrev pub and_then : {R Q : Type 0} → Talk R → (R → Talk Q) → Talk Q
and_then (Return a) f = f a
and_then (Listen principal next) f = Listen principal (λ a. and_then (next a) f)
and_then (Accept listener next) f = Accept listener (λ a. and_then (next a) f)
and_then (Read id room next) f = Read id room (λ a. and_then (next a) f)
and_then (Write id bytes next) f = Write id bytes (λ a. and_then (next a) f)
and_then (Close id next) f = Close id (and_then next f)
and_then (Room next) f = Room (λ b. and_then (next b) f)

-- the calls along a way through the tree, with their answers
abbrev pub Path : {R : Type 0} → Talk R → List LinkStep → R → Type 0
Path (Return value) steps r = (r ≡ value) × (steps ≡ [])
Path (Listen principal next) steps r =
    (a : Listening) × (rest : List LinkStep) × (steps ≡ Listened principal a ∷ rest)
    × Path (next a) rest r
Path (Accept listener next) steps r =
    (a : Accepted) × (rest : List LinkStep) × (steps ≡ AcceptedAt listener a ∷ rest)
    × Path (next a) rest r
Path (Read id room next) steps r =
    (a : Reading) × (rest : List LinkStep) × (steps ≡ ReadFrom id room a ∷ rest)
    × Path (next a) rest r
Path (Write id bytes next) steps r =
    (a : LinkWrote) × (rest : List LinkStep) × (steps ≡ WroteTo id bytes a ∷ rest)
    × Path (next a) rest r
Path (Close id next) steps r =
    (rest : List LinkStep) × (steps ≡ Closed id ∷ rest) × Path next rest r
Path (Room next) steps r = (b : Bool) × Path (next b) steps r

-- each of these steps may stand behind those before it
abbrev pub AreSteps : List LinkStep → List LinkStep → Type 0
AreSteps before [] = Unit {0}
AreSteps before (step ∷ steps) = IsStep before step × AreSteps (before ++ step ∷ []) steps

-- these calls with these answers, each from what the one before left
abbrev pub Makes : {S : Type 0} → (S → LinkStep → S → Type 0) → S → List LinkStep → S → Type 0
Makes gives s [] t = t ≡ s
Makes {S} gives s (step ∷ steps) t = (u : S) × gives s step u × Makes gives u steps t

-- what was told, and then these steps
abbrev pub TellsSteps : Option (List LinkStep) → List LinkStep → List LinkStep → Type 0
TellsSteps told steps after =
    (before : List LinkStep) × (told ≡ Some before) × (after ≡ before ++ steps)
    × AreSteps before steps

-- the elements of a list one after another, each of them changed;
-- those that are done stand in front
abbrev pub walk : {A X : Type 0} → (A → X → Talk (A × X)) → List A → List A → X → Talk (List A × X)
walk f done [] x = Return (done, x)
walk f done (a ∷ rest) x = and_then (f a x) (λ r. walk f (done ++ r.0 ∷ []) rest r.1)

-- the same again and again, up to n times, for as long as there may be more
unfoldable pub upto : {X : Type 0} → (X → Talk (Bool × X)) → ℕ → X → Talk X
upto f zero x = Return x
upto f (suc n) x = and_then (f x) (λ r. cond r.0 (upto f n r.1) (Return r.1))
