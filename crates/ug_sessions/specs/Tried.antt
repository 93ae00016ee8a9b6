-- Which sessions and listeners a call tries.
use Rattle.std.specs.Prelude.{◌≡◌, ℕ, List, [], ◌∷◌, Bool, true, cond, ◌⊎◌}
use Rattle.ug_links.specs.declared.waiter.LinkId.{LinkId}
use Rattle.ug_links.specs.declared.waiter.Ready.{Ready}
use Rattle.ug_links.specs.declared.step.LinkStep.{LinkStep}
use Rattle.ug_links.specs.declared.step.LinkStep.TheVariants.{Listened, AcceptedAt, ReadFrom, WroteTo, Closed}
use Rattle.ug_sessions.specs.declared.session.Session.{Session}
use Rattle.ug_sessions.specs.declared.session.Listener.{Listener}
use Rattle.ug_sessions.specs.Tokens.{is_read, names_listener}

-- one of these sessions has this id, and is to be read: it is open, its link hasn't said End,
-- and it is named or owed a try
abbrev pub IsOneRead : List Ready → List Session → LinkId → Type 0
IsOneRead ready [] id = ⊥
IsOneRead ready (s ∷ ss) id = ((s.id ≡ id) × (is_read ready s ≡ true)) ⊎ IsOneRead ready ss id

-- the call reads such a session, or closes a link
abbrev pub ReadsOne : (LinkId → Type 0) → LinkStep → Type 0
ReadsOne P (ReadFrom id room answer) = P id
ReadsOne P (Closed id) = Unit {0}
ReadsOne P (AcceptedAt listener answer) = ⊥
ReadsOne P (WroteTo id bytes answer) = ⊥
ReadsOne P (Listened principal answer) = ⊥

abbrev pub AllRead : (LinkId → Type 0) → List LinkStep → Type 0
AllRead P [] = Unit {0}
AllRead P (step ∷ steps) = ReadsOne P step × AllRead P steps

abbrev pub is_tried : List Ready → Listener → Bool
is_tried ready l = cond l.owed true (names_listener ready l.number)

-- one of these listeners has this number, and is named or owed a try
abbrev pub IsOneTried : List Ready → List Listener → ℕ → Type 0
IsOneTried ready [] n = ⊥
IsOneTried ready (l ∷ ls) n = ((l.number ≡ n) × (is_tried ready l ≡ true)) ⊎ IsOneTried ready ls n

-- the call accepts at such a listener, or closes a link
abbrev pub AcceptsOne : (ℕ → Type 0) → LinkStep → Type 0
AcceptsOne P (AcceptedAt listener answer) = P listener
AcceptsOne P (Closed id) = Unit {0}
AcceptsOne P (ReadFrom id room answer) = ⊥
AcceptsOne P (WroteTo id bytes answer) = ⊥
AcceptsOne P (Listened principal answer) = ⊥

abbrev pub AllAccepted : (ℕ → Type 0) → List LinkStep → Type 0
AllAccepted P [] = Unit {0}
AllAccepted P (step ∷ steps) = AcceptsOne P step × AllAccepted P steps
