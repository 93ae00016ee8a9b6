-- A session that is accepted is none that was known before.
use Rattle.std.specs.Prelude.{ℕ, ◌<◌, Bool, List, [], ◌∷◌}
use Rattle.ug_types.specs.Principals.{Named}
use Rattle.ug_types.specs.declared.access.Section.{Section}
use Rattle.ug_links.specs.declared.waiter.LinkId.{LinkId}
use Rattle.ug_links.specs.declared.step.LinkStep.{LinkStep}
use Rattle.ug_links.specs.declared.step.LinkStep.TheVariants.{ReadFrom, WroteTo}
use Rattle.ug_links.specs.Steps.{ids_end}
use Rattle.ug_sessions.specs.declared.session.Session.{Session}
use Rattle.ug_sessions.specs.Handed.{AllLines, IsLineTooLong}
use Rattle.ug_sessions.specs.Due.{Said, Answered, Watched, Noticed, Overlong, AllAccounts, HaveOwnIds}

-- each session has an id below this number
abbrev pub AreKnown : ℕ → List Session → Type 0
AreKnown n [] = Unit {0}
AreKnown n (s ∷ ss) = (s.id.0 < n) × AreKnown n ss

-- so has the session to which this is said
abbrev pub IsSaidBelow : ℕ → Said → Type 0
IsSaidBelow n (Answered id text) = id.0 < n
IsSaidBelow n (Watched id) = id.0 < n
IsSaidBelow n (Noticed section text) = Unit {0}
IsSaidBelow n (Overlong id) = id.0 < n

abbrev pub AreSaidBelow : ℕ → List Said → Type 0
AreSaidBelow n [] = Unit {0}
AreSaidBelow n (x ∷ said) = IsSaidBelow n x × AreSaidBelow n said

-- so has the session that is read or written
abbrev pub IsCallBelow : ℕ → LinkStep → Type 0
IsCallBelow n (ReadFrom id room answer) = id.0 < n
IsCallBelow n (WroteTo id bytes answer) = id.0 < n
IsCallBelow n step = Unit {0}

abbrev pub AreCallsBelow : ℕ → List LinkStep → Type 0
AreCallsBelow n [] = Unit {0}
AreCallsBelow n (step ∷ steps) = IsCallBelow n step × AreCallsBelow n steps

-- so has the session of a line that was handed out
abbrev pub AreHandedBelow : ℕ → List (LinkId × List ℕ) → Type 0
AreHandedBelow n [] = Unit {0}
AreHandedBelow n (h ∷ hs) = (h.0.0 < n) × AreHandedBelow n hs

-- each session that was told so has a line that is too long
abbrev pub AreLinesTooLong : List LinkStep → List Said → Type 0
AreLinesTooLong steps [] = Unit {0}
AreLinesTooLong steps (Answered id text ∷ said) = AreLinesTooLong steps said
AreLinesTooLong steps (Watched id ∷ said) = AreLinesTooLong steps said
AreLinesTooLong steps (Noticed section text ∷ said) = AreLinesTooLong steps said
AreLinesTooLong steps (Overlong id ∷ said) = IsLineTooLong id steps × AreLinesTooLong steps said

-- each session has its account and its lines, no two have one id, and all that was said, handed
-- out and called is of sessions
-- that were accepted; and who was told that a line is too long has such a line
pub record AreSound (holds : Section → Named → Bool) (steps : List LinkStep) (said : List Said)
    (handed : List (LinkId × List ℕ)) (sessions : List Session) : Type 0 where
  pub accounts : AllAccounts holds steps said sessions
  pub lines : AllLines steps handed sessions
  pub distinct : HaveOwnIds sessions
  pub known : AreKnown (ids_end steps) sessions
  pub said_known : AreSaidBelow (ids_end steps) said
  pub handed_known : AreHandedBelow (ids_end steps) handed
  pub calls_known : AreCallsBelow (ids_end steps) steps
  pub too_long : AreLinesTooLong steps said
