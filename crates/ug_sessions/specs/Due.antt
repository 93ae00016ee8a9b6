-- The text that is due to a session.
use Rattle.std.specs.Prelude.{◌≡◌, ℕ, List, [], ◌∷◌, ◌++◌, Bool, true, false, cond, nat_eq, take}
use Rattle.ug_links.specs.declared.waiter.LinkId.{LinkId}
use Rattle.ug_types.specs.Principals.{Named}
use Rattle.ug_links.specs.declared.links.LinkWrote.TheVariants as wrote
use Rattle.ug_links.specs.declared.step.LinkStep.{LinkStep}
use Rattle.ug_links.specs.declared.step.LinkStep.TheVariants.{WroteTo}
use Rattle.ug_types.specs.declared.access.Section.{Section}
use Rattle.ug_sessions.specs.declared.session.Session.{Session}
use Rattle.ug_sessions.specs.declared.session.Life.{Life}
use Rattle.ug_sessions.specs.declared.session.Life.TheVariants as life
use Rattle.ug_sessions.specs.Answering.{refused_text, is_due}

-- what is said to sessions, in order
pub data Said : Type 0 where
  -- the reply to a request of this session
  Answered : (id : LinkId) → (text : List ℕ) → Said
  -- this session asked for notices, and may have them
  Watched : (id : LinkId) → Said
  -- a notice of that section, for all that may have it
  Noticed : (section : Section) → (text : List ℕ) → Said
  -- this session's next line is too long
  Overlong : (id : LinkId) → Said

-- what is due to one session so far, whether it gets notices, and whether its line was too
-- long: then nothing more is due
pub record Dues : Type 0 where
  pub text : List ℕ
  pub watches : Bool
  pub over : Bool

abbrev pub nothing_due : Dues
nothing_due = record { text = []; watches = false; over = false }

abbrev pub more_due : Dues → List ℕ → Dues
more_due a text = cond a.over a (record a { text = a.text ++ text })

abbrev pub over_due : Dues → Dues
over_due a = cond a.over a (record a { text = a.text ++ refused_text; over = true })

-- holds: who may have the notices of a section
abbrev pub said_one : (Section → Named → Bool) → LinkId → Named → Dues → Said → Dues
said_one holds id principal a (Answered other text) = cond (nat_eq id.0 other.0) (more_due a text) a
said_one holds id principal a (Watched other) =
    cond (nat_eq id.0 other.0) (record a { watches = true }) a
said_one holds id principal a (Noticed section text) =
    cond (cond a.watches (holds section principal) false) (more_due a text) a
said_one holds id principal a (Overlong other) = cond (nat_eq id.0 other.0) (over_due a) a

abbrev pub said_all : (Section → Named → Bool) → LinkId → Named → Dues → List Said → Dues
said_all holds id principal a [] = a
said_all holds id principal a (said ∷ more) =
    said_all holds id principal (said_one holds id principal a said) more

-- what is said where a session without a line stands at its limit and wasn't told so
abbrev pub overlong_of : Session → List Said
overlong_of s = cond (is_due s) (Overlong s.id ∷ []) []

abbrev pub overlong_all : List Session → List Said
overlong_all [] = []
overlong_all (s ∷ ss) = overlong_of s ++ overlong_all ss

-- the bytes that were sent to a session
abbrev pub sent_to : LinkId → List LinkStep → List ℕ
sent_to id [] = []
sent_to id (WroteTo other bytes (wrote.Sent n) ∷ steps) =
    cond (nat_eq other.0 id.0) (take n bytes ++ sent_to id steps) (sent_to id steps)
sent_to id (step ∷ steps) = sent_to id steps

abbrev pub IsFront : List ℕ → List ℕ → Type 0
IsFront front whole = (rest : List ℕ) × (whole ≡ front ++ rest)

pub record IsOpenAccount (a : Dues) (sent : List ℕ) (s : Session) : Type 0 where
  pub text : sent ++ s.unsent ≡ a.text
  pub watches : s.watch ≡ a.watches
  pub over : s.refused ≡ a.over

-- while a session is open, what it was sent and what is unsent are what is due; once it is closed,
-- what it was sent is a front of that
abbrev pub AccountsBy : Life → Dues → List ℕ → Session → Type 0
AccountsBy life.Open a sent s = IsOpenAccount a sent s
AccountsBy (life.Doomed w) a sent s = IsFront sent a.text
AccountsBy (life.Closed w) a sent s = IsFront sent a.text

abbrev pub Accounts : Dues → List ℕ → Session → Type 0
Accounts a sent s = AccountsBy s.life a sent s

-- each session that is kept: said is all that was said, and steps are all
-- calls, since the server was made
abbrev pub AllAccounts : (Section → Named → Bool) → List LinkStep → List Said → List Session
    → Type 0
AllAccounts holds steps said [] = Unit {0}
AllAccounts holds steps said (s ∷ ss) =
    Accounts (said_all holds s.id s.principal nothing_due said) (sent_to s.id steps) s
    × AllAccounts holds steps said ss

abbrev pub IsNoneOf : LinkId → List Session → Type 0
IsNoneOf id [] = Unit {0}
IsNoneOf id (s ∷ ss) = (nat_eq s.id.0 id.0 ≡ false) × IsNoneOf id ss

-- no two sessions have one id
abbrev pub HaveOwnIds : List Session → Type 0
HaveOwnIds [] = Unit {0}
HaveOwnIds (s ∷ ss) = IsNoneOf s.id ss × HaveOwnIds ss
