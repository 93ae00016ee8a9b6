-- What is put behind the text of a session, and which line is handed out next.
use Rattle.std.specs.Prelude.{◌≡◌, ℕ, ◌+◌, ◌-◌, List, [], ◌∷◌, ◌++◌, Bool, true, false, cond, not, nat_eq, nat_le, length, Option, Some, None, codes}
use Rattle.ug_types.specs.Principals.{Named}
use Rattle.ug_types.specs.Told.{one_more}
use Rattle.ug_types.specs.declared.access.Section.{Section}
use Rattle.ug_types.specs.declared.access.Privilege.TheVariants.{Listen}
use Rattle.ug_links.specs.declared.waiter.LinkId.{LinkId}
use Rattle.ug_acl.specs.Acls.{Addition, is_allowed}
use Rattle.ug_sessions.specs.declared.session.Session.{Session}
use Rattle.ug_sessions.specs.declared.session.Why.TheVariants as why
use Rattle.ug_sessions.specs.Sessions.{is_open_session, doomed_for}

-- each element is led to the one at its place
abbrev pub Each : {A : Type 0} → (A → A → Type 0) → List A → List A → Type 0
Each R [] [] = Unit {0}
Each R (a ∷ as_) (b ∷ bs) = R a b × Each R as_ bs
Each R [] (b ∷ bs) = ⊥
Each R (a ∷ as_) [] = ⊥

abbrev pub with_text : Session → List ℕ → Session
with_text s text = record s { unsent = s.unsent ++ text }

-- it is open, and wasn't told that its line is too long
abbrev pub takes_text : Session → Bool
takes_text s = cond (is_open_session s) (not s.refused) false

-- with memory, or without it
abbrev pub put_if : Session → List ℕ → Bool → Session
put_if s text true = with_text s text
put_if s text false = doomed_for why.Memory s

-- within its limit, or above it
abbrev pub PutsWithin : Bool → Session → List ℕ → Session → Type 0
PutsWithin true s text t = (memory : Bool) × (t ≡ put_if s text memory)
PutsWithin false s text t = t ≡ doomed_for why.Backlog s

abbrev pub PutsWhere : Bool → Session → List ℕ → Session → Type 0
PutsWhere true s text t = PutsWithin (nat_le (length s.unsent + length text) 1048576) s text t
PutsWhere false s text t = t ≡ s

-- a text is put behind what is unsent; the session is closed where that
-- would be more than 1,048,576 bytes
abbrev pub PutsBehind : Session → List ℕ → Session → Type 0
PutsBehind s text t = PutsWhere (takes_text s) s text t

-- one line less that was handed out waits for its answer
abbrev pub with_answer : Session → Session
with_answer s = record s { unanswered = s.unanswered - 1 }

abbrev pub AnswersIf : Bool → List ℕ → Session → Session → Type 0
AnswersIf true text s t = PutsBehind (with_answer s) text t
AnswersIf false text s t = t ≡ s

-- the answer goes to the session of that id
abbrev pub AnswersOne : LinkId → List ℕ → Session → Session → Type 0
AnswersOne id text s t = AnswersIf (nat_eq s.id.0 id.0) text s t

abbrev pub WatchesOne : LinkId → Session → Session → Type 0
WatchesOne id s t = t ≡ cond (nat_eq s.id.0 id.0) (record s { watch = true }) s

abbrev pub GivesUpOne : LinkId → Session → Session → Type 0
GivesUpOne id s t =
    t ≡ cond (nat_eq s.id.0 id.0) (cond (is_open_session s) (doomed_for why.Memory s) s) s

abbrev pub NoticesIf : Bool → List ℕ → Session → Session → Type 0
NoticesIf true text s t = PutsBehind s text t
NoticesIf false text s t = t ≡ s

-- a notice goes to a session that watches and whose principal may get it
abbrev pub NoticesOne : (Named → Bool) → List ℕ → Session → Session → Type 0
NoticesOne holds text s t = NoticesIf (cond s.watch (holds s.principal) false) text s t

-- who may get the notices of a section
abbrev pub may_listen : List Addition → Section → Named → Bool
may_listen acl section who = is_allowed acl who section Listen

unfoldable pub refused_text : List ℕ
refused_text = codes "refused 1 bad-request 65536" ++ 10 ∷ []

-- a session that takes text and stands at its limit has to be told so
abbrev pub is_due : Session → Bool
is_due s = cond (takes_text s) s.overlong false

abbrev pub RefusesIf : Bool → Session → Session → Type 0
RefusesIf true s t = (u : Session) × PutsBehind s refused_text u × (t ≡ record u { refused = true })
RefusesIf false s t = t ≡ s

abbrev pub with_none_left : Session → Session
with_none_left s = record s { drained = true }

-- its first line is handed out, and waits for its answer
abbrev pub with_request_lines : List (List ℕ) → Session → Session
with_request_lines lines s =
    record s {
      framer = record { lines = lines; begun = s.framer.begun };
      unanswered = one_more s.unanswered;
    }

-- the next line of a session; behind its last line stands the refusal of a line that is too long
abbrev pub HandsOne : Session → Option (List ℕ) → Session → Type 0
HandsOne s (Some line) t =
    (s.framer.lines ≡ line ∷ t.framer.lines) × (t ≡ with_request_lines t.framer.lines s)
HandsOne s None t = (s.framer.lines ≡ []) × RefusesIf (is_due s) (with_none_left s) t

abbrev pub Passes : Session → Session → Type 0
Passes s t = HandsOne s None t

-- the first session in order that has a line, and its first line; those before it have none
pub record HandsFirst (old : List Session) (id : LinkId) (principal : Named) (line : List ℕ)
    (new : List Session) : Type 0 where
  pub front : List Session
  pub passed : List Session
  pub session : Session
  pub after : Session
  pub behind : List Session
  pub was : old ≡ front ++ session ∷ behind
  pub is : new ≡ passed ++ after ∷ behind
  pub none : Each Passes front passed
  pub hands : HandsOne session (Some line) after
  pub its_id : id ≡ session.id
  pub its_principal : principal ≡ session.principal

abbrev pub HandsNext : List Session → Option (LinkId × Named × List ℕ) → List Session → Type 0
HandsNext old (Some r) new = HandsFirst old r.0 r.1 r.2 new
HandsNext old None new = Each Passes old new
