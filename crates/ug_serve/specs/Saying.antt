-- What turns say to sessions, and what they are asked.
use Rattle.std.specs.Prelude.{◌≡◌, ℕ, ◌≤◌, Bool, true, false, List, [], ◌∷◌, ◌++◌, length, nat_eq, Option, Some, None}
use Rattle.std.specs.List.{flat_map}
use Rattle.ug_types.specs.declared.access.Section.{Section}
use Rattle.ug_links.specs.declared.waiter.LinkId.{LinkId}
use Rattle.ug_types.specs.Principals.{Named}
use Rattle.ug_acl.specs.Acls.{Addition}
use Rattle.ug_audit.specs.declared.entry.Entry.{Entry}
use Rattle.ug_proto.specs.declared.reply.Reply.{Reply}
use Rattle.ug_proto.specs.Replies.{reply_text}
use Rattle.ug_types.specs.declared.event.Event.{Event}
use Rattle.ug_types.specs.declared.event.Event.TheVariants.{Sweep, Order, Hint}
use Rattle.ug_links.specs.declared.step.LinkStep.{LinkStep}
use Rattle.ug_proto.specs.Lines.{stream_lines}
use Rattle.ug_sessions.specs.Answering.{may_listen}
use Rattle.ug_sessions.specs.Due.{Said, Answered, Watched, Noticed, Overlong, IsFront, said_all, nothing_due, sent_to}
use Rattle.ug_sessions.specs.Handed.{bytes_read, lines_handed}
use Rattle.ug_sessions.specs.Known.{AreSound}
use Rattle.ug_sessions.specs.States.{ServerState}
use Rattle.ug_sessions.specs.Tied.{IsWhose}
use Rattle.ug_serve.specs.Responses.{notice_section, notice_text, grants_watch}
use Rattle.ug_serve.specs.Turns.{TurnEvent, Turned, turns_events, AreWhole}

-- the reply, to the session whose order it answers
abbrev pub answered_by : Option LinkId → Option Reply → List Said
answered_by (Some id) (Some reply) = Answered id (reply_text reply) ∷ []
answered_by (Some id) None = []
answered_by None reply = []

abbrev pub watched_by : Option LinkId → Bool → List Said
watched_by (Some id) true = Watched id ∷ []
watched_by (Some id) false = []
watched_by None granted = []

abbrev pub noticed_in : Option Section → Entry → List Said
noticed_in (Some section) e = Noticed section (notice_text e) ∷ []
noticed_in None e = []

abbrev pub notices_in : List Entry → List Said
notices_in entries = flat_map (λ e. noticed_in (notice_section e) e) entries

-- an event's reply, then that notices are granted, and then its notices
abbrev pub said_in : TurnEvent → List Said
said_in e =
    answered_by e.asked_by e.after.reply
    ++ (watched_by e.asked_by (grants_watch e.after) ++ notices_in e.entries)

abbrev pub asked_if : Option LinkId → Event → List (LinkId × List ℕ)
asked_if (Some id) (Order moment who line) = (id, line) ∷ []
asked_if (Some id) (Sweep moment) = []
asked_if (Some id) (Hint moment piece) = []
asked_if None event = []

-- the line that an event answers, with its session
abbrev pub asked_in : TurnEvent → List (LinkId × List ℕ)
asked_in e = asked_if e.asked_by e.event

-- all that was said, but for the refusals of lines that are too long
abbrev pub without_overlong : List Said → List Said
without_overlong [] = []
without_overlong (Overlong id ∷ said) = without_overlong said
without_overlong (Answered id text ∷ said) = Answered id text ∷ without_overlong said
without_overlong (Watched id ∷ said) = Watched id ∷ without_overlong said
without_overlong (Noticed section text ∷ said) = Noticed section text ∷ without_overlong said

-- each of these events had this access
abbrev pub HaveAccess : List Addition → List TurnEvent → Type 0
HaveAccess acl [] = Unit {0}
HaveAccess acl (e ∷ es) = (e.after.access ≡ acl) × HaveAccess acl es

-- an order is of the user or group at whose listener its session came; a sweep is of no session,
-- and neither is a piece of uevents
abbrev pub IsAskedBy : List Named → List LinkStep → Option LinkId → Event → Type 0
IsAskedBy principals calls (Some id) (Order moment who line) = IsWhose principals calls id who
IsAskedBy principals calls (Some id) (Sweep moment) = ⊥
IsAskedBy principals calls (Some id) (Hint moment piece) = ⊥
IsAskedBy principals calls None (Order moment who line) = ⊥
IsAskedBy principals calls None (Sweep moment) = Unit {0}
IsAskedBy principals calls None (Hint moment piece) = Unit {0}

abbrev pub AreAskedBy : List Named → List LinkStep → List TurnEvent → Type 0
AreAskedBy principals calls [] = Unit {0}
AreAskedBy principals calls (e ∷ es) = IsAskedBy principals calls e.asked_by e.event
    × AreAskedBy principals calls es

-- the text that is due to a session of that user or group, by all that was said
abbrev pub due_text : List Addition → List Said → LinkId → Named → List ℕ
due_text acl said id who = (said_all (may_listen acl) id who nothing_due said).text

abbrev pub AreFirstOf : List (List ℕ) → List (List ℕ) → Type 0
AreFirstOf lines all = (others : List (List ℕ)) × (all ≡ lines ++ others)

-- What one session got, whether it is open, closed or forgotten: what it was sent begins the text
-- that is due to it, and what was handed out of it are the first lines of the bytes that it sent.
pub record GetsItsDue (acl : List Addition) (calls : List LinkStep) (said : List Said)
    (handed : List (LinkId × List ℕ)) (id : LinkId) (who : Named) : Type 0 where
  pub sent : IsFront (sent_to id calls) (due_text acl said id who)
  pub lines : AreFirstOf (lines_handed id handed) (stream_lines (bytes_read id calls))

abbrev pub AnswersNone : LinkId → List Said → Type 0
AnswersNone id [] = Unit {0}
AnswersNone id (Answered other text ∷ said) = (nat_eq other.0 id.0 ≡ false) × AnswersNone id said
AnswersNone id (Watched other ∷ said) = AnswersNone id said
AnswersNone id (Noticed section text ∷ said) = AnswersNone id said
AnswersNone id (Overlong other ∷ said) = AnswersNone id said

-- who is told that its line is too long is answered no request behind that
abbrev pub RefusesLast : List Said → Type 0
RefusesLast [] = Unit {0}
RefusesLast (Answered id text ∷ said) = RefusesLast said
RefusesLast (Watched id ∷ said) = RefusesLast said
RefusesLast (Noticed section text ∷ said) = RefusesLast said
RefusesLast (Overlong id ∷ said) = AnswersNone id said × RefusesLast said

-- and all its lines were handed out
abbrev pub RefusesBehindAll : List LinkStep → List (LinkId × List ℕ) → List Said → Type 0
RefusesBehindAll calls handed [] = Unit {0}
RefusesBehindAll calls handed (Answered id text ∷ said) = RefusesBehindAll calls handed said
RefusesBehindAll calls handed (Watched id ∷ said) = RefusesBehindAll calls handed said
RefusesBehindAll calls handed (Noticed section text ∷ said) = RefusesBehindAll calls handed said
RefusesBehindAll calls handed (Overlong id ∷ said) =
    (lines_handed id handed ≡ stream_lines (bytes_read id calls))
    × RefusesBehindAll calls handed said

-- what was handed out and not answered: nothing, but for one line where the last turn was cut
abbrev pub IsLeftOver : List Turned → List (LinkId × List ℕ) → Type 0
IsLeftOver turns lines = (AreWhole turns → lines ≡ []) × (length lines ≤ 1)

-- The sessions that these turns served, by all calls of the links so far. Each that is kept has its
-- account and its lines by what the events said and were asked, and by nothing else but refusals of
-- lines that were too long, each behind all replies of its session. Each that ever came at a
-- listener got its due, as one of the listener's user or group; and each order is of the one at
-- whose listener its session came.
pub record AreServed (acl : List Addition) (principals : List Named) (calls : List LinkStep)
    (turns : List Turned) (v : ServerState) : Type 0 where
  pub said : List Said
  pub by_events : without_overlong said ≡ flat_map said_in (turns_events turns)
  pub unanswered : List (LinkId × List ℕ)
  pub left_over : IsLeftOver turns unanswered
  pub sound : AreSound (may_listen acl) calls said
      (flat_map asked_in (turns_events turns) ++ unanswered) v.sessions
  pub refuses_last : RefusesLast said
  pub refuses_behind_all : RefusesBehindAll calls
      (flat_map asked_in (turns_events turns) ++ unanswered) said
  pub got : (id : LinkId) (who : Named) → IsWhose principals calls id who
      → GetsItsDue acl calls said (flat_map asked_in (turns_events turns) ++ unanswered) id who
  pub own : AreAskedBy principals calls (turns_events turns)
