-- What is put to the sessions directly after an event: its reply, and its notices.
use Rattle.std.specs.Prelude.{◌≡◌, ℕ, List, [], ◌∷◌, ◌++◌, Bool, true, false, Option, Some, None, codes}
use Rattle.ug_types.specs.declared.access.Section.{Section}
use Rattle.ug_types.specs.declared.access.Section.TheVariants as section
use Rattle.ug_links.specs.declared.waiter.LinkId.{LinkId}
use Rattle.ug_acl.specs.Acls.{Addition}
use Rattle.ug_audit.specs.declared.entry.Entry.{Entry}
use Rattle.ug_audit.specs.declared.entry.Entry.TheVariants as entry
use Rattle.ug_audit.specs.Lines.{entry_line}
use Rattle.ug_proto.specs.declared.reply.Reply.{Reply}
use Rattle.ug_proto.specs.Replies.{reply_text}
use Rattle.ug_core.specs.Event.{DaemonState}
use Rattle.ug_sessions.specs.declared.session.Session.{Session}
use Rattle.ug_sessions.specs.Answering.{Each, AnswersOne, GivesUpOne, WatchesOne, NoticesOne, may_listen}
use Rattle.ug_sessions.specs.States.{ServerState}

-- the sessions change so, and nothing else of the server does
abbrev pub ChangesSessions : (List Session → List Session → Type 0) → ServerState → ServerState
    → Type 0
ChangesSessions R v u =
    (u.principals ≡ v.principals) × (u.listeners ≡ v.listeners) × R v.sessions u.sessions

-- an entry that is a notice, with the section whose `listen` it wants
abbrev pub notice_section : Entry → Option Section
notice_section (entry.Judged number name held verdict cause) = Some section.Devices
notice_section (entry.Wrote number name write outcome) = Some section.Devices
notice_section (entry.Gone number name) = Some section.Devices
notice_section (entry.Unsettled name fault) = Some section.Exceptions
notice_section (entry.UnsettledAll fault) = Some section.Exceptions
notice_section (entry.Parameter set) = Some section.Parameters
notice_section other = None

-- the entry's line behind `! `, with a newline
unfoldable pub notice_text : Entry → List ℕ
notice_text e = codes "! " ++ (entry_line e ++ 10 ∷ [])

abbrev pub NotifiesIf : Option Section → List Addition → Entry → List Session → List Session
    → Type 0
NotifiesIf None acl e ss ts = ts ≡ ss
NotifiesIf (Some section) acl e ss ts =
    Each (NoticesOne (may_listen acl section) (notice_text e)) ss ts

-- each entry that is a notice, in order, goes to the sessions that watch and may have it
abbrev pub Notifies : List Addition → List Entry → List Session → List Session → Type 0
Notifies acl [] ss ts = ts ≡ ss
Notifies acl (e ∷ es) ss ts =
    (us : List Session) × NotifiesIf (notice_section e) acl e ss us × Notifies acl es us ts

-- with memory to print the reply, or without it
abbrev pub SendsReplyIf : Bool → LinkId → Reply → List Session → List Session → Type 0
SendsReplyIf true id reply ss ts = Each (AnswersOne id (reply_text reply)) ss ts
SendsReplyIf false id reply ss ts = Each (GivesUpOne id) ss ts

-- the reply goes to that session and to no other; where memory is short for its text, that session
-- is given up
abbrev pub SendsReply : LinkId → Option Reply → List Session → List Session → Type 0
SendsReply id None ss ts = ts ≡ ss
SendsReply id (Some reply) ss ts = (printed : Bool) × SendsReplyIf printed id reply ss ts

-- whether the order asked for notices, and they were granted
abbrev pub grants_watch : DaemonState → Bool
grants_watch d = d.watch

abbrev pub WatchesIf : Bool → LinkId → List Session → List Session → Type 0
WatchesIf true id ss ts = Each (WatchesOne id) ss ts
WatchesIf false id ss ts = ts ≡ ss

-- directly after an order of that session, which left the daemon so: the reply, then the mark, then
-- the notices of its entries
abbrev pub Responds : LinkId → DaemonState → List Entry → List Session → List Session → Type 0
Responds id d entries ss ts =
    (us : List Session) × (vs : List Session) × SendsReply id d.reply ss us
    × WatchesIf (grants_watch d) id us vs × Notifies d.access entries vs ts
