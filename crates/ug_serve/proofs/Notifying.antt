-- Notices that are put one after another, and the lines that wait behind what is put to sessions.
use Rattle.std.proofs.Common.{◌≡◌, ℕ, ◌+◌, ◌<◌, ◌≤◌, Bool, true, false, List, [], ◌∷◌, ◌++◌, Option, Some, None, take, get_or, length, refl, sym, ◌∙◌, ap, subst, add-one, arith}
use Rattle.std.proofs.Math.Seq.{take-suc}
use Rattle.ug_types.specs.declared.access.Section.{Section}
use Rattle.ug_links.specs.declared.waiter.LinkId.{LinkId}
use Rattle.ug_acl.specs.Acls.{Addition}
use Rattle.ug_audit.specs.declared.entry.Entry.{Entry}
use Rattle.ug_proto.specs.declared.reply.Reply.{Reply}
use Rattle.ug_proto.specs.Replies.{reply_text}
use Rattle.ug_core.specs.Event.{DaemonState}
use Rattle.ug_sessions.specs.declared.session.Session.{Session}
use Rattle.ug_sessions.specs.Answering.{may_listen}
use Rattle.ug_sessions.specs.Waiting.{lines_waiting}
use Rattle.ug_sessions.proofs.Waiting.{answers_no_more, watches_no_more, notices_no_more, gives_up_no_more}
use Rattle.ug_serve.specs.Responses.{notice_section, notice_text, NotifiesIf, Notifies, SendsReplyIf, SendsReply, grants_watch, WatchesIf, Responds}

notifies_one : (acl : List Addition) (e : Entry) (ss ts : List Session) → NotifiesIf (notice_section e) acl e ss ts → Notifies acl (e ∷ []) ss ts
notifies_one acl e ss ts h = (ts, h, refl)

notifies_append : (acl : List Addition) (es fs : List Entry) (ss us ts : List Session) → Notifies acl es ss us → Notifies acl fs us ts → Notifies acl (es ++ fs) ss ts
notifies_append acl [] fs ss us ts h k = subst (λ (x : List Session). Notifies acl fs x ts) h k
notifies_append acl (e ∷ es) fs ss us ts h k = (h.0, h.1, notifies_append acl es fs h.0 us ts h.2 k)

pub notifies_next : (acl : List Addition) (es : List Entry) (i : ℕ) (e : Entry) (ss us ts : List Session) → i < length es → e ≡ get_or es i e → Notifies acl (take i es) ss us → NotifiesIf (notice_section e) acl e us ts → Notifies acl (take (i + 1) es) ss ts
notifies_next acl es i e ss us ts below is h k =
    let grown : take (i + 1) es ≡ take i es ++ get_or es i e ∷ [] = ap (λ (j : ℕ). take j es) (add-one i) ∙ take-suc es i e below in
    let next : Notifies acl (take i es ++ e ∷ []) ss ts = notifies_append acl (take i es) (e ∷ []) ss us ts h (notifies_one acl e us ts k) in
    subst (λ (l : List Entry). Notifies acl l ss ts) (sym grown) (subst (λ (x : Entry). Notifies acl (take i es ++ x ∷ []) ss ts) is next)

-- nothing that is put to sessions adds a line

abbrev Fewer : List Session → List Session → Type 0
Fewer ss ts = lines_waiting ts ≤ lines_waiting ss

same_waiting : (ss ts : List Session) → ts ≡ ss → Fewer ss ts
same_waiting ss ts e = let k : lines_waiting ts ≡ lines_waiting ss = ap lines_waiting e in omega arith

notify_fewer : (section : Option Section) (acl : List Addition) (e : Entry) (ss ts : List Session) → NotifiesIf section acl e ss ts → Fewer ss ts
notify_fewer None acl e ss ts h = same_waiting ss ts h
notify_fewer (Some section) acl e ss ts h = notices_no_more (may_listen acl section) (notice_text e) ss ts h

notifies_fewer : (acl : List Addition) (es : List Entry) (ss ts : List Session) → Notifies acl es ss ts → Fewer ss ts
notifies_fewer acl [] ss ts h = same_waiting ss ts h
notifies_fewer acl (e ∷ es) ss ts h =
    let first : lines_waiting h.0 ≤ lines_waiting ss = notify_fewer (notice_section e) acl e ss h.0 h.1 in
    let rest : lines_waiting ts ≤ lines_waiting h.0 = notifies_fewer acl es h.0 ts h.2 in
    omega arith

printed_fewer : (printed : Bool) (id : LinkId) (reply : Reply) (ss ts : List Session) → SendsReplyIf printed id reply ss ts → Fewer ss ts
printed_fewer true id reply ss ts h = answers_no_more id (reply_text reply) ss ts h
printed_fewer false id reply ss ts h = gives_up_no_more id ss ts h

answer_fewer : (id : LinkId) (reply : Option Reply) (ss ts : List Session) → SendsReply id reply ss ts → Fewer ss ts
answer_fewer id None ss ts h = same_waiting ss ts h
answer_fewer id (Some reply) ss ts h = printed_fewer h.0 id reply ss ts h.1

watch_fewer : (granted : Bool) (id : LinkId) (ss ts : List Session) → WatchesIf granted id ss ts → Fewer ss ts
watch_fewer true id ss ts h = watches_no_more id ss ts h
watch_fewer false id ss ts h = same_waiting ss ts h

pub responds_fewer : (id : LinkId) (d : DaemonState) (entries : List Entry) (ss ts : List Session) → Responds id d entries ss ts → Fewer ss ts
responds_fewer id d entries ss ts h =
    let a : lines_waiting h.0 ≤ lines_waiting ss = answer_fewer id d.reply ss h.0 h.2 in
    let b : lines_waiting h.1 ≤ lines_waiting h.0 = watch_fewer (grants_watch d) id h.0 h.1 h.3 in
    let c : lines_waiting ts ≤ lines_waiting h.1 = notifies_fewer d.access entries h.1 ts h.4 in
    omega arith
