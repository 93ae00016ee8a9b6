-- Turns serve all sessions: those that are kept, and those that were closed and forgotten.
use Rattle.std.proofs.Common.{◌≡◌, ℕ, ◌<◌, ◌≤◌, Bool, true, false, cond, nat_lt, length, List, [], ◌∷◌, ◌++◌, Option, Some, None, refl, sym, ◌∙◌, ap, subst, append_assoc, append-nil, arith}
use Rattle.std.specs.List.{flat_map}
use Rattle.ug_types.specs.Elements.{Has}
use Rattle.ug_types.specs.Principals.{Named}
use Rattle.ug_types.specs.declared.access.Section.{Section}
use Rattle.ug_types.specs.declared.verdict.Moment.{Moment}
use Rattle.ug_links.specs.declared.waiter.LinkId.{LinkId}
use Rattle.ug_links.specs.declared.waiter.Waiter
use Rattle.ug_links.specs.declared.clock.Clock
use Rattle.ug_types.proofs.Elements.{has_left}
use Rattle.ug_acl.specs.Acls.{Addition}
use Rattle.ug_audit.specs.declared.entry.Entry.{Entry}
use Rattle.ug_proto.specs.declared.reply.Reply.{Reply}
use Rattle.ug_proto.specs.Replies.{reply_text}
use Rattle.ug_kernel.specs.declared.sysfs.Sysfs
use Rattle.ug_store.specs.declared.disk.RuleDisk
use Rattle.ug_core.specs.Event.{DaemonState}
use Rattle.ug_types.specs.declared.event.Event.{Event}
use Rattle.ug_types.specs.declared.event.Event.TheVariants.{Order}
use Rattle.ug_links.specs.declared.step.LinkStep.{LinkStep}
use Rattle.ug_links.specs.declared.step.LinkStep.TheVariants.{AcceptedAt}
use Rattle.ug_links.specs.declared.links.Accepted.TheVariants as accepted
use Rattle.ug_links.specs.Steps.{ids_end}
use Rattle.ug_links.specs.Talk.{AreSteps}
use Rattle.ug_links.specs.declared.links.Links
use Rattle.ug_sessions.specs.declared.session.Session.{Session}
use Rattle.ug_sessions.specs.Answering.{HandsFirst, is_due, may_listen}
use Rattle.ug_sessions.specs.Due.{Said, Answered, Watched, Noticed, Overlong, overlong_all}
use Rattle.ug_sessions.specs.Known.{AreKnown}
use Rattle.ug_sessions.specs.States.{ServerState, listeners_from}
use Rattle.ug_sessions.specs.Tied.{AreListenersOf, AreWhose, IsTied, IsWhose}
use Rattle.ug_sessions.proofs.Accepted.{steps_split}
use Rattle.ug_sessions.proofs.TiedSaid.{hands_tied}
use Rattle.ug_serve.specs.Responses.{notice_section, NotifiesIf, Notifies, SendsReplyIf, SendsReply, grants_watch, WatchesIf, Responds}
use Rattle.ug_serve.specs.Saying.{answered_by, watched_by, noticed_in, notices_in, said_in, asked_if, asked_in, without_overlong, AreAskedBy, HaveAccess, IsAskedBy}
use Rattle.ug_serve.specs.Telling.{turns_calls}
use Rattle.ug_serve.specs.Turns.{TurnEvent, Turned, turns_events, AreWhole, AskedLine, Core, CoreAndServer, with_server, TurnWorld, HandsOutNext, IsOrder, IsSweep, AreOrders, ServesOrders, Events, Sweeps, Sweeps_not, Serves, Serves_not, Sends, IsTurn, Turns}
use Rattle.ug_serve.proofs.SameAccess.{event_access}
use Rattle.ug_serve.proofs.AllServed.{KeepsAll, answers_all, flush_all, hands_all, hands_untold, notices_all, passes_all, turn_all, untold_all, watches_all}
use Rattle.ug_serve.proofs.ToldLast.{IsUntold}
use Rattle.ug_serve.proofs.Running.{AreHandled, flat-append, turns_handled}

-- ---- what is said but for refusals

without-append : (a b : List Said) → without_overlong (a ++ b) ≡ without_overlong a ++ without_overlong b
without-append [] b = refl
without-append (Overlong id ∷ a) b = without-append a b
without-append (Answered id text ∷ a) b = ap (λ (l : List Said). Answered id text ∷ l) (without-append a b)
without-append (Watched id ∷ a) b = ap (λ (l : List Said). Watched id ∷ l) (without-append a b)
without-append (Noticed section text ∷ a) b = ap (λ (l : List Said). Noticed section text ∷ l) (without-append a b)

over_none : (b : Bool) (id : LinkId) (rest : List Said) → without_overlong (cond b (Overlong id ∷ []) [] ++ rest) ≡ without_overlong rest
over_none true id rest = refl
over_none false id rest = refl

overlong_none : (ss : List Session) → without_overlong (overlong_all ss) ≡ []
overlong_none [] = refl
overlong_none (s ∷ ss) = over_none (is_due s) s.id (overlong_all ss) ∙ overlong_none ss

answered_plain : (id : Option LinkId) (reply : Option Reply) → without_overlong (answered_by id reply) ≡ answered_by id reply
answered_plain (Some id) (Some reply) = refl
answered_plain (Some id) None = refl
answered_plain None reply = refl

watched_plain : (id : Option LinkId) (granted : Bool) → without_overlong (watched_by id granted) ≡ watched_by id granted
watched_plain (Some id) true = refl
watched_plain (Some id) false = refl
watched_plain None granted = refl

noticed_plain : (section : Option Section) (e : Entry) → without_overlong (noticed_in section e) ≡ noticed_in section e
noticed_plain (Some section) e = refl
noticed_plain None e = refl

both_plain : (a b : List Said) → without_overlong a ≡ a → without_overlong b ≡ b → without_overlong (a ++ b) ≡ a ++ b
both_plain a b h k = without-append a b ∙ (ap (λ (l : List Said). l ++ without_overlong b) h ∙ ap (λ (l : List Said). a ++ l) k)

notices_plain : (es : List Entry) → without_overlong (notices_in es) ≡ notices_in es
notices_plain [] = refl
notices_plain (e ∷ es) = both_plain (noticed_in (notice_section e) e) (notices_in es) (noticed_plain (notice_section e) e) (notices_plain es)

said_plain : (e : TurnEvent) → without_overlong (said_in e) ≡ said_in e
said_plain e =
    both_plain (answered_by e.asked_by e.after.reply) (watched_by e.asked_by (grants_watch e.after) ++ notices_in e.entries) (answered_plain e.asked_by e.after.reply)
    (both_plain (watched_by e.asked_by (grants_watch e.after)) (notices_in e.entries) (watched_plain e.asked_by (grants_watch e.after)) (notices_plain e.entries))

behind_overlong : (ss : List Session) (more : List Said) → without_overlong more ≡ more → without_overlong (overlong_all ss ++ more) ≡ more
behind_overlong ss more h = without-append (overlong_all ss) more ∙ (ap (λ (l : List Said). l ++ without_overlong more) (overlong_none ss) ∙ h)

-- ---- the session that asks is known

known_at : (n : ℕ) (front : List Session) (s : Session) (behind : List Session) → AreKnown n (front ++ s ∷ behind) → s.id.0 < n
known_at n [] s behind h = h.0
known_at n (x ∷ front) s behind h = known_at n front s behind h.1

asked_both : (principals : List Named) (calls : List LinkStep) (es fs : List TurnEvent) → AreAskedBy principals calls es → AreAskedBy principals calls fs → AreAskedBy principals calls (es ++ fs)
asked_both principals calls [] fs h k = k
asked_both principals calls (e ∷ es) fs h k = (h.0, asked_both principals calls es fs h.1 k)

pub have_access : (acl : List Addition) (es fs : List TurnEvent) → HaveAccess acl (es ++ fs) → HaveAccess acl es × HaveAccess acl fs
have_access acl [] fs h = (tt, h)
have_access acl (e ∷ es) fs h = let k = have_access acl es fs h.1 in ((h.0, k.0), k.1)

-- nothing but sessions changed
abbrev Alike : ServerState → ServerState → Type 0
Alike v u = (u.principals ≡ v.principals) × (u.listeners ≡ v.listeners)

alike_then : (v u w : ServerState) → Alike v u → Alike u w → Alike v w
alike_then v u w h k = (k.0 ∙ h.0, k.1 ∙ h.1)

-- what may be left over of the events of a turn
abbrev IsLeftOf : Bool → List (LinkId × List ℕ) → Type 0
IsLeftOf true left = left ≡ []
IsLeftOf false left = length left ≤ 1

module _ (acl : List Addition) (principals : List Named) (all : List LinkStep)
    (one : (id : LinkId) (p who : Named) → IsWhose principals all id p → IsWhose principals all id who → p ≡ who) where
  abbrev Keeps : List LinkStep → List Said → List (LinkId × List ℕ) → List Session → Type 0
  Keeps calls said handed ss = KeepsAll acl principals all one calls said handed ss

  module _ (calls : List LinkStep) (handed : List (LinkId × List ℕ)) where
    keeps_behind : (said a b : List Said) (ss : List Session) → Keeps calls ((said ++ a) ++ b) handed ss → Keeps calls (said ++ (a ++ b)) handed ss
    keeps_behind said a b ss h = subst (λ (l : List Said). Keeps calls l handed ss) (append_assoc said a b) h

    nothing_said : (said : List Said) (ss ts : List Session) → ts ≡ ss → Keeps calls said handed ss → Keeps calls (said ++ []) handed ts
    nothing_said said ss ts e h = subst (λ (l : List Said). Keeps calls l handed ts) (sym (append-nil said)) (subst (λ (x : List Session). Keeps calls said handed x) (sym e) h)

    notice_keeps : (section : Option Section) (e : Entry) (said : List Said) (ss ts : List Session) → NotifiesIf section acl e ss ts → Keeps calls said handed ss → Keeps calls (said ++ noticed_in section e) handed ts
    notice_keeps None e said ss ts h k = nothing_said said ss ts h k
    notice_keeps (Some section) e said ss ts h k = notices_all acl principals all one calls said handed section _ ss ts h k

    notices_keep : (es : List Entry) (said : List Said) (ss ts : List Session) → Notifies acl es ss ts → Keeps calls said handed ss → Keeps calls (said ++ notices_in es) handed ts
    notices_keep [] said ss ts h k = nothing_said said ss ts h k
    notices_keep (e ∷ es) said ss ts h k =
        keeps_behind said (noticed_in (notice_section e) e) (notices_in es) ts (notices_keep es (said ++ noticed_in (notice_section e) e) h.0 ts h.2 (notice_keeps (notice_section e) e said ss h.0 h.1 k))

    printed_keeps : (printed : Bool) (id : LinkId) (reply : Reply) (said : List Said) (ss ts : List Session) → id.0 < ids_end calls → IsUntold id said → SendsReplyIf printed id reply ss ts → Keeps calls said handed ss → Keeps calls (said ++ Answered id (reply_text reply) ∷ []) handed ts
    printed_keeps true id reply said ss ts lt u h k = answers_all acl principals all one calls said handed id (reply_text reply) ss ts lt u h k
    printed_keeps false id reply said ss ts lt u h k = untold_all acl principals all one calls said handed id (reply_text reply) ss ts lt u h k

    answer_keeps : (id : LinkId) (reply : Option Reply) (said : List Said) (ss ts : List Session) → id.0 < ids_end calls → IsUntold id said → SendsReply id reply ss ts → Keeps calls said handed ss → Keeps calls (said ++ answered_by (Some id) reply) handed ts
    answer_keeps id None said ss ts lt u h k = nothing_said said ss ts h k
    answer_keeps id (Some reply) said ss ts lt u h k = printed_keeps h.0 id reply said ss ts lt u h.1 k

    watch_keeps : (granted : Bool) (id : LinkId) (said : List Said) (ss ts : List Session) → id.0 < ids_end calls → WatchesIf granted id ss ts → Keeps calls said handed ss → Keeps calls (said ++ watched_by (Some id) granted) handed ts
    watch_keeps true id said ss ts lt h k = watches_all acl principals all one calls said handed id ss ts lt h k
    watch_keeps false id said ss ts lt h k = nothing_said said ss ts h k

    responds_keeps : (id : LinkId) (d : DaemonState) (entries : List Entry) (said : List Said) (ss ts : List Session) → d.access ≡ acl → id.0 < ids_end calls → IsUntold id said → Responds id d entries ss ts → Keeps calls said handed ss
        → Keeps calls (said ++ (answered_by (Some id) d.reply ++ (watched_by (Some id) (grants_watch d) ++ notices_in entries))) handed ts
    responds_keeps id d entries said ss ts e lt u h k =
        let a = answered_by (Some id) d.reply in
        let w = watched_by (Some id) (grants_watch d) in
        let first = answer_keeps id d.reply said ss h.0 lt u h.2 k in
        let second = watch_keeps (grants_watch d) id (said ++ a) h.0 h.1 lt h.3 first in
        let third = notices_keep entries ((said ++ a) ++ w) h.1 ts (subst (λ (x : List Addition). Notifies x entries h.1 ts) e h.4) second in
        keeps_behind said a (w ++ notices_in entries) ts (keeps_behind (said ++ a) w (notices_in entries) ts third)

  -- ---- events

  -- some events were served, and more was said and asked; and that was handed out and not answered
  pub record ServesMore (calls : List LinkStep) (events : List TurnEvent) (said : List Said) (handed left : List (LinkId × List ℕ)) (ts : List Session) : Type 0 where
    pub more : List Said
    pub by_events : without_overlong more ≡ flat_map said_in events
    pub now : List (LinkId × List ℕ)
    pub now_is : now ≡ (handed ++ flat_map asked_in events) ++ left
    pub keeps : Keeps calls (said ++ more) now ts
    pub own : AreAskedBy principals all events

  pub serves_then : (calls : List LinkStep) (es fs : List TurnEvent) (said first : List Said) (handed left : List (LinkId × List ℕ)) (ts : List Session) → without_overlong first ≡ flat_map said_in es → AreAskedBy principals all es → ServesMore calls fs (said ++ first) (handed ++ flat_map asked_in es) left ts → ServesMore calls (es ++ fs) said handed left ts
  serves_then calls es fs said first handed left ts h own k = record {
    more = first ++ k.more;
    by_events = without-append first k.more ∙ (ap (λ (l : List Said). l ++ without_overlong k.more) h ∙ (ap (λ (l : List Said). flat_map said_in es ++ l) k.by_events ∙ sym (flat-append said_in es fs)));
    now = k.now;
    now_is = k.now_is ∙ ap (λ (l : List (LinkId × List ℕ)). l ++ left) (append_assoc handed (flat_map asked_in es) (flat_map asked_in fs) ∙ ap (λ (l : List (LinkId × List ℕ)). handed ++ l) (sym (flat-append asked_in es fs)));
    keeps = subst (λ (l : List Said). Keeps calls l k.now ts) (append_assoc said first k.more) k.keeps;
    own = asked_both principals all es fs own k.own;
  }

  -- all that was handed out is answered
  pub all_answered : (handed asked now : List (LinkId × List ℕ)) → now ≡ (handed ++ asked) ++ [] → now ≡ handed ++ asked
  all_answered handed asked now e = e ∙ append-nil (handed ++ asked)

  -- these events, and then those
  serves_both : (calls : List LinkStep) (es fs : List TurnEvent) (said : List Said) (handed left : List (LinkId × List ℕ)) (us ts : List Session) → (k : ServesMore calls es said handed [] us) → ServesMore calls fs (said ++ k.more) k.now left ts → ServesMore calls (es ++ fs) said handed left ts
  serves_both calls es fs said handed left us ts k r =
      serves_then calls es fs said k.more handed left ts k.by_events k.own
      (subst (λ (l : List (LinkId × List ℕ)). ServesMore calls fs (said ++ k.more) l left ts) (all_answered handed (flat_map asked_in es) k.now k.now_is) r)

  -- no request was left
  serves_none : (calls : List LinkStep) (said : List Said) (handed : List (LinkId × List ℕ)) (ss ts : List Session) → Keeps calls (said ++ overlong_all ss) handed ts → ServesMore calls [] said handed [] ts
  serves_none calls said handed ss ts h = record {
    more = overlong_all ss;
    by_events = overlong_none ss;
    now = handed;
    now_is = sym (append-nil handed) ∙ sym (append-nil (handed ++ []));
    keeps = h;
    own = tt;
  }

  module _ {Y D : Type 0} (sysfs : Sysfs.Ghosts Y) (disk : RuleDisk.Ghosts D) (calls : List LinkStep)
      (reach : (step : LinkStep) → Has calls step → Has all step) where
    -- the next request is handed out, and that is all
    serves_cut : (asked : AskedLine) (a b : CoreAndServer Y D) (said : List Said) (handed : List (LinkId × List ℕ)) → HandsOutNext (Some asked) a b → Keeps calls said handed a.server.sessions → ServesMore calls [] said handed ((asked.0, asked.2) ∷ []) b.server.sessions
    serves_cut asked a b said handed h k =
        let first : HandsFirst a.server.sessions asked.0 asked.1 asked.2 b.server.sessions = h.1.2 in
        let last : List (LinkId × List ℕ) = (asked.0, asked.2) ∷ [] in
        record {
          more = overlong_all first.front;
          by_events = overlong_none first.front;
          now = handed ++ last;
          now_is = ap (λ (l : List (LinkId × List ℕ)). l ++ last) (sym (append-nil handed));
          keeps = hands_all acl principals all one calls said handed a.server.sessions b.server.sessions asked.0 asked.1 asked.2 first k;
          own = tt;
        }

    order_serves : (moment : Moment) (a : CoreAndServer Y D) (e : TurnEvent) (b : CoreAndServer Y D) (said : List Said) (handed : List (LinkId × List ℕ)) → e.after.access ≡ acl → IsOrder sysfs disk moment a e b → Keeps calls said handed a.server.sessions
        → ServesMore calls (e ∷ []) said handed [] b.server.sessions
    order_serves moment a e b said handed access h k =
        let id = h.asked.0 in
        let line = h.asked.2 in
        let first : HandsFirst a.server.sessions id h.asked.1 line h.handed.server.sessions = h.hands.1.2 in
        let over = overlong_all first.front in
        let now : List (LinkId × List ℕ) = handed ++ (id, line) ∷ [] in
        let lt : id.0 < ids_end calls = subst (λ (i : LinkId). i.0 < ids_end calls) (sym first.its_id) (known_at (ids_end calls) first.front first.session first.behind (subst (AreKnown (ids_end calls)) first.was k.sound.known)) in
        let out = hands_all acl principals all one calls said handed a.server.sessions h.handed.server.sessions id h.asked.1 line first k in
        let untold = hands_untold acl principals all one calls said handed a.server.sessions h.handed.server.sessions id h.asked.1 line first k in
        let says : Option LinkId → List Said = λ o. answered_by o e.after.reply ++ (watched_by o (grants_watch e.after) ++ notices_in e.entries) in
        let put = responds_keeps calls now id e.after e.entries (said ++ over) h.handed.server.sessions b.server.sessions access lt untold h.responds.2 out in
        let same : says (Some id) ≡ said_in e = ap says (sym h.session) in
        let asks : (id, line) ∷ [] ≡ asked_in e = ap (λ (o : Option LinkId). asked_if o (Order moment h.asked.1 line)) (sym h.session) ∙ ap (asked_if e.asked_by) (sym h.order) in
        let its = (hands_tied principals calls a.server.sessions h.handed.server.sessions id h.asked.1 line first k.tied).0 in
        let whose : IsWhose principals all id h.asked.1 = (its.0, reach (AcceptedAt its.0 (accepted.Session id)) its.1, its.2) in
        let asked_so : IsAskedBy principals all e.asked_by e.event = subst (λ (o : Option LinkId). IsAskedBy principals all o e.event) (sym h.session) (subst (λ (v : Event). IsAskedBy principals all (Some id) v) (sym h.order) whose) in
        record {
          more = over ++ said_in e;
          by_events = behind_overlong first.front (said_in e) (said_plain e) ∙ sym (append-nil (said_in e));
          now = now;
          now_is = ap (λ (l : List (LinkId × List ℕ)). handed ++ l) (asks ∙ sym (append-nil (asked_in e))) ∙ sym (append-nil (handed ++ (asked_in e ++ [])));
          keeps = subst (λ (l : List Said). Keeps calls (said ++ (over ++ l)) now b.server.sessions) same (keeps_behind calls now said over (says (Some id)) b.server.sessions put);
          own = (asked_so, tt);
        }

    sweep_serves : (moment : Moment) (a : CoreAndServer Y D) (e : TurnEvent) (b : CoreAndServer Y D) (said : List Said) (handed : List (LinkId × List ℕ)) → e.after.access ≡ acl → IsSweep sysfs disk moment a e b → Keeps calls said handed a.server.sessions
        → ServesMore calls (e ∷ []) said handed [] b.server.sessions
    sweep_serves moment a e b said handed access h k =
        let ss = a.server.sessions in
        let over = overlong_all ss in
        let out = passes_all acl principals all one calls said handed ss h.passed.server.sessions h.hands.1.2 k in
        let put = notices_keep calls handed e.entries (said ++ over) h.passed.server.sessions b.server.sessions (subst (λ (x : List Addition). Notifies x e.entries h.passed.server.sessions b.server.sessions) access h.notifies.2) out in
        let says : Option LinkId → List Said = λ o. answered_by o e.after.reply ++ (watched_by o (grants_watch e.after) ++ notices_in e.entries) in
        let same : notices_in e.entries ≡ said_in e = ap says (sym h.session) in
        let asks : [] ≡ asked_in e = ap (λ (o : Option LinkId). asked_if o e.event) (sym h.session) in
        let asked_so : IsAskedBy principals all e.asked_by e.event = subst (λ (o : Option LinkId). IsAskedBy principals all o e.event) (sym h.session) (subst (λ (v : Event). IsAskedBy principals all None v) (sym h.sweep) tt) in
        record {
          more = over ++ said_in e;
          by_events = behind_overlong ss (said_in e) (said_plain e) ∙ sym (append-nil (said_in e));
          now = handed;
          now_is = sym (append-nil handed) ∙ (ap (λ (l : List (LinkId × List ℕ)). handed ++ l) (asks ∙ sym (append-nil (asked_in e))) ∙ sym (append-nil (handed ++ (asked_in e ++ []))));
          keeps = subst (λ (l : List Said). Keeps calls (said ++ (over ++ l)) handed b.server.sessions) same (keeps_behind calls handed said over (notices_in e.entries) b.server.sessions put);
          own = (asked_so, tt);
        }

    orders_serve : (moment : Moment) (a : CoreAndServer Y D) (es : List TurnEvent) (m b : CoreAndServer Y D) (said : List Said) (handed left : List (LinkId × List ℕ)) → HaveAccess acl es → AreOrders sysfs disk moment a es m → Keeps calls said handed a.server.sessions
        → ((said2 : List Said) (handed2 : List (LinkId × List ℕ)) → Keeps calls said2 handed2 m.server.sessions → ServesMore calls [] said2 handed2 left b.server.sessions)
        → ServesMore calls es said handed left b.server.sessions
    orders_serve moment a [] m b said handed left access h k last = last said handed (subst (λ (x : CoreAndServer Y D). Keeps calls said handed x.server.sessions) (sym h) k)
    orders_serve moment a (e ∷ es) m b said handed left access h k last =
        let first = order_serves moment a e h.0 said handed access.0 h.1 k in
        serves_both calls (e ∷ []) es said handed left h.0.server.sessions b.server.sessions first (orders_serve moment h.0 es m b (said ++ first.more) first.now left access.1 h.2 first.keeps last)

    abbrev Serving : List TurnEvent → Bool → CoreAndServer Y D → CoreAndServer Y D → Type 0
    Serving es whole a b =
        (said : List Said) (handed : List (LinkId × List ℕ)) → HaveAccess acl es → Keeps calls said handed a.server.sessions
        → (left : List (LinkId × List ℕ)) × IsLeftOf whole left × ServesMore calls es said handed left b.server.sessions

    rest_serves : (moment : Moment) (a : CoreAndServer Y D) (es : List TurnEvent) (whole : Bool) (b : CoreAndServer Y D) → ServesOrders sysfs disk moment a es whole b → Serving es whole a b
    rest_serves moment a es true b h said handed access k = (
      [],
      refl,
      orders_serve moment a es h.0 b said handed [] access h.1 k
          (λ said2 handed2 s. serves_none calls said2 handed2 h.0.server.sessions b.server.sessions (passes_all acl principals all one calls said2 handed2 h.0.server.sessions b.server.sessions h.2.1.2 s)),
    )
    rest_serves moment a es false b h said handed access k =
        let last : List (LinkId × List ℕ) = (h.1.0, h.1.2) ∷ [] in
        (last, omega arith, orders_serve moment a es h.0 b said handed last access h.2 k (λ said2 handed2 s. serves_cut h.1 h.0 b said2 handed2 h.3 s))

    serves_behind : (moment : Moment) (a : CoreAndServer Y D) (e : TurnEvent) (m : CoreAndServer Y D) (es : List TurnEvent) (whole : Bool) (b : CoreAndServer Y D) → IsOrder sysfs disk moment a e m → ServesOrders sysfs disk moment m es whole b → Serving (e ∷ es) whole a b
    serves_behind moment a e m es whole b h r said handed access k =
        let first = order_serves moment a e m said handed access.0 h k in
        let rest = rest_serves moment m es whole b r (said ++ first.more) first.now access.1 first.keeps in
        (rest.0, rest.1, serves_both calls (e ∷ []) es said handed rest.0 m.server.sessions b.server.sessions first rest.2)

    events_serve : (moment : Moment) (a : CoreAndServer Y D) (es : List TurnEvent) (whole : Bool) (b : CoreAndServer Y D) → Events sysfs disk moment a es whole b → Serving es whole a b
    events_serve moment a _ _ _ (Sweeps e b h) = λ said handed access k. ([], refl, sweep_serves moment a e b said handed access.0 h k)
    events_serve moment a _ _ _ (Sweeps_not b h r) = λ said handed access k.
        ([], omega arith, serves_none calls said handed a.server.sessions b.server.sessions (passes_all acl principals all one calls said handed a.server.sessions b.server.sessions h.1.2 k))
    events_serve moment a _ _ _ (Serves e m es whole b h k) = serves_behind moment a e m es whole b h k
    events_serve moment a _ _ _ (Serves_not asked b h r) = λ said handed access k. ((asked.0, asked.2) ∷ [], omega arith, serves_cut asked a b said handed h k)

    -- events change sessions alone

    order_alike : (moment : Moment) (a : CoreAndServer Y D) (e : TurnEvent) (b : CoreAndServer Y D) → IsOrder sysfs disk moment a e b → Alike a.server b.server
    order_alike moment a e b h = alike_then a.server h.handed.server b.server (h.hands.1.0, h.hands.1.1) (h.responds.0, h.responds.1)

    orders_alike : (moment : Moment) (a : CoreAndServer Y D) (es : List TurnEvent) (b : CoreAndServer Y D) → AreOrders sysfs disk moment a es b → Alike a.server b.server
    orders_alike moment a [] b h = (ap (λ (x : CoreAndServer Y D). x.server.principals) h, ap (λ (x : CoreAndServer Y D). x.server.listeners) h)
    orders_alike moment a (e ∷ es) b h = alike_then a.server h.0.server b.server (order_alike moment a e h.0 h.1) (orders_alike moment h.0 es b h.2)

    rest_alike : (moment : Moment) (a : CoreAndServer Y D) (es : List TurnEvent) (whole : Bool) (b : CoreAndServer Y D) → ServesOrders sysfs disk moment a es whole b → Alike a.server b.server
    rest_alike moment a es true b h = alike_then a.server h.0.server b.server (orders_alike moment a es h.0 h.1) (h.2.1.0, h.2.1.1)
    rest_alike moment a es false b h = alike_then a.server h.0.server b.server (orders_alike moment a es h.0 h.2) (h.3.1.0, h.3.1.1)

    events_alike : (moment : Moment) (a : CoreAndServer Y D) (es : List TurnEvent) (whole : Bool) (b : CoreAndServer Y D) → Events sysfs disk moment a es whole b → Alike a.server b.server
    events_alike moment a _ _ _ (Sweeps e b h) = alike_then a.server h.passed.server b.server (h.hands.1.0, h.hands.1.1) (h.notifies.0, h.notifies.1)
    events_alike moment a _ _ _ (Sweeps_not b h r) = (h.1.0, h.1.1)
    events_alike moment a _ _ _ (Serves e m es whole b h k) = alike_then a.server m.server b.server (order_alike moment a e m h) (rest_alike moment m es whole b k)
    events_alike moment a _ _ _ (Serves_not asked b h r) = (h.1.0, h.1.1)

  -- ---- turns

  -- a server of these principals is tied to the answers, with all that holds of the sessions
  pub record Stands (calls : List LinkStep) (said : List Said) (handed : List (LinkId × List ℕ)) (v : ServerState) : Type 0 where
    pub its : v.principals ≡ principals
    pub tied : IsTied calls v
    pub keeps : Keeps calls said handed v.sessions

  -- so it is behind events
  stays_tied : (calls : List LinkStep) (said : List Said) (handed : List (LinkId × List ℕ)) (v u : ServerState) → v.principals ≡ principals → IsTied calls v → Alike v u → Keeps calls said handed u.sessions → Stands calls said handed u
  stays_tied calls said handed v u is tied alike k =
      let its : u.principals ≡ principals = alike.0 ∙ is in
      record {
        its = its;
        tied = record {
          listeners =
              subst (λ (l : _). AreListenersOf calls 0 u.principals (cond (nat_lt (length l) (length u.principals)) (listeners_from 0 u.principals) l)) (sym alike.1)
              (subst (λ (ps : List Named). AreListenersOf calls 0 ps (cond (nat_lt (length v.listeners) (length ps)) (listeners_from 0 ps) v.listeners)) (sym alike.0) tied.listeners);
          whose = subst (λ (ps : List Named). AreWhose ps calls u.sessions) (sym its) k.tied.0;
          marked = k.tied.1;
        };
        keeps = k;
      }

  module _ {Y D : Type 0} (sysfs : Sysfs.Ghosts Y) (disk : RuleDisk.Ghosts D)
      {N W C : Type 0} (net : Links.Ghosts N) (wait : Waiter.Ghosts W) (ticks : Clock.Ghosts C) where
    abbrev World : Type 0
    World = TurnWorld Y D N W C

    -- the accepts, the reads and the events of a turn
    record Came (before : List LinkStep) (turn : Turned) (whole : Bool) (said : List Said) (handed : List (LinkId × List ℕ)) (v : ServerState) : Type 0 where
      left : List (LinkId × List ℕ)
      left_over : IsLeftOf whole left
      serves : ServesMore (before ++ turn.comes) turn.events said handed left v.sessions
      stands : Stands (before ++ turn.comes) (said ++ serves.more) serves.now v

    turn_comes : (whole : Bool) (before : List LinkStep) (s : World) (turn : Turned) (t : World) (said : List Said) (handed : List (LinkId × List ℕ)) → turn.whole ≡ whole → ((step : LinkStep) → Has (before ++ turn.comes) step → Has all step) → HaveAccess acl turn.events → AreSteps before turn.comes
        → (h : IsTurn sysfs disk net wait ticks s turn t) → Stands before said handed s.server → Came before turn whole said handed h.served
    turn_comes whole before s turn t said handed is reach access can h k =
        let came = turn_all acl principals all one before said handed turn.tokens s.server turn.comes (h.came, h.counts) k.its can k.tied h.comes k.keeps in
        let events = subst (λ (b : Bool). Serving sysfs disk (before ++ turn.comes) reach turn.events b (with_server s.core h.came) (with_server t.core h.served)) is (events_serve sysfs disk (before ++ turn.comes) reach turn.moment (with_server s.core h.came) turn.events turn.whole (with_server t.core h.served) h.events) in
        let served = events said handed access came.0 in
        record {
          left = served.0;
          left_over = served.1;
          serves = served.2;
          stands = stays_tied (before ++ turn.comes) (said ++ served.2.more) served.2.now h.came h.served came.2 came.1 (events_alike sysfs disk (before ++ turn.comes) reach turn.moment (with_server s.core h.came) turn.events turn.whole (with_server t.core h.served) h.events) served.2.keeps;
        }

    -- turns that were served, and how the server stands behind them
    pub record Served (calls : List LinkStep) (events : List TurnEvent) (said : List Said) (handed : List (LinkId × List ℕ)) (v : ServerState) : Type 0 where
      pub serves : ServesMore calls events said handed [] v.sessions
      pub stands : Stands calls (said ++ serves.more) serves.now v

    more_calls : (a b : List LinkStep) (events : List TurnEvent) (said : List Said) (handed left : List (LinkId × List ℕ)) (ss ts : List Session) → (k : ServesMore a events said handed left ss) → Keeps b (said ++ k.more) k.now ts → ServesMore b events said handed left ts
    more_calls a b events said handed left ss ts k h = record { more = k.more; by_events = k.by_events; now = k.now; now_is = k.now_is; keeps = h; own = k.own }

    none_left : (calls : List LinkStep) (events : List TurnEvent) (said : List Said) (handed left : List (LinkId × List ℕ)) (ss : List Session) → left ≡ [] → (k : ServesMore calls events said handed left ss) → k.now ≡ (handed ++ flat_map asked_in events) ++ []
    none_left calls events said handed left ss e k = k.now_is ∙ ap (λ (l : List (LinkId × List ℕ)). (handed ++ flat_map asked_in events) ++ l) e

    whole_turn : (before : List LinkStep) (s : World) (turn : Turned) (t : World) (said : List Said) (handed : List (LinkId × List ℕ)) → turn.whole ≡ true → ((step : LinkStep) → Has (before ++ turn.comes) step → Has all step) → HaveAccess acl turn.events → AreSteps before (turn.comes ++ turn.sends)
        → IsTurn sysfs disk net wait ticks s turn t → Stands before said handed s.server → Served (before ++ (turn.comes ++ turn.sends)) turn.events said handed t.server
    whole_turn before s turn t said handed is reach access can h k =
        let halves = steps_split (may_listen acl) said handed before turn.comes turn.sends can in
        let c = turn_comes true before s turn t said handed is reach access halves.0 h k in
        let sends = subst (λ (b : Bool). Sends sysfs disk net wait ticks b turn.sends h.served h.came_links t.server t.links) is h.sends in
        let told : List Said = said ++ c.serves.more in
        let sent = flush_all acl principals all one (before ++ turn.comes) told c.serves.now h.served turn.sends (t.server, sends.0) c.stands.its reach halves.1 c.stands.tied sends.1 c.stands.keeps in
        let whole : (before ++ turn.comes) ++ turn.sends ≡ before ++ (turn.comes ++ turn.sends) = append_assoc before turn.comes turn.sends in
        let keeps : Keeps (before ++ (turn.comes ++ turn.sends)) told c.serves.now t.server.sessions = subst (λ (l : List LinkStep). Keeps l told c.serves.now t.server.sessions) whole sent.0 in
        record {
          serves = record {
            more = c.serves.more;
            by_events = c.serves.by_events;
            now = c.serves.now;
            now_is = none_left (before ++ turn.comes) turn.events said handed c.left h.served.sessions c.left_over c.serves;
            keeps = keeps;
            own = c.serves.own;
          };
          stands = record { its = sent.2; tied = subst (λ (l : List LinkStep). IsTied l t.server) whole sent.1; keeps = keeps };
        }

    pub cut_turn : (before : List LinkStep) (s : World) (turn : Turned) (t : World) (said : List Said) (handed : List (LinkId × List ℕ)) → turn.whole ≡ false → ((step : LinkStep) → Has (before ++ turn.comes) step → Has all step) → HaveAccess acl turn.events → AreSteps before (turn.comes ++ turn.sends)
        → IsTurn sysfs disk net wait ticks s turn t → Stands before said handed s.server → (left : List (LinkId × List ℕ)) × (length left ≤ 1) × ServesMore (before ++ (turn.comes ++ turn.sends)) turn.events said handed left t.server.sessions
    cut_turn before s turn t said handed is reach access can h k =
        let halves = steps_split (may_listen acl) said handed before turn.comes turn.sends can in
        let c = turn_comes false before s turn t said handed is reach access halves.0 h k in
        let sends = subst (λ (b : Bool). Sends sysfs disk net wait ticks b turn.sends h.served h.came_links t.server t.links) is h.sends in
        let whole : before ++ turn.comes ≡ before ++ (turn.comes ++ turn.sends) = ap (λ (l : List LinkStep). before ++ l) (sym (append-nil turn.comes) ∙ ap (λ (l : List LinkStep). turn.comes ++ l) (sym sends.0)) in
        let told : List Said = said ++ c.serves.more in (
          c.left,
          c.left_over,
          more_calls (before ++ turn.comes) (before ++ (turn.comes ++ turn.sends)) turn.events said handed c.left h.served.sessions t.server.sessions c.serves
              (subst (λ (l : List LinkStep). Keeps l told c.serves.now t.server.sessions) whole (subst (λ (v : ServerState). Keeps (before ++ turn.comes) told c.serves.now v.sessions) (sym sends.1) c.serves.keeps)),
        )

    abbrev Reach : List LinkStep → Type 0
    Reach calls = (step : LinkStep) → Has calls step → Has all step

    reach_front : (before comes sends rest : List LinkStep) → Reach (before ++ ((comes ++ sends) ++ rest)) → Reach (before ++ comes)
    reach_front before comes sends rest f step h =
        f step (subst (λ (l : List LinkStep). Has l step) (append_assoc before comes (sends ++ rest) ∙ ap (λ (l : List LinkStep). before ++ l) (sym (append_assoc comes sends rest))) (has_left (before ++ comes) (sends ++ rest) step h))

    pub whole_turns : (before : List LinkStep) (s : World) (turns : List Turned) (t : World) (said : List Said) (handed : List (LinkId × List ℕ)) → AreWhole turns → HaveAccess acl (turns_events turns) → AreSteps before (turns_calls turns) → Reach (before ++ turns_calls turns)
        → Turns sysfs disk net wait ticks s turns t → Stands before said handed s.server → Served (before ++ turns_calls turns) (turns_events turns) said handed t.server
    whole_turns before s [] t said handed whole access can reach h k =
        let same : s.server ≡ t.server = ap (λ (x : World). x.server) (sym h) in
        let calls : before ≡ before ++ [] = sym (append-nil before) in
        let told : said ≡ said ++ [] = sym (append-nil said) in
        let stands : Stands (before ++ []) (said ++ []) handed t.server =
        subst (λ (v : ServerState). Stands (before ++ []) (said ++ []) handed v) same (subst (λ (l : List LinkStep). Stands l (said ++ []) handed s.server) calls (subst (λ (l : List Said). Stands before l handed s.server) told k)) in
        record {
          serves = record { more = []; by_events = refl; now = handed; now_is = sym (append-nil handed) ∙ sym (append-nil (handed ++ [])); keeps = stands.keeps; own = tt };
          stands = stands;
        }
    whole_turns before s (turn ∷ turns) t said handed whole access can reach h k =
        let here : List LinkStep = turn.comes ++ turn.sends in
        let calls_of : List LinkStep = turns_calls turns in
        let halves = steps_split (may_listen acl) said handed before here calls_of can in
        let both = have_access acl turn.events (turns_events turns) access in
        let reach_on : Reach ((before ++ here) ++ calls_of) = λ step g. reach step (subst (λ (l : List LinkStep). Has l step) (append_assoc before here calls_of) g) in
        let first = whole_turn before s turn h.0 said handed whole.0 (reach_front before turn.comes turn.sends calls_of reach) both.0 halves.0 h.1 k in
        let rest = whole_turns (before ++ here) h.0 turns t (said ++ first.serves.more) first.serves.now whole.1 both.1 halves.1 reach_on h.2 first.stands in
        let both_serve : ServesMore ((before ++ here) ++ calls_of) (turn.events ++ turns_events turns) said handed [] t.server.sessions =
        serves_then ((before ++ here) ++ calls_of) turn.events (turns_events turns) said first.serves.more handed [] t.server.sessions first.serves.by_events first.serves.own
        (subst (λ (l : List (LinkId × List ℕ)). ServesMore ((before ++ here) ++ calls_of) (turns_events turns) (said ++ first.serves.more) l [] t.server.sessions) (all_answered handed (flat_map asked_in turn.events) first.serves.now first.serves.now_is) rest.serves) in
        let all_calls : (before ++ here) ++ calls_of ≡ before ++ (here ++ calls_of) = append_assoc before here calls_of in
        let serves : ServesMore (before ++ (here ++ calls_of)) (turn.events ++ turns_events turns) said handed [] t.server.sessions = subst (λ (l : List LinkStep). ServesMore l (turn.events ++ turns_events turns) said handed [] t.server.sessions) all_calls both_serve in
        record { serves = serves; stands = record { its = rest.stands.its; tied = subst (λ (l : List LinkStep). IsTied l t.server) all_calls rest.stands.tied; keeps = serves.keeps } }

-- ---- a whole run

module _ {Y D : Type 0} (sysfs : Sysfs.Ghosts Y) (disk : RuleDisk.Ghosts D)
    {N W C : Type 0} (net : Links.Ghosts N) (wait : Waiter.Ghosts W) (ticks : Clock.Ghosts C) where
  handled_access : (acl : List Addition) (c : Core Y D) (es : List TurnEvent) (d : Core Y D) → AreHandled sysfs disk c es d → c.daemon.access ≡ acl → HaveAccess acl es
  handled_access acl c [] d h e = tt
  handled_access acl c (x ∷ es) d h e =
      let now : h.0.daemon.access ≡ acl = event_access sysfs disk x.event c.sysfs c.disk c.daemon h.0.sysfs h.0.disk h.0.daemon h.1.handled ∙ e in
      (ap (λ (y : DaemonState). y.access) (sym h.1.after) ∙ now, handled_access acl h.0 es d h.2 now)

  pub turns_access : (s : TurnWorld Y D N W C) (turns : List Turned) (t : TurnWorld Y D N W C) → Turns sysfs disk net wait ticks s turns t → HaveAccess s.core.daemon.access (turns_events turns)
  turns_access s turns t h = handled_access s.core.daemon.access s.core (turns_events turns) t.core (turns_handled sysfs disk net wait ticks s turns t h) refl
