-- The turns of a run serve its sessions, whether all of them were made, the last one was cut, or a wait failed.
use Rattle.std.proofs.Common.{◌≡◌, ℕ, Bool, true, false, List, [], ◌∷◌, ◌++◌, inl, inr, refl, sym, ◌∙◌, ap, subst, append_assoc, append-nil, arith}
use Rattle.std.specs.List.{flat_map}
use Rattle.std.proofs.lemmas.Bool.{false≢true}
use Rattle.ug_types.specs.Elements.{Has}
use Rattle.ug_types.specs.Principals.{Named}
use Rattle.ug_links.specs.declared.waiter.LinkId.{LinkId}
use Rattle.ug_links.specs.declared.waiter.Waiter
use Rattle.ug_links.specs.declared.clock.Clock
use Rattle.ug_types.proofs.Elements.{has_left}
use Rattle.ug_acl.specs.Acls.{Addition}
use Rattle.ug_kernel.specs.declared.sysfs.Sysfs
use Rattle.ug_store.specs.declared.disk.RuleDisk
use Rattle.ug_links.specs.declared.step.LinkStep.{LinkStep}
use Rattle.ug_links.specs.Steps.{ids_end}
use Rattle.ug_links.specs.Talk.{AreSteps, Makes}
use Rattle.ug_links.specs.declared.links.Links
use Rattle.ug_proto.specs.Lines.{stream_lines}
use Rattle.ug_sessions.specs.declared.session.Session.{Session}
use Rattle.ug_sessions.specs.Answering.{may_listen}
use Rattle.ug_sessions.specs.Due.{sent_to}
use Rattle.ug_sessions.specs.Handed.{bytes_read}
use Rattle.ug_sessions.specs.Known.{AreSound}
use Rattle.ug_sessions.specs.States.{ServerState}
use Rattle.ug_sessions.specs.Tied.{IsWhose}
use Rattle.ug_sessions.proofs.Accepted.{steps_split}
use Rattle.ug_sessions.proofs.TiedAll.{begins_tied}
use Rattle.ug_serve.specs.Saying.{AreServed, GetsItsDue, HaveAccess, IsLeftOver, RefusesBehindAll, asked_in}
use Rattle.ug_serve.specs.Serving.{server_for}
use Rattle.ug_serve.specs.Telling.{turns_calls}
use Rattle.ug_serve.specs.Turns.{TurnEvent, Turned, turns_events, AreWhole, TurnWorld, Sends, IsTurn, Turns, CutsTurns, ServesTurns}
use Rattle.ug_serve.specs.declared.turn.TurnEnd.{TurnEnd}
use Rattle.ug_serve.specs.declared.turn.TurnEnd.TheVariants as end
use Rattle.ug_serve.proofs.AllServed.{KeepsAll, all_got}
use Rattle.ug_serve.proofs.Running.{cuts_turns, flat-append, turns_more}
use Rattle.ug_serve.proofs.Said.{ServesMore, Stands, all_answered, cut_turn, have_access, serves_then, turns_access, whole_turns}
use Rattle.ug_serve.proofs.Whose.{OnlyListens, listens_accept_none, listens_alone, listens_below, whose_one}

-- ---- the calls of a run

pub makes_both : {S : Type 0} (gives : S → LinkStep → S → Type 0) (s : S) (a b : List LinkStep) (u t : S) → Makes gives s a u → Makes gives u b t → Makes gives s (a ++ b) t
makes_both gives s [] b u t h k = subst (λ (x : _). Makes gives x b t) h k
makes_both gives s (step ∷ a) b u t h k = (h.0, h.1, makes_both gives h.0 a b u t h.2 k)

last_whole : (front : List Turned) (last : Turned) → AreWhole (front ++ last ∷ []) → last.whole ≡ true
last_whole [] last h = h.0
last_whole (turn ∷ front) last h = last_whole front last h.1

module _ (acl : List Addition) (principals : List Named) (all : List LinkStep)
    (one : (id : LinkId) (p who : Named) → IsWhose principals all id p → IsWhose principals all id who → p ≡ who) where
  -- a server before its first turn
  first_stands : (before : List LinkStep) (v : ServerState) → OnlyListens before → v.principals ≡ principals → v.listeners ≡ [] → v.sessions ≡ [] → Stands acl principals all one before [] [] v
  first_stands before v listens is untried none =
      let first : KeepsAll acl principals all one before [] [] [] = record {
        sound = record { accounts = tt; lines = tt; distinct = tt; known = tt; said_known = tt; handed_known = tt; calls_known = listens_below (ids_end before) before listens; too_long = tt };
        tied = (tt, tt);
        last = tt;
        behind_all = tt;
        gone = λ id who n o. record {
          sent = ([], sym (append-nil (sent_to id before) ∙ (listens_alone id before listens).unsent));
          lines = (stream_lines (bytes_read id before), refl);
        };
      } in
      record {
        its = is;
        tied = begins_tied before v untried none (listens_accept_none before listens);
        keeps = subst (λ (ss : List Session). KeepsAll acl principals all one before [] [] ss) (sym none) first;
      }

  are_served : (turns : List Turned) (v : ServerState) (left : List (LinkId × List ℕ)) → IsLeftOver turns left → ServesMore acl principals all one all (turns_events turns) [] [] left v.sessions → AreServed acl principals all turns v
  are_served turns v left over k = record {
    said = k.more;
    by_events = k.by_events;
    unanswered = left;
    left_over = over;
    sound = subst (λ (l : List (LinkId × List ℕ)). AreSound (may_listen acl) all k.more l v.sessions) k.now_is k.keeps.sound;
    refuses_last = k.keeps.last;
    refuses_behind_all = subst (λ (l : List (LinkId × List ℕ)). RefusesBehindAll all l k.more) k.now_is k.keeps.behind_all;
    got = λ id who o. subst (λ (l : List (LinkId × List ℕ)). GetsItsDue acl all k.more l id who) k.now_is (all_got acl principals all one k.more k.now v.sessions k.keeps id who o);
    own = k.own;
  }

-- a server without sessions, over links that only listened
pub none_served : (acl : List Addition) (principals : List Named) (steps : List LinkStep) → OnlyListens steps → AreSteps [] (steps ++ []) → AreServed acl principals (steps ++ []) [] (server_for principals)
none_served acl principals steps listens may =
    let all : List LinkStep = steps ++ [] in
    let same : steps ≡ all = sym (append-nil steps) in
    let only : OnlyListens all = subst OnlyListens same listens in
    let one = whose_one principals all may in
    let first = first_stands acl principals all one all (server_for principals) only refl refl refl in
    are_served acl principals all one [] (server_for principals) [] (λ w. refl, omega arith)
    (record { more = []; by_events = refl; now = []; now_is = refl; keeps = first.keeps; own = tt })

module _ {Y D : Type 0} (sysfs : Sysfs.Ghosts Y) (disk : RuleDisk.Ghosts D)
    {N W C : Type 0} (net : Links.Ghosts N) (wait : Waiter.Ghosts W) (ticks : Clock.Ghosts C) where
  abbrev World : Type 0
  World = TurnWorld Y D N W C

  abbrev Are : World → List Turned → World → Type 0
  Are s turns t = Turns sysfs disk net wait ticks s turns t

  sends_made : (whole : Bool) (steps : List LinkStep) (v : ServerState) (l : N) (u : ServerState) (m : N) → Sends sysfs disk net wait ticks whole steps v l u m → Makes net.gives l steps m
  sends_made true steps v l u m h = h.2
  sends_made false steps v l u m h = subst (λ (xs : List LinkStep). Makes net.gives l xs m) (sym h.0) h.2

  turns_made : (s : World) (turns : List Turned) (t : World) → Are s turns t → Makes net.gives s.links (turns_calls turns) t.links
  turns_made s [] t h = ap (λ (x : World). x.links) h
  turns_made s (turn ∷ turns) t h =
      makes_both net.gives s.links (turn.comes ++ turn.sends) (turns_calls turns) h.0.links t.links
      (makes_both net.gives s.links turn.comes turn.sends h.1.came_links h.0.links h.1.comes_made (sends_made turn.whole turn.sends h.1.served h.1.came_links h.0.server h.0.links h.1.sends))
      (turns_made h.0 turns t h.2)

  module _ (n : ℕ) (s : World) where
    pub run_made : (made : List Turned) (ended : TurnEnd) (t : World) → ServesTurns sysfs disk net wait ticks n s made ended t → Makes net.gives s.links (turns_calls made) t.links
    run_made made end.Done t h = turns_made s made t h.2
    run_made made end.Numbers t h = turns_made s made t (cuts_turns sysfs disk net wait ticks n s made t h)
    run_made made end.WaitFailed t h = subst (λ (x : World). Makes net.gives s.links (turns_calls made) x.links) (sym h.2.same) (turns_made s made h.0 h.1.2)

    pub run_access : (made : List Turned) (ended : TurnEnd) (t : World) → ServesTurns sysfs disk net wait ticks n s made ended t → HaveAccess s.core.daemon.access (turns_events made)
    run_access made end.Done t h = turns_access sysfs disk net wait ticks s made t h.2
    run_access made end.Numbers t h = turns_access sysfs disk net wait ticks s made t (cuts_turns sysfs disk net wait ticks n s made t h)
    run_access made end.WaitFailed t h = turns_access sysfs disk net wait ticks s made h.0 h.1.2

  module _ (before : List LinkStep) (listens : OnlyListens before) (s : World) (untried : s.server.listeners ≡ []) (none : s.server.sessions ≡ []) where
    abbrev acl : List Addition
    acl = s.core.daemon.access

    abbrev principals : List Named
    principals = s.server.principals

    whole_served : (made : List Turned) (t : World) → AreSteps [] (before ++ turns_calls made) → AreWhole made → Are s made t → AreServed acl principals (before ++ turns_calls made) made t.server
    whole_served made t steps whole are =
        let all : List LinkStep = before ++ turns_calls made in
        let one = whose_one principals all steps in
        let can = (steps_split (may_listen acl) [] [] [] before (turns_calls made) steps).1 in
        let k = whole_turns acl principals all one sysfs disk net wait ticks before s made t [] [] whole (turns_access sysfs disk net wait ticks s made t are) can (λ step h. h) are (first_stands acl principals all one before s.server listens refl untried none) in
        are_served acl principals all one made t.server [] (λ w. refl, omega arith) k.serves

    -- the last turn was cut
    cut_served : (front : List Turned) (last : Turned) (u t : World) → AreSteps [] (before ++ turns_calls (front ++ last ∷ [])) → AreWhole front → Are s front u → IsTurn sysfs disk net wait ticks u last t → last.whole ≡ false → AreServed acl principals (before ++ turns_calls (front ++ last ∷ [])) (front ++ last ∷ []) t.server
    cut_served front last u t steps whole are turn cut =
        let here : List LinkStep = last.comes ++ last.sends in
        let turns : List Turned = front ++ last ∷ [] in
        let first : List LinkStep = before ++ turns_calls front in
        let all : List LinkStep = first ++ here in
        let same : before ++ turns_calls turns ≡ all =
        ap (λ (l : List LinkStep). before ++ l) (flat-append (λ (x : Turned). x.comes ++ x.sends) front (last ∷ []) ∙ ap (λ (l : List LinkStep). turns_calls front ++ l) (append-nil here)) ∙ sym (append_assoc before (turns_calls front) here) in
        let events : turns_events turns ≡ turns_events front ++ last.events = flat-append (λ (x : Turned). x.events) front (last ∷ []) ∙ ap (λ (l : List TurnEvent). turns_events front ++ l) (append-nil last.events) in
        let may : AreSteps [] all = subst (AreSteps []) same steps in
        let one = whose_one principals all may in
        let parts = steps_split (may_listen acl) [] [] [] first here may in
        let can = (steps_split (may_listen acl) [] [] [] before (turns_calls front) parts.0).1 in
        let access = have_access acl (turns_events front) last.events (subst (HaveAccess acl) events (turns_access sysfs disk net wait ticks s turns t (turns_more sysfs disk net wait ticks s front u last t are turn))) in
        let reach : (step : LinkStep) → Has first step → Has all step = λ step h. has_left first here step h in
        let reach_on : (step : LinkStep) → Has (first ++ last.comes) step → Has all step = λ step h. subst (λ (l : List LinkStep). Has l step) (append_assoc first last.comes last.sends) (has_left (first ++ last.comes) last.sends step h) in
        let k = whole_turns acl principals all one sysfs disk net wait ticks before s front u [] [] whole access.0 can reach are (first_stands acl principals all one before s.server listens refl untried none) in
        let r = cut_turn acl principals all one sysfs disk net wait ticks first u last t k.serves.more k.serves.now cut reach_on access.1 parts.1 turn k.stands in
        let left : List (LinkId × List ℕ) = r.0 in
        let both : ServesMore acl principals all one all (turns_events front ++ last.events) [] [] left t.server.sessions =
        serves_then acl principals all one all (turns_events front) last.events [] k.serves.more [] left t.server.sessions k.serves.by_events k.serves.own
        (subst (λ (l : List (LinkId × List ℕ)). ServesMore acl principals all one all last.events k.serves.more l left t.server.sessions) (all_answered acl principals all one [] (flat_map asked_in (turns_events front)) k.serves.now k.serves.now_is) r.2) in
        let over : IsLeftOver turns left = (λ w. absurd (false≢true (sym cut ∙ last_whole front last w)), r.1) in
        subst (λ (l : List LinkStep). AreServed acl principals l turns t.server) (sym same)
        (are_served acl principals all one turns t.server left over (subst (λ (es : List TurnEvent). ServesMore acl principals all one all es [] [] left t.server.sessions) (sym events) both))

    cuts_served : (n : ℕ) (made : List Turned) (t : World) → AreSteps [] (before ++ turns_calls made) → CutsTurns sysfs disk net wait ticks n s made t → AreServed acl principals (before ++ turns_calls made) made t.server
    cuts_served n made t steps (inl h) = subst (λ (x : World). AreServed acl principals (before ++ turns_calls made) made x.server) (sym h.2.same) (whole_served made h.0 steps h.1.1 h.1.2)
    cuts_served n made t steps (inr h) =
        subst (λ (l : List Turned). AreServed acl principals (before ++ turns_calls l) l t.server) (sym h.3)
        (cut_served h.1 h.2 h.0 t (subst (λ (l : List Turned). AreSteps [] (before ++ turns_calls l)) h.3 steps) h.4.1 h.4.2 h.5 h.6)

    pub run_serves : (n : ℕ) (made : List Turned) (ended : TurnEnd) (t : World) → AreSteps [] (before ++ turns_calls made) → ServesTurns sysfs disk net wait ticks n s made ended t → AreServed acl principals (before ++ turns_calls made) made t.server
    run_serves n made end.Done t steps h = whole_served made t steps h.1 h.2
    run_serves n made end.Numbers t steps h = cuts_served n made t steps h
    run_serves n made end.WaitFailed t steps h = subst (λ (x : World). AreServed acl principals (before ++ turns_calls made) made x.server) (sym h.2.same) (whole_served made h.0 steps h.1.1 h.1.2)
