-- A whole turn, and a whole flush, keep accounts and lines of all sessions.
use Rattle.std.proofs.Common.{◌≡◌, ℕ, Bool, true, false, nat_lt, filter, length, List, [], ◌++◌, sym, ap, ◌∙◌, subst, append_assoc}
use Rattle.std.proofs.lemmas.List.{append-nil}
use Rattle.ug_types.specs.Principals.{Named}
use Rattle.ug_types.specs.declared.access.Section.{Section}
use Rattle.ug_links.specs.declared.waiter.LinkId.{LinkId}
use Rattle.ug_links.specs.declared.waiter.Ready.{Ready}
use Rattle.ug_links.specs.declared.step.LinkStep.{LinkStep}
use Rattle.ug_links.specs.Talk.{Return, Path, AreSteps, and_then}
use Rattle.ug_links.proofs.Paths.{path_split}
use Rattle.ug_sessions.specs.declared.session.Session.{Session}
use Rattle.ug_sessions.specs.declared.session.Listener.{Listener}
use Rattle.ug_sessions.specs.declared.session.Turn.{Turn}
use Rattle.ug_sessions.specs.Accepting.{accepting_all}
use Rattle.ug_sessions.specs.Reading.{reading_all}
use Rattle.ug_sessions.specs.Sending.{flushing_all, stays}
use Rattle.ug_sessions.specs.Serving.{turning, turning_by, turning_room, turning_listeners, flushing}
use Rattle.ug_sessions.specs.States.{ServerState, listeners_from}
use Rattle.ug_sessions.specs.Sessions.{none_counted}
use Rattle.ug_sessions.specs.Due.{Said}
use Rattle.ug_sessions.specs.Known.{AreSound}
use Rattle.ug_sessions.proofs.Served.{state}
use Rattle.ug_sessions.proofs.Accepted.{accepts_sound, steps_split}
use Rattle.ug_sessions.proofs.Sound.{reading_sound, flushing_sound, some_sound}

module _ (holds : Section → Named → Bool) (said : List Said) (handed : List (LinkId × List ℕ)) where
  nothing_more : (before steps : List LinkStep) (ss ts : List Session) → steps ≡ [] → ts ≡ ss → AreSound holds before said handed ss → AreSound holds (before ++ steps) said handed ts
  nothing_more before steps ss ts e f k = subst (λ (l : List LinkStep). AreSound holds (before ++ l) said handed ts) (sym e) (subst (λ (l : List LinkStep). AreSound holds l said handed ts) (sym (append-nil before)) (subst (λ (l : List Session). AreSound holds before said handed l) (sym f) k))

  pub accepting_keeps : (ready : List Ready) (before : List LinkStep) (ls : List Listener) (x : List Session × Turn) (steps : List LinkStep) (r : List Listener × (List Session × Turn)) → AreSteps before steps → Path (accepting_all ready ls x) steps r → AreSound holds before said handed x.0 → AreSound holds (before ++ steps) said handed r.1.0
  unfolding accepting_all
  accepting_keeps ready before ls x steps r a h k = accepts_sound holds said handed ready before [] ls x steps r a h k

  reading_keeps : (ready : List Ready) (before : List LinkStep) (ss : List Session) (t : Turn) (steps : List LinkStep) (r : List Session × Turn) → Path (reading_all ready ss t) steps r → AreSound holds before said handed ss → AreSound holds (before ++ steps) said handed r.0
  unfolding reading_all
  reading_keeps ready before ss t steps r h k = reading_sound holds before said handed ready ss t steps r h k

  pub flushing_keeps : (before : List LinkStep) (ss : List Session) (t : Turn) (steps : List LinkStep) (r : List Session × Turn) → Path (flushing_all ss t) steps r → AreSound holds before said handed ss → AreSound holds (before ++ steps) said handed r.0
  unfolding flushing_all
  flushing_keeps before ss t steps r h k = flushing_sound holds before said handed ss t steps r h k

  listeners_turn : (ready : List Ready) (before : List LinkStep) (v : ServerState) (steps : List LinkStep) (r : ServerState × Turn) → AreSteps before steps → Path (turning_listeners ready v) steps r → AreSound holds before said handed v.sessions → AreSound holds (before ++ steps) said handed r.0.sessions
  unfolding turning_listeners
  listeners_turn ready before v steps r a h k =
      let p = path_split (accepting_all ready v.listeners (v.sessions, none_counted)) (λ (q : List Listener × (List Session × Turn)). and_then (reading_all ready q.1.0 q.1.1) (λ (w : List Session × Turn). Return (state v.principals q.0 w.0, w.1))) steps r h in
      let q = path_split (reading_all ready p.value.1.0 p.value.1.1) (λ (w : List Session × Turn). Return (state v.principals p.value.0 w.0, w.1)) p.rest r p.second in
      let two = steps_split holds said handed before p.front p.rest (subst (λ (l : List LinkStep). AreSteps before l) p.whole a) in
      let one : AreSound holds (before ++ p.front) said handed p.value.1.0 = accepting_keeps ready before v.listeners (v.sessions, none_counted) p.front p.value two.0 p.first k in
      let mid : AreSound holds ((before ++ p.front) ++ q.front) said handed q.value.0 = reading_keeps ready (before ++ p.front) p.value.1.0 p.value.1.1 q.front q.value q.first one in
      let end : AreSound holds (((before ++ p.front) ++ q.front) ++ q.rest) said handed r.0.sessions = nothing_more ((before ++ p.front) ++ q.front) q.rest q.value.0 r.0.sessions q.second.1 (ap (λ (w : ServerState × Turn). w.0.sessions) q.second.0) mid in
      let whole : ((before ++ p.front) ++ q.front) ++ q.rest ≡ before ++ steps =
      append_assoc (before ++ p.front) q.front q.rest ∙ ap (λ (l : List LinkStep). (before ++ p.front) ++ l) (sym q.whole) ∙ append_assoc before p.front p.rest ∙ ap (λ (l : List LinkStep). before ++ l) (sym p.whole) in
      subst (λ (l : List LinkStep). AreSound holds l said handed r.0.sessions) whole end

  room_turn : (b : Bool) (ready : List Ready) (before : List LinkStep) (v : ServerState) (steps : List LinkStep) (r : ServerState × Turn) → AreSteps before steps → Path (turning_room ready v b) steps r → AreSound holds before said handed v.sessions → AreSound holds (before ++ steps) said handed r.0.sessions
  room_turn true ready before v steps r a h k = listeners_turn ready before (record v { listeners = listeners_from 0 v.principals }) steps r a h k
  room_turn false ready before v steps r a h k = nothing_more before steps v.sessions r.0.sessions h.1 (ap (λ (w : ServerState × Turn). w.0.sessions) h.0) k

  turn_by : (b : Bool) (ready : List Ready) (before : List LinkStep) (v : ServerState) (steps : List LinkStep) (r : ServerState × Turn) → AreSteps before steps → Path (turning_by b ready v) steps r → AreSound holds before said handed v.sessions → AreSound holds (before ++ steps) said handed r.0.sessions
  turn_by true ready before v steps r a h k = room_turn h.0 ready before v steps r a h.1 k
  turn_by false ready before v steps r a h k = listeners_turn ready before v steps r a h k

  pub turn_keeps : (ready : List Ready) (before : List LinkStep) (v : ServerState) (steps : List LinkStep) (r : ServerState × Turn) → AreSteps before steps → Path (turning ready v) steps r → AreSound holds before said handed v.sessions → AreSound holds (before ++ steps) said handed r.0.sessions
  unfolding turning
  turn_keeps ready before v steps r a h k = turn_by (nat_lt (length v.listeners) (length v.principals)) ready before v steps r a h k

  pub flush_keeps : (before : List LinkStep) (v : ServerState) (steps : List LinkStep) (r : ServerState × Turn) → Path (flushing v) steps r → AreSound holds before said handed v.sessions → AreSound holds (before ++ steps) said handed r.0.sessions
  unfolding flushing
  flush_keeps before v steps r h k =
      let p = path_split (flushing_all v.sessions none_counted) (λ (w : List Session × Turn). Return (state v.principals v.listeners (filter stays w.0), w.1)) steps r h in
      let mid : AreSound holds (before ++ p.front) said handed (filter stays p.value.0) = some_sound stays holds (before ++ p.front) said handed p.value.0 (flushing_keeps before v.sessions none_counted p.front p.value p.first k) in
      let end : AreSound holds ((before ++ p.front) ++ p.rest) said handed r.0.sessions = nothing_more (before ++ p.front) p.rest (filter stays p.value.0) r.0.sessions p.second.1 (ap (λ (w : ServerState × Turn). w.0.sessions) p.second.0) mid in
      subst (λ (l : List LinkStep). AreSound holds l said handed r.0.sessions) (append_assoc before p.front p.rest ∙ ap (λ (l : List LinkStep). before ++ l) (sym p.whole)) end
