-- A turn, and a flush.
use Rattle.std.proofs.Common.{◌≡◌, List, filter, refl, sym, subst}
use Rattle.ug_links.specs.declared.step.LinkStep.{LinkStep}
use Rattle.ug_links.specs.Talk.{Return, Talks, and_then}
use Rattle.ug_links.proofs.Runs.{runs_then}
use Rattle.ug_links.specs.declared.waiter.Ready.{Ready}
use Rattle.ug_types.specs.Principals.{Named}
use Rattle.ug_sessions.specs.declared.session.Session.{Session}
use Rattle.ug_sessions.specs.declared.session.Turn.{Turn}
use Rattle.ug_sessions.specs.declared.session.Listener.{Listener}
use Rattle.ug_sessions.specs.States.{ServerState}
use Rattle.ug_sessions.specs.Sessions.{none_counted}
use Rattle.ug_sessions.specs.Accepting.{accepting_all}
use Rattle.ug_sessions.specs.Reading.{reading_all}
use Rattle.ug_sessions.specs.Sending.{flushing_all, stays}
use Rattle.ug_sessions.specs.Serving.{turning_listeners, flushing}

abbrev pub state : List Named → List Listener → List Session → ServerState
state p l s = record { principals = p; listeners = l; sessions = s }

module _ {S : Type 0} (gives : S → LinkStep → S → Type 0) where
  turned_plain : (ready : List Ready) (s u w : S) (v : ServerState) (l1 : List Listener) (s1 s2 : List Session) (t1 t2 : Turn)
      → Talks gives s (accepting_all ready v.listeners (v.sessions, none_counted)) (l1, (s1, t1)) u → Talks gives u (reading_all ready s1 t1) (s2, t2) w → Talks gives s (turning_listeners ready v) (state v.principals l1 s2, t2) w
  unfolding turning_listeners
  turned_plain ready s u w v l1 s1 s2 t1 t2 h k =
      runs_then gives s (accepting_all ready v.listeners (v.sessions, none_counted)) (λ (r : List Listener × (List Session × Turn)). and_then (reading_all ready r.1.0 r.1.1) (λ (q : List Session × Turn). Return (state v.principals r.0 q.0, q.1))) (l1, (s1, t1)) u (state v.principals l1 s2, t2) w h
      (runs_then gives u (reading_all ready s1 t1) (λ (q : List Session × Turn). Return (state v.principals l1 q.0, q.1)) (s2, t2) w (state v.principals l1 s2, t2) w k (refl, refl))

  pub turned : (ready : List Ready) (s u w : S) (v : ServerState) (ps : List Named) (l0 l1 : List Listener) (s0 s1 s2 : List Session) (t0 t1 t2 : Turn) → state ps l0 s0 ≡ v → t0 ≡ none_counted
      → Talks gives s (accepting_all ready l0 (s0, t0)) (l1, (s1, t1)) u → Talks gives u (reading_all ready s1 t1) (s2, t2) w → Talks gives s (turning_listeners ready v) (state ps l1 s2, t2) w
  turned ready s u w v ps l0 l1 s0 s1 s2 t0 t1 t2 e f h k =
      subst (λ (x : ServerState). Talks gives s (turning_listeners ready x) (state ps l1 s2, t2) w) e
      (turned_plain ready s u w (state ps l0 s0) l1 s1 s2 t1 t2 (subst (λ (t : Turn). Talks gives s (accepting_all ready l0 (s0, t)) (l1, (s1, t1)) u) f h) k)

  flushed_plain : (s u : S) (v : ServerState) (s1 : List Session) (t1 : Turn) → Talks gives s (flushing_all v.sessions none_counted) (s1, t1) u → Talks gives s (flushing v) (state v.principals v.listeners (filter stays s1), t1) u
  unfolding flushing
  flushed_plain s u v s1 t1 h = runs_then gives s (flushing_all v.sessions none_counted) (λ (r : List Session × Turn). Return (state v.principals v.listeners (filter stays r.0), r.1)) (s1, t1) u (state v.principals v.listeners (filter stays s1), t1) u h (refl, refl)

  pub flushed : (s u : S) (v : ServerState) (ps : List Named) (l0 : List Listener) (s0 s1 s2 : List Session) (t0 t1 : Turn) → state ps l0 s0 ≡ v → t0 ≡ none_counted → s2 ≡ filter stays s1
      → Talks gives s (flushing_all s0 t0) (s1, t1) u → Talks gives s (flushing v) (state ps l0 s2, t1) u
  flushed s u v ps l0 s0 s1 s2 t0 t1 e f k h =
      subst (λ (x : ServerState). Talks gives s (flushing x) (state ps l0 s2, t1) u) e
      (subst (λ (x : List Session). Talks gives s (flushing (state ps l0 s0)) (state ps l0 x, t1) u) (sym k)
      (flushed_plain s u (state ps l0 s0) s1 t1 (subst (λ (t : Turn). Talks gives s (flushing_all s0 t) (s1, t1) u) f h)))
