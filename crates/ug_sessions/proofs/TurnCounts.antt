-- What a whole turn counts.
use Rattle.std.proofs.Common.{◌≡◌, ℕ, ◌<◌, Bool, true, false, nat_lt, length, List, [], ◌++◌, refl, sym, ap, ◌∙◌, inl, inr, arith}
use Rattle.std.proofs.lemmas.List.{append-nil}
use Rattle.std.proofs.lemmas.Bool.Decides.{nat_tests}
use Rattle.ug_links.specs.declared.waiter.Ready.{Ready}
use Rattle.ug_links.specs.declared.step.LinkStep.{LinkStep}
use Rattle.ug_links.specs.Talk.{Return, Path, and_then}
use Rattle.ug_links.proofs.Paths.{path_split}
use Rattle.ug_sessions.specs.declared.session.Session.{Session}
use Rattle.ug_sessions.specs.declared.session.Listener.{Listener}
use Rattle.ug_sessions.specs.declared.session.Turn.{Turn}
use Rattle.ug_sessions.specs.Accepting.{accepting_all}
use Rattle.ug_sessions.specs.Arriving.{AreArrivals, CountsArrivals, CountsTurn}
use Rattle.ug_sessions.specs.Counting.{counted_over}
use Rattle.ug_sessions.specs.Reading.{reading_all}
use Rattle.ug_sessions.specs.Serving.{turning, turning_by, turning_room, turning_listeners}
use Rattle.ug_sessions.specs.Sessions.{none_counted}
use Rattle.ug_sessions.specs.States.{ServerState, listeners_from}
use Rattle.ug_sessions.specs.Tried.{AllRead, IsOneRead}
use Rattle.ug_sessions.proofs.Served.{state}
use Rattle.ug_sessions.proofs.Arrivals.{accepts_counted}
use Rattle.ug_sessions.proofs.Counts.{reading_counts}
use Rattle.ug_sessions.proofs.Tried.{walk_steps}

pub accepting_counts : (ready : List Ready) (ls : List Listener) (ss : List Session) (steps : List LinkStep) (r : List Listener × (List Session × Turn)) → Path (accepting_all ready ls (ss, none_counted)) steps r → AreArrivals ss steps r.1.0 r.1.1
unfolding accepting_all
accepting_counts ready ls ss steps r h = accepts_counted ready ls ss steps r h

read_counts : (ready : List Ready) (ss : List Session) (t : Turn) (steps : List LinkStep) (r : List Session × Turn) → Path (reading_all ready ss t) steps r → r.1 ≡ counted_over ss r.0 t
unfolding reading_all
read_counts ready ss t steps r h = reading_counts ready ss t steps r h

read_steps : (ready : List Ready) (ss : List Session) (t : Turn) (steps : List LinkStep) (r : List Session × Turn) → Path (reading_all ready ss t) steps r → AllRead (IsOneRead ready ss) steps
unfolding reading_all
read_steps ready ss t steps r h = walk_steps ready [] ss t steps r h

listeners_count : (ready : List Ready) (v : ServerState) (steps : List LinkStep) (r : ServerState × Turn) → Path (turning_listeners ready v) steps r → CountsArrivals ready v steps r.0 r.1
unfolding turning_listeners
listeners_count ready v steps r h =
    let p = path_split (accepting_all ready v.listeners (v.sessions, none_counted)) (λ (q : List Listener × (List Session × Turn)). and_then (reading_all ready q.1.0 q.1.1) (λ (w : List Session × Turn). Return (state v.principals q.0 w.0, w.1))) steps r h in
    let q = path_split (reading_all ready p.value.1.0 p.value.1.1) (λ (w : List Session × Turn). Return (state v.principals p.value.0 w.0, w.1)) p.rest r p.second in
    let whole : p.rest ≡ q.front = q.whole ∙ ap (λ (l : List LinkStep). q.front ++ l) q.second.1 ∙ append-nil q.front in
    record {
      accepts = p.front;
      reads = q.front;
      calls = p.whole ∙ ap (λ (l : List LinkStep). p.front ++ l) whole;
      sessions = p.value.1.0;
      arrived = p.value.1.1;
      arrivals = accepting_counts ready v.listeners v.sessions p.front p.value p.first;
      only_read = read_steps ready p.value.1.0 p.value.1.1 q.front q.value q.first;
      closings = ap (λ (w : ServerState × Turn). w.1) q.second.0 ∙ read_counts ready p.value.1.0 p.value.1.1 q.front q.value q.first ∙ ap (λ (l : List Session). counted_over p.value.1.0 l p.value.1.1) (sym (ap (λ (w : ServerState × Turn). w.0.sessions) q.second.0));
    }

-- what was counted from the listeners that were just made is what is counted from the state before
made_count : (ready : List Ready) (v : ServerState) (ls : List Listener) (steps : List LinkStep) (u : ServerState) (t : Turn) → CountsArrivals ready (record v { listeners = ls }) steps u t → CountsArrivals ready v steps u t
made_count ready v ls steps u t h = record { accepts = h.accepts; reads = h.reads; calls = h.calls; sessions = h.sessions; arrived = h.arrived; arrivals = h.arrivals; only_read = h.only_read; closings = h.closings }

fewer : (m n : ℕ) → nat_lt m n ≡ true → m < n
fewer m n e = grind (arith, nat_tests)

room_count : (b : Bool) (ready : List Ready) (v : ServerState) (steps : List LinkStep) (r : ServerState × Turn) → length v.listeners < length v.principals → Path (turning_room ready v b) steps r → CountsTurn ready v steps r.0 r.1
room_count true ready v steps r lt h = inl (made_count ready v (listeners_from 0 v.principals) steps r.0 r.1 (listeners_count ready (record v { listeners = listeners_from 0 v.principals }) steps r h))
room_count false ready v steps r lt h = inr (record { listeners = lt; calls = h.1; same = ap (λ (w : ServerState × Turn). w.0) h.0; counted = ap (λ (w : ServerState × Turn). w.1) h.0 })

by_count : (b : Bool) (ready : List Ready) (v : ServerState) (steps : List LinkStep) (r : ServerState × Turn) → nat_lt (length v.listeners) (length v.principals) ≡ b → Path (turning_by b ready v) steps r → CountsTurn ready v steps r.0 r.1
by_count true ready v steps r e h = room_count h.0 ready v steps r (fewer (length v.listeners) (length v.principals) e) h.1
by_count false ready v steps r e h = inl (listeners_count ready v steps r h)

pub turn_counts : (ready : List Ready) (v : ServerState) (steps : List LinkStep) (r : ServerState × Turn) → Path (turning ready v) steps r → CountsTurn ready v steps r.0 r.1
unfolding turning
turn_counts ready v steps r h = by_count (nat_lt (length v.listeners) (length v.principals)) ready v steps r refl h
