-- Who may do what stays over an event.
use Rattle.std.proofs.Common.{◌≡◌, ℕ, List, Option, Some, None, inl, inr, ◌∙◌, ap}
use Rattle.ug_types.specs.Principals.{Named}
use Rattle.ug_types.specs.declared.refusal.Refusal.{Refusal}
use Rattle.ug_kernel.specs.Calls.{Call, Answer}
use Rattle.ug_kernel.specs.Tree.{Prog, Return, Ask, Room, Runs, then}
use Rattle.ug_kernel.specs.declared.sysfs.Sysfs
use Rattle.ug_store.specs.declared.disk.RuleDisk
use Rattle.ug_store.specs.DiskCalls.{DiskCall, DiskTold}
use Rattle.ug_table.specs.State.{Kept, kept_of}
use Rattle.ug_table.specs.Orders.{ordering}
use Rattle.ug_table.specs.declared.standing.Settled.{Settled}
use Rattle.ug_core.specs.Answering.{acting, answered_with, deed_after}
use Rattle.ug_core.specs.Event.{DaemonState, ended, handling, ready, settling_due}
use Rattle.ug_core.specs.Hinting.{MeetsPiece}
use Rattle.ug_core.specs.Laws.{HandlesEvent, RunsAnswer}
use Rattle.ug_core.specs.Storing.{if_in_force, noted_save, noted_store, pending_stored, refused_by, stored_with, with_changes}
use Rattle.ug_core.specs.declared.changes.Change.{Change}
use Rattle.ug_core.specs.declared.choosing.Deed.{Deed}
use Rattle.ug_core.specs.declared.choosing.Deed.TheVariants as deed
use Rattle.ug_types.specs.declared.event.Event.{Event}
use Rattle.ug_types.specs.declared.event.Event.TheVariants.{Sweep, Order, Hint}
use Rattle.ug_core.specs.declared.storing.Stored.{Stored}
use Rattle.ug_core.specs.declared.storing.Stored.TheVariants as stored

-- what holds behind each second tree holds behind both
run_behind : {S A B : Type 0} (gives : S → (call : Call) → Answer call → S → Type 0) (q : B → Type 0) (p : Prog A) (f : A → Prog B) (s : S) (r : B) (t : S) → ((a : A) (u : S) → Runs gives u (f a) r t → q r) → Runs gives s (then p f) r t → q r
run_behind gives q (Return value) f s r t g h = g value s h
run_behind gives q (Ask call next) f s r t g h = run_behind gives q (next h.0) f h.1 r t g h.3
run_behind gives q (Room next) f s r t g h = run_behind gives q (next h.0) f s r t g h.1

module _ {S : Type 0} (gives : S → (call : Call) → Answer call → S → Type 0) where
  swept_access : (s : S) (d e : DaemonState) (t : S) → Runs gives s (handling d) e t → e.access ≡ d.access
  unfolding handling
  swept_access s d e t h = run_behind gives (λ (x : DaemonState). x.access ≡ d.access) (settling_due d.due d.sweep) (ended d) s e t (λ v u k. ap (λ (x : DaemonState). x.access) k.0) h

  acted_access : (who : Named) (doing : Deed) (d a : DaemonState) (s t : S) → Runs gives s (acting who d doing) a t → a.access ≡ d.access
  acted_access who (deed.Refuse refused) d a s t h = ap (λ (x : DaemonState). x.access) h.0
  acted_access who (deed.Tell rows) d a s t h = ap (λ (x : DaemonState). x.access) h.0
  acted_access who deed.Watch d a s t h = ap (λ (x : DaemonState). x.access) h.0
  acted_access who (deed.SetVerdict number verdict on lines) d a s t h =
      run_behind gives (λ (x : DaemonState). x.access ≡ d.access) (ordering number verdict who on (kept_of d.sweep.standings d.sweep.entries)) (λ (p : Settled × Kept). Return (answered_with d lines p)) s a t (λ p u k. ap (λ (x : DaemonState). x.access) k.0) h

saved_access : (became : Stored) (d : DaemonState) → (noted_save became d).access ≡ d.access
saved_access stored.Done d = λ i. d.access
saved_access (stored.Failed count) d = λ i. d.access
saved_access stored.NotNeeded d = λ i. d.access
saved_access stored.TooLong d = λ i. d.access
saved_access stored.Memory d = λ i. d.access

changed_access : (change : Option Change) (d : DaemonState) → (with_changes change d).access ≡ d.access
changed_access None d = λ i. d.access
changed_access (Some change) d = λ i. d.access

in_force_access : (refused : Option Refusal) (change : Option Change) (d : DaemonState) → (if_in_force refused change d).access ≡ d.access
in_force_access (Some refused) change d = λ i. d.access
in_force_access None change d = changed_access change d

stored_access : (became : Stored) (change : Option Change) (d : DaemonState) → (stored_with became change d).access ≡ d.access
stored_access became change d = in_force_access (refused_by became) change (noted_store became d) ∙ saved_access became (record d { pending = pending_stored became d.pending })

met_access : (piece : List ℕ) (d a : DaemonState) → MeetsPiece piece d a → a.access ≡ d.access
met_access piece d a (inl h) = ap (λ (x : DaemonState). x.access) h.state
met_access piece d a (inr h) = ap (λ (x : DaemonState). x.access) h

module _ {S T : Type 0} (gives : S → (call : Call) → Answer call → S → Type 0) (keeps : T → (call : DiskCall) → DiskTold call → T → Type 0) where
  answered_access : (event : Event) (s : S) (o : T) (d : DaemonState) (became : Stored) (t : S) (p : T) (a : DaemonState) → RunsAnswer gives keeps event s o d became t p a → a.access ≡ d.access
  answered_access (Sweep moment) s o d became t p a h = ap (λ (x : DaemonState). x.access) h.3
  answered_access (Hint moment piece) s o d became t p a h = met_access piece d a h.3
  answered_access (Order moment who line) s o d became t p a h =
      acted_access gives who (deed_after became h.choice.deed) (stored_with became h.choice.change d) a h.behind t h.acts ∙ stored_access became h.choice.change d

pub event_access : {S T : Type 0} (sysfs : Sysfs.Ghosts S) (disk : RuleDisk.Ghosts T) (event : Event) (s : S) (o : T) (d : DaemonState) (t : S) (p : T) (e : DaemonState) → HandlesEvent sysfs disk event s o d t p e → e.access ≡ d.access
event_access sysfs disk event s o d t p e h =
    swept_access sysfs.gives h.middle h.answered e t h.runs
    ∙ answered_access sysfs.gives disk.keeps event h.start h.disk_tried (ready event h.tried d) h.became h.middle p h.answered h.answers
