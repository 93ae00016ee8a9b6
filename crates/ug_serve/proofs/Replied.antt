-- Each order leaves a reply.
use Rattle.ug_kernel.specs.declared.sysfs.Sysfs
use Rattle.ug_store.specs.declared.disk.RuleDisk
use Rattle.std.proofs.Common.{◌≡◌, ℕ, Bool, List, Option, IsSome, is_some, refl, sym, ap, ◌∙◌, subst}
use Rattle.ug_types.specs.Principals.{Named}
use Rattle.ug_types.specs.declared.verdict.Moment.{Moment}
use Rattle.ug_kernel.specs.Calls.{Call, Answer}
use Rattle.ug_kernel.specs.Tree.{Prog, Return, Ask, Room, Runs, then}
use Rattle.ug_proto.specs.declared.reply.Reply.{Reply}
use Rattle.ug_table.specs.Orders.{ordering}
use Rattle.ug_table.specs.State.{kept_of}
use Rattle.ug_core.specs.Answering.{acting, answered_with, deed_after}
use Rattle.ug_core.specs.Event.{DaemonState, ended, handling, ready, settling_due}
use Rattle.ug_core.specs.Laws.{HandlesEvent}
use Rattle.ug_core.specs.Storing.{stored_with}
use Rattle.ug_core.specs.declared.choosing.Deed.{Deed}
use Rattle.ug_core.specs.declared.choosing.Deed.TheVariants as deed
use Rattle.ug_types.specs.declared.event.Event.{Event}
use Rattle.ug_types.specs.declared.event.Event.TheVariants.{Order}
use Rattle.ug_serve.specs.Turns.{Core, IsHandled, TurnEvent}

-- however the calls are answered, the end is so
abbrev Ends : {R : Type 0} → (R → Type 0) → Prog R → Type 0
Ends P (Return value) = P value
Ends P (Ask call next) = (a : Answer call) → Ends P (next a)
Ends P (Room next) = (b : Bool) → Ends P (next b)

ends_then : {R Q : Type 0} (P : Q → Type 0) (p : Prog R) (f : R → Prog Q) → ((a : R) → Ends P (f a)) → Ends P (then p f)
ends_then P (Return value) f h = h value
ends_then P (Ask call next) f h = λ a. ends_then P (next a) f h
ends_then P (Room next) f h = λ b. ends_then P (next b) f h

run_ends : {S R : Type 0} (gives : S → (call : Call) → Answer call → S → Type 0) (P : R → Type 0) (s : S) (p : Prog R) (r : R) (t : S) → Runs gives s p r t → Ends P p → P r
run_ends gives P s (Return value) r t h e = subst P (sym h.0) e
run_ends gives P s (Ask call next) r t h e = run_ends gives P h.1 (next h.0) r t h.3 (e h.0)
run_ends gives P s (Room next) r t h e = run_ends gives P s (next h.0) r t h.1 (e h.0)

abbrev Replies : DaemonState → Type 0
Replies d = IsSome d.reply

act_replies : (who : Named) (d : DaemonState) (done : Deed) → Ends Replies (acting who d done)
act_replies who d (deed.Refuse refused) = refl
act_replies who d (deed.Tell rows) = refl
act_replies who d deed.Watch = refl
act_replies who d (deed.SetVerdict number verdict on lines) = ends_then Replies (ordering number verdict who on (kept_of d.sweep.standings d.sweep.entries)) (λ p. Return (answered_with d lines p)) (λ p. refl)

abbrev SameReply : DaemonState → DaemonState → Type 0
SameReply d e = e.reply ≡ d.reply

sweep_keeps : (d : DaemonState) → Ends (SameReply d) (handling d)
unfolding handling
sweep_keeps d = ends_then (SameReply d) (settling_due d.due d.sweep) (ended d) (λ v. refl)

module _ {Y D : Type 0} (sysfs : Sysfs.Ghosts Y) (disk : RuleDisk.Ghosts D) where
  open sysfs use {gives}

  event_replies : (moment : Moment) (who : Named) (line : List ℕ) (y : Y) (o : D) (d : DaemonState) (z : Y) (p : D) (e : DaemonState) → HandlesEvent sysfs disk (Order moment who line) y o d z p e → IsSome e.reply
  event_replies moment who line y o d z p e h =
      let now : DaemonState = stored_with h.became h.answers.choice.change (ready (Order moment who line) h.tried d) in
      let done : Deed = deed_after h.became h.answers.choice.deed in
      let replied : Replies h.answered = run_ends gives Replies h.answers.behind (acting who now done) h.answered h.middle h.answers.acts (act_replies who now done) in
      let same : e.reply ≡ h.answered.reply = run_ends gives (SameReply h.answered) h.middle (handling h.answered) e z h.runs (sweep_keeps h.answered) in
      ap (λ (x : Option Reply). is_some x) same ∙ replied

  pub order_leaves : (moment : Moment) (who : Named) (line : List ℕ) (c : Core Y D) (e : TurnEvent) (d : Core Y D) → e.event ≡ Order moment who line → IsHandled sysfs disk c e d → IsSome e.after.reply
  order_leaves moment who line c e d is h =
      let handled = subst (λ (x : Event). HandlesEvent sysfs disk x c.sysfs c.disk c.daemon d.sysfs d.disk d.daemon) is h.handled in
      subst (λ (x : DaemonState). IsSome x.reply) h.after (event_replies moment who line c.sysfs c.disk c.daemon d.sysfs d.disk d.daemon handled)
