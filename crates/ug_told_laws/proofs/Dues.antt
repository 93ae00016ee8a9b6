-- Names are due in the event of a piece alone.
use Rattle.std.proofs.Common.{◌≡◌, ℕ, Bool, true, false, List, [], Option, Some, None, inl, inr, refl, sym, ◌∙◌, ap, subst}
use Rattle.ug_types.specs.Principals.{Named}
use Rattle.ug_types.specs.declared.verdict.Moment.{Moment}
use Rattle.ug_types.specs.declared.event.Event.{Event}
use Rattle.ug_types.specs.declared.event.Event.TheVariants as event
use Rattle.ug_kernel.specs.Kernel.{Kernel}
use Rattle.ug_kernel.specs.Called.{Lived}
use Rattle.ug_table.specs.Laws.{IsAsJudged}
use Rattle.ug_table.specs.declared.standing.Standing.{Standing}
use Rattle.ug_table.specs.declared.standing.Settled.{Settled}
use Rattle.ug_table.specs.State.{Kept}
use Rattle.ug_core.specs.Answering.{answered_with}
use Rattle.ug_core.specs.Event.{DaemonState}
use Rattle.ug_core.specs.Hinting.{MeetsPiece}
use Rattle.ug_core.specs.Laws.{AnswersEvent, if_watching}
use Rattle.ug_core.specs.Storing.{noted_store, with_changes}
use Rattle.ug_core.specs.Chain.{Happened, ready_of}
use Rattle.ug_core.specs.declared.changes.Change.{Change}
use Rattle.ug_core.specs.declared.storing.Stored.{Stored}
use Rattle.ug_core.specs.declared.storing.Stored.TheVariants as stored
use Rattle.ug_told_laws.specs.Told.{EventsLeaveOthers}

noted_due : (became : Stored) (d : DaemonState) → (noted_store became d).due ≡ d.due
noted_due stored.NotNeeded d = refl
noted_due stored.Done d = refl
noted_due (stored.Failed count) d = refl
noted_due stored.TooLong d = refl
noted_due stored.Memory d = refl

changes_due : (change : Option Change) (d : DaemonState) → (with_changes change d).due ≡ d.due
changes_due None d = refl
changes_due (Some change) d = refl

watching_due : (watches : Bool) (d : DaemonState) → (if_watching watches d).due ≡ d.due
watching_due true d = refl
watching_due false d = refl

answered_due : (d : DaemonState) (lines : List (List ℕ)) (how : Settled) (kept : Kept) → (answered_with d lines (how, kept)).due ≡ d.due
answered_due d lines how kept = refl

order_due : (moment : Moment) (who : Named) (line : List ℕ) (k : Kernel) (d : DaemonState) (became : Stored) (l : Kernel) (a : DaemonState) → AnswersEvent (event.Order moment who line) k d became l a → a.due ≡ d.due
order_due moment who line k d became l a (inl r) = ap (λ (x : DaemonState). x.due) r.state ∙ noted_due became d
order_due moment who line k d became l a (inr (inl t)) =
    ap (λ (x : DaemonState). x.due) t.1.state ∙ watching_due t.1.outcome.watches _ ∙ changes_due t.1.outcome.change (noted_store became d) ∙ noted_due became d
order_due moment who line k d became l a (inr (inr c)) =
    ap (λ (x : DaemonState). x.due) c.state ∙ answered_due c.changed [] c.how c.kept ∙ ap (λ (x : DaemonState). x.due) c.after_change ∙ changes_due c.change (noted_store became d) ∙ noted_due became d

-- names are due: so it was a piece's, nothing was called, and the standings are as they were
met : (ev : Event) (h : Happened) → h.event ≡ ev → AnswersEvent ev h.kernel (ready_of h) h.became h.kernel_answered h.answered
    → (names : List (List ℕ)) → h.answered.due ≡ Some names
    → (h.kernel_answered ≡ h.kernel) × (h.answered.sweep.standings ≡ h.before.sweep.standings)
met (event.Sweep moment) h is a names due =
    let bad : None ≡ Some names = sym (ap (λ (x : DaemonState). x.due) a.2) ∙ due in
    let none : ⊥ = cc in absurd none
met (event.Order moment who line) h is a names due =
    let bad : None ≡ Some names = sym (order_due moment who line h.kernel (ready_of h) h.became h.kernel_answered h.answered a) ∙ due in
    let none : ⊥ = cc in absurd none
met (event.Hint moment piece) h is a names due = (a.0, by_piece a.2)
  where
    by_piece : MeetsPiece piece (ready_of h) h.answered → h.answered.sweep.standings ≡ h.before.sweep.standings
    by_piece (inl t) = ap (λ (x : DaemonState). x.sweep.standings) t.state
    by_piece (inr e) = ap (λ (x : DaemonState). x.sweep.standings) e

pub events_leave : EventsLeaveOthers
events_leave hub h e apart names due =
    let m = met h.event h refl e.answers names due in (
      m.0,
      λ i d lived ne a.
          apart names due i d (subst (λ (k : Kernel). Lived k.devices h.kernel_after.devices i d) (sym m.0) lived) ne
          (subst (λ (k : Kernel). IsAsJudged hub k h.answered.sweep.standings i) (sym m.0)
          (subst (λ (ss : List Standing). IsAsJudged hub h.kernel ss i) (sym m.1) a)),
    )
