use Rattle.std.proofs.Common.{◌≡◌, ◌+◌, ℕ, refl, sym, ap, ◌∙◌, List, ◌++◌, ◌∷◌, [], Option, subst}
use Rattle.std.proofs.lemmas.Option.{same_Some}
use Rattle.ug_kernel.specs.Kernel.{Kernel, IsKernel}
use Rattle.ug_kernel.specs.Tree.{Runs}
use Rattle.ug_kernel.proofs.Told.{told_run}
use Rattle.ug_audit.specs.declared.entry.Entry.{Entry}
use Rattle.ug_audit.specs.declared.entry.Entry.TheVariants as entry
use Rattle.ug_audit.specs.Noted.{Noted}
use Rattle.ug_audit.specs.Journal.{noted_in}
use Rattle.ug_audit.specs.Noting.{without_drops}
use Rattle.ug_audit.proofs.Noting.{goes_on}
use Rattle.ug_core.proofs.Noted.{noted_more}
use Rattle.ug_table.specs.State.{State, state_of}
use Rattle.ug_core.specs.Due.{TellsDue}
use Rattle.ug_core.specs.Policy.{Judging, judging_of}
use Rattle.ug_core.specs.Event.{DaemonState, daemon_of, handling, settling_due}
use Rattle.ug_core.specs.Laws.{SettlesDue}
use Rattle.ug_core.specs.Values.{LogsValues}
use Rattle.ug_core.proofs.Values.{runs_values}
use Rattle.ug_core.proofs.Handled.{handled, handles_run}
use Rattle.ug_core.proofs.Failures.{event_names}
use Rattle.ug_core.proofs.daemon.Daemon.settle.Goals as goal

pub returns-clause-runs : goal.returns-clause-runs
returns-clause-runs g c =
    let d : DaemonState = daemon_of c.args.self.now in
    let es : List Entry = (noted_in c.join-journal.result).entries in
    let v : State Judging = state_of c.args.self.now.hub_default c.settle_due.new.table (judging_of g.Z.Zone.clock g.R.Rng.stream c.settle_due.new.policy) (noted_in c.settle_due.new.out).entries in
    handles_run g.Y.Sysfs.gives c.args.sysfs.now d _ v es c.settle_due.new.sysfs
    (ap (λ (x : Noted). without_drops x.entries) c.join-journal.ensures.now)
    (subst (λ (x : Option (List (List ℕ))). Runs g.Y.Sysfs.gives c.args.sysfs.now (settling_due x (record d.sweep { entries = es })) v c.settle_due.new.sysfs) c.take-due.ensures.value c.settle_due.ensures.runs)
    (λ i. record d { sweep = record v { entries = c.push.ensures.entries i }; due = c.take-due.ensures.after i; event = d.event + 1 })

pub returns-clause-law : goal.returns-clause-law
returns-clause-law g c = λ l e.
    let q = c.settle_due.ensures.law l e in
    let d : DaemonState = daemon_of c.args.self.now in
    let es : List Entry = (noted_in c.join-journal.result).entries in
    let v : State Judging = state_of c.args.self.now.hub_default c.settle_due.new.table (judging_of g.Z.Zone.clock g.R.Rng.stream c.settle_due.new.policy) (noted_in c.settle_due.new.out).entries in
    let x = told_run g.Y.Sysfs.gives g.Y.Sysfs.told g.met.Y.Sysfs.did (handling d) c.args.sysfs.now _ c.settle_due.new.sysfs l (returns-clause-runs g c) e in
    let same : x.kernel ≡ q.0 = same_Some x.kernel q.0 (sym x.was ∙ q.1) in (
      q.0,
      q.1,
      λ sound stand. handled d q.0 l v es _
          (ap (λ (x : Noted). without_drops x.entries) c.join-journal.ensures.now)
          (subst (λ (x : Option (List (List ℕ))). SettlesDue x q.0 (record d.sweep { entries = es }) l v) c.take-due.ensures.value (q.2 sound stand))
          (subst (λ (k : Kernel). LogsValues k l) same (runs_values (handling d) x.kernel _ l (x.run (subst (λ (k : Kernel). IsKernel k) (sym same) sound)).0))
          (ap (λ (xs : List Entry). record v { entries = xs }) c.push.ensures.entries)
          refl
          refl
          refl
          refl
          c.take-due.ensures.after
          refl
          refl
          refl,
    )

pub returns-clause-tells : goal.returns-clause-tells
returns-clause-tells g c =
    let d : DaemonState = daemon_of c.args.self.now in
    let es : List Entry = (noted_in c.join-journal.result).entries in
    let v : State Judging = state_of c.args.self.now.hub_default c.settle_due.new.table (judging_of g.Z.Zone.clock g.R.Rng.stream c.settle_due.new.policy) (noted_in c.settle_due.new.out).entries in
    let some : TellsDue g.Y.Sysfs.gives g.Y.Sysfs.calls g.Y.Sysfs.faults d.due c.args.sysfs.now (record d.sweep { entries = es }) c.settle_due.new.sysfs v = subst (λ (x : Option (List (List ℕ))). TellsDue g.Y.Sysfs.gives g.Y.Sysfs.calls g.Y.Sysfs.faults x c.args.sysfs.now (record d.sweep { entries = es }) c.settle_due.new.sysfs v) c.take-due.ensures.value c.settle_due.ensures.tells in
    let h : TellsDue g.Y.Sysfs.gives g.Y.Sysfs.calls g.Y.Sysfs.faults d.due c.args.sysfs.now d.sweep c.settle_due.new.sysfs v = subst (λ (xs : List Entry). TellsDue g.Y.Sysfs.gives g.Y.Sysfs.calls g.Y.Sysfs.faults d.due c.args.sysfs.now (record d.sweep { entries = xs }) c.settle_due.new.sysfs v) (ap (λ (x : Noted). without_drops x.entries) c.join-journal.ensures.now) some in
    record {
      swept = v;
      goes = h.goes;
      exact = h.exact;
      numbered = h.numbered;
      rises = h.rises;
      entries = ap (λ (xs : List Entry). record v { entries = xs }) c.push.ensures.entries;
    }

pub returns-clause-once : goal.returns-clause-once
returns-clause-once g c = λ l e.
    let q = c.settle_due.ensures.once l e in (
      q.0,
      q.1,
      λ sound stand.
          let r = q.2 sound stand in
          event_names c.args.self.now.next_event (daemon_of c.args.self.now).sweep.entries r.0 _
          c.requires.nameless
          (c.push.ensures.entries ∙ ap (λ (es : List Entry). es ++ entry.End c.args.self.now.next_event ∷ []) (r.1 ∙ ap (λ (v : Noted). without_drops v.entries ++ r.0) c.join-journal.ensures.now))
          r.2,
    )

pub returns-clause-noted : goal.returns-clause-noted
returns-clause-noted g c =
    let all = goes_on _ _ _ _ c.settle_due.ensures.same c.push.ensures.same in
    let name = sym (all.panel ∙ c.join-journal.ensures.same_panel) in
    noted_more _ _ _ _ _ _ _ all c.join-journal.ensures.panel (c.panel-1.given.1 name) (ap (λ (v : Noted). v.entries) c.join-journal.ensures.now) refl
