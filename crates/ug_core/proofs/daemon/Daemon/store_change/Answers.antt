use Rattle.std.proofs.Common.{rules, ◌≡◌, Option, Some, None, sym, ap, subst, ◌∙◌, arith}
use Rattle.ug_types.specs.declared.refusal.Refusal.{Refusal}
use Rattle.ug_core.specs.Changes.{CanChange, ChangeReads, ChangeSaves, HasRoom}
use Rattle.ug_core.specs.Event.{DaemonState, daemon_of}
use Rattle.ug_core.specs.Policy.{Judging, judging_of}
use Rattle.ug_core.specs.Storing.{if_in_force, noted_save, noted_store, refused_by, with_change}
use Rattle.ug_core.proofs.Noted.{notes_none, notes_then}
use Rattle.ug_core.proofs.daemon.Daemon.store_change.Goals as goal

pub put_in_force-requires : goal.put_in_force-requires
put_in_force-requires g c =
    let change = c.args.change in
    let saves = c.save_change-stored.ensures in
    let policy = c.note_stored.ensures.policy in
    let refused : refused_by c.save_change-stored.result ≡ None = sym c.refusal.ensures ∙ c.in-None.is in
    let judge = ap (λ (p : _). judging_of g.Z.Zone.clock g.R.Rng.stream p) policy ∙ ap (λ (x : DaemonState). x.sweep.judge) saves.daemon in
    record {
      can = subst (λ (p : Judging). CanChange change p.rules) (sym judge) c.requires.can;
      reads = subst (λ (p : Judging). ChangeReads change p.rules) (sym judge) c.requires.reads;
      room = subst (λ (p : _). HasRoom change p.rules.spare) (sym policy) (saves.room refused);
      saves = subst (λ (p : Judging). ChangeSaves change p) (sym judge) (saves.saves refused);
      id = omega (arith, c.requires.id, ap (λ (p : Judging). p.next) judge);
      spare = search rules;
    }

pub returns-in-Some-clause-daemon : goal.returns-in-Some-clause-daemon
returns-in-Some-clause-daemon g c =
    let became = c.save_change-stored.result in
    let refused : refused_by became ≡ Some c.in-Some.field-0 = sym c.refusal.ensures ∙ c.in-Some.is in
    c.note_stored.ensures.daemon
    ∙ ap (noted_save became) c.save_change-stored.ensures.daemon
    ∙ ap (λ (o : Option Refusal). if_in_force o (Some c.args.change) (noted_store became (daemon_of c.args.self.now))) (sym refused)

pub returns-in-None-clause-daemon : goal.returns-in-None-clause-daemon
returns-in-None-clause-daemon g c =
    let became = c.save_change-stored.result in
    let refused : refused_by became ≡ None = sym c.refusal.ensures ∙ c.in-None.is in
    c.put_in_force.ensures.daemon
    ∙ ap (with_change c.args.change) (c.note_stored.ensures.daemon ∙ ap (noted_save became) c.save_change-stored.ensures.daemon)
    ∙ ap (λ (o : Option Refusal). if_in_force o (Some c.args.change) (noted_store became (daemon_of c.args.self.now))) (sym refused)

pub returns-in-None-clause-notes : goal.returns-in-None-clause-notes
returns-in-None-clause-notes g c =
    let saves = c.save_change-stored.ensures in
    notes_then (notes_none {most = 0} saves.report saves.daemon)
    (notes_then c.note_stored.ensures.notes c.put_in_force.ensures.notes)
