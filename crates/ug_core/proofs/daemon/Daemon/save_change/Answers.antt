use Rattle.std.proofs.Common.{Some, sym, ap, subst, ◌∙◌}
use Rattle.ug_core.specs.Changes.{ChangeSaves, text_to_save}
use Rattle.ug_core.specs.Event.{daemon_of}
use Rattle.ug_core.specs.Policy.{Judging}
use Rattle.ug_core.proofs.Saves.{kept_memory, kept_none, kept_saved}
use Rattle.ug_core.proofs.daemon.Daemon.save_change.Goals as goal

pub returns-in-Err-clause-runs : goal.returns-in-Err-clause-runs
returns-in-Err-clause-runs g c = kept_memory g.D.RuleDisk.keeps c.args.disk.now (daemon_of c.args.self.now).sweep.judge c.args.change.now

pub returns-in-Ok-None-clause-runs : goal.returns-in-Ok-None-clause-runs
returns-in-Ok-None-clause-runs g c = kept_none g.D.RuleDisk.keeps c.args.disk.now (daemon_of c.args.self.now).sweep.judge c.args.change.now
    (sym c.in-Ok-None.field-0-is ∙ c.in-Ok-None.ensures.text ∙ ap (λ (p : Judging). text_to_save c.args.change.now p) c.reserve_for.ensures.same)

pub returns-in-Ok-Some-clause-runs : goal.returns-in-Ok-Some-clause-runs
returns-in-Ok-Some-clause-runs g c =
    let same = c.reserve_for.ensures.same in
    kept_saved g.D.RuleDisk.keeps c.args.disk.now c.save-saved.new.disk (daemon_of c.args.self.now).sweep.judge c.args.change.now c.bytes.result.now c.save-saved.result c.of.result
    (ap Some c.bytes.ensures ∙ sym c.in-Ok-Some.field-0-is ∙ c.in-Ok-Some.ensures.text ∙ ap (λ (p : Judging). text_to_save c.args.change.now p) same)
    (subst (λ (p : Judging). ChangeSaves c.args.change.now p) same c.in-Ok-Some.ensures.saves)
    c.of.ensures c.save-saved.ensures.runs

pub returns-in-Err-Memory-clause-runs : goal.returns-in-Err-Memory-clause-runs
returns-in-Err-Memory-clause-runs g c = kept_memory g.D.RuleDisk.keeps c.args.disk.now (daemon_of c.args.self.now).sweep.judge c.args.change.now
