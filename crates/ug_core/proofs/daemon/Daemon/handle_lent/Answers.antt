use Rattle.std.proofs.Common.{◌≡◌, ℕ, [], sym, ap, subst, ◌∙◌, Option}
use Rattle.std.specs.Prelude.{IfSome}
use Rattle.ug_proto.specs.declared.reply.Reply.{Reply}
use Rattle.ug_core.specs.Answering.{HasWholeLines}
use Rattle.ug_store.specs.Store.{RunsDisk}
use Rattle.ug_table.specs.Order.{StandInOrder}
use Rattle.ug_core.specs.Laws.{RunsAnswer}
use Rattle.ug_core.specs.Event.{DaemonState, daemon_of, tried_with, ready, trying}
use Rattle.ug_audit.proofs.Noting.{live_members}
use Rattle.ug_audit.proofs.Texts.{all_entries}
use Rattle.ug_core.proofs.Answered.{answering_made, answering_told, ready_failures, ready_names}
use Rattle.ug_core.proofs.Bindings.{binds_judged}
use Rattle.ug_core.proofs.Failures.{event_tells}
use Rattle.ug_core.proofs.Kept.{file_kept}
use Rattle.ug_core.proofs.Noted.{all_noted}
use Rattle.ug_core.proofs.Plain.{event_keeps_pending, event_keeps_rules}
use Rattle.ug_core.proofs.Tried.{tries_save}
use Rattle.ug_core.proofs.Written.{ready_writes}
use Rattle.ug_core.specs.Durable.{WritesEvent}
use Rattle.ug_core.specs.Lent.{event_lent}
use Rattle.ug_types.specs.declared.event.Event.{Event}
use Rattle.ug_core.proofs.daemon.Daemon.handle_lent.Goals as goal

pub settle-requires-clause-nameless : goal.settle-requires-clause-nameless
settle-requires-clause-nameless g c =
    let event : Event = event_lent c.args.event.now in
    let d : DaemonState = daemon_of c.args.self.now in
    let tried = c.save_pending-tried.result in
    let is : daemon_of c.save_pending-tried.new.self ≡ ready event tried d = c.save_pending-tried.ensures.daemon ∙ ap (λ (x : DaemonState). tried_with tried x) c.begin.ensures.daemon in
    let began = g.met.Y.Sysfs.began c.args.sysfs.now c.begin-2.new.self c.begin-2.ensures in
    let a : DaemonState = daemon_of c.answer-stored.new.self in
    let answers = subst (λ (x : DaemonState). RunsAnswer g.Y.Sysfs.gives g.D.RuleDisk.keeps event c.begin-2.new.self c.save_pending-tried.new.disk x c.answer-stored.result c.answer-stored.new.sysfs c.answer-stored.new.disk a) is c.answer-stored.ensures.runs in
    (answering_made g.Y.Sysfs.gives g.Y.Sysfs.calls g.Y.Sysfs.faults g.met.Y.Sysfs.counted g.D.RuleDisk.keeps event c.begin-2.new.self c.save_pending-tried.new.disk (ready event tried d) c.answer-stored.result c.answer-stored.new.sysfs c.answer-stored.new.disk a began.1 (subst (λ (n : ℕ). StandInOrder n c.args.self.now.table.standings) c.next_number-next.ensures.next c.next_number-next.ensures.standings) (ready_failures event tried d) (ready_names event tried d) answers).nameless

pub returns-clause-handles : goal.returns-clause-handles
unfolding trying
returns-clause-handles g c =
    let event : Event = event_lent c.args.event.now in
    let d : DaemonState = daemon_of c.args.self.now in
    let tried = c.save_pending-tried.result in
    let became = c.answer-stored.result in
    let is : daemon_of c.save_pending-tried.new.self ≡ ready event tried d = c.save_pending-tried.ensures.daemon ∙ ap (λ (x : DaemonState). tried_with tried x) c.begin.ensures.daemon in
    let a : DaemonState = daemon_of c.answer-stored.new.self in
    let e : DaemonState = daemon_of c.settle.new.self in
    let s = c.args.sysfs.now in
    let start = c.begin-2.new.self in
    let middle = c.answer-stored.new.sysfs in
    let t = c.settle.new.sysfs in
    let o = c.args.disk.now in
    let q = c.save_pending-tried.new.disk in
    let p = c.answer-stored.new.disk in
    let began = g.met.Y.Sysfs.began s start c.begin-2.ensures in
    let tries : RunsDisk g.D.RuleDisk.keeps o (trying d) tried q = subst (λ (x : DaemonState). RunsDisk g.D.RuleDisk.keeps o (trying x) tried q) c.begin.ensures.daemon c.save_pending-tried.ensures.runs in
    let answers : RunsAnswer g.Y.Sysfs.gives g.D.RuleDisk.keeps event start q (ready event tried d) became middle p a = subst (λ (x : DaemonState). RunsAnswer g.Y.Sysfs.gives g.D.RuleDisk.keeps event start q x became middle p a) is c.answer-stored.ensures.runs in
    let made = answering_made g.Y.Sysfs.gives g.Y.Sysfs.calls g.Y.Sysfs.faults g.met.Y.Sysfs.counted g.D.RuleDisk.keeps event start q (ready event tried d) became middle p a began.1 (subst (λ (n : ℕ). StandInOrder n c.args.self.now.table.standings) c.next_number-next.ensures.next c.next_number-next.ensures.standings) (ready_failures event tried d) (ready_names event tried d) answers in
    let law = answering_told g.Y.Sysfs.gives g.Y.Sysfs.told g.met.Y.Sysfs.did g.D.RuleDisk.keeps event start q (ready event tried d) became middle p a answers in
    let tells = event_tells g.Y.Sysfs.gives g.Y.Sysfs.calls g.Y.Sysfs.faults g.met.Y.Sysfs.counted event start (ready event tried d) became middle a t e made.made began.1 made.along made.goes made.told c.settle.ensures.tells in
    record {
      tried = tried;
      disk_tried = q;
      tries = tries;
      counted = c.save_pending-tried.ensures.counted;
      start = start;
      begun_there = c.begin-2.ensures;
      became = became;
      middle = middle;
      answered = a;
      answers = answers;
      answers_law = λ l told. let x = law l told in (x.0, sym began.0 ∙ x.1, x.2);
      written = ready_writes event tried d became (subst (λ (x : DaemonState). WritesEvent event x became) is c.answer-stored.ensures.written);
      saveable = c.stay_saveable.ensures.saves;
      saveable_after = c.stay_saveable-2.ensures.saves;
      counted_store = c.answer-stored.ensures.counted;
      runs = c.settle.ensures.runs;
      law = c.settle.ensures.law;
      faults_told = tells;
      once = c.settle.ensures.once;
      binds = binds_judged g.Y.Sysfs g.met.Y.Sysfs.did made.made start middle a t e made.along c.settle.ensures.runs;
      file = file_kept g.Y.Sysfs.gives g.D.RuleDisk.keeps g.D.RuleDisk.told g.met.D.RuleDisk.did event start o d tried q became middle p a t e tries answers tells (event_keeps_rules g.Y.Sysfs.gives middle a e t c.settle.ensures.runs);
      saves = tries_save g.Y.Sysfs.gives g.Y.Sysfs.calls g.Y.Sysfs.faults g.D.RuleDisk.keeps event o d tried q start became made.made middle p a middle t e c.settle.ensures.tells.swept tries answers made.goes c.settle.ensures.tells.goes c.settle.ensures.tells.entries (event_keeps_pending g.Y.Sysfs.gives middle a e t c.settle.ensures.runs);
    }

pub returns-clause-whole : goal.returns-clause-whole
returns-clause-whole g c = subst (λ (r : Option Reply). IfSome r (λ (x : Reply). HasWholeLines x)) (sym c.settle.ensures.reply) c.answer-stored.ensures.whole

pub returns-clause-noted : goal.returns-clause-noted
returns-clause-noted g c =
    all_noted _ _ _ _ _ (all_noted _ _ _ _ _ (all_noted _ _ _ _ _ c.begin.ensures.noted c.save_pending-tried.ensures.notes.noted) c.answer-stored.ensures.noted) c.settle.ensures.noted

pub returns-clause-alone : goal.returns-clause-alone
returns-clause-alone g c none =
    all_entries _ _ [] _ (live_members _ _ _ _ ∙ none)
    (all_noted _ _ _ _ _ (all_noted _ _ _ _ _ (all_noted _ _ _ _ _ c.begin.ensures.noted c.save_pending-tried.ensures.notes.noted) c.answer-stored.ensures.noted) c.settle.ensures.noted)
