use Rattle.ug_audit.specs.Journal.{members}
use Rattle.ug_core.specs.Event.{daemon_of}
use Rattle.ug_serve.specs.Opening.{started, words_of_seed}
use Rattle.ug_serve.specs.Serving.{objects}
use Rattle.ug_serve.proofs.Served.{not_four, not_nine, runs_refused, runs_served}
use Rattle.ug_serve.proofs.daemon.serve.Goals as goal

pub returns-in-Err-clause-runs : goal.returns-in-Err-clause-runs
returns-in-Err-clause-runs g c =
    let starts = c.in-Err.ensures.starts in
    runs_refused g.F.ConfFiles.gives g.Y.Sysfs g.D.RuleDisk g.N.Links g.W.Waiter g.C.Clock
    c.args.turns (g.Z.Zone.clock c.args.zone) (words_of_seed c.args.seed) c.args.files.now (objects c.args.sysfs.now c.args.disk.now c.args.links.now c.args.waiter.now c.args.clock.now (members (λ b. goal.Auditor-dyn g (b.vtable, b.value)) c.args.panel.now)) c.args.path.now
    starts.0 c.in-Err.why c.start.new.files c.start.new.disk (members (λ b. goal.Auditor-dyn g (b.vtable, b.value)) c.start.new.panel) (members (λ b. goal.Auditor-dyn g (b.vtable, b.value)) c.note_refusal.new.panel) c.status-status.result starts.1 starts.2 c.note_refusal.ensures c.status-status.ensures

pub returns-in-Ok-clause-runs : goal.returns-in-Ok-clause-runs
returns-in-Ok-clause-runs g c =
    let starts = c.in-Ok.ensures.starts in
    let served = c.serve_started.ensures.serves in
    runs_served g.F.ConfFiles.gives g.Y.Sysfs g.D.RuleDisk g.N.Links g.W.Waiter g.C.Clock
    c.args.turns (g.Z.Zone.clock c.args.zone) (words_of_seed c.args.seed) c.args.files.now (objects c.args.sysfs.now c.args.disk.now c.args.links.now c.args.waiter.now c.args.clock.now (members (λ b. goal.Auditor-dyn g (b.vtable, b.value)) c.args.panel.now)) c.args.path.now
    starts.0 (started c.in-Ok.first.principals (daemon_of c.in-Ok.first.daemon)) c.start.new.files c.start.new.disk (members (λ b. goal.Auditor-dyn g (b.vtable, b.value)) c.start.new.panel) served.0 served.1 c.serve_started.result
    (objects c.serve_started.new.sysfs c.serve_started.new.disk c.serve_started.new.links c.serve_started.new.waiter c.serve_started.new.clock (members (λ b. goal.Auditor-dyn g (b.vtable, b.value)) c.serve_started.new.panel)) starts.1 starts.2 served.2

pub returns-in-Ok-clause-files_failed : goal.returns-in-Ok-clause-files_failed
returns-in-Ok-clause-files_failed g c = λ e. absurd (not_four c.serve_started.result c.serve_started.ensures.statuses e)

pub returns-in-Ok-clause-disk_failed : goal.returns-in-Ok-clause-disk_failed
returns-in-Ok-clause-disk_failed g c = λ e. absurd (not_nine c.serve_started.result c.serve_started.ensures.statuses e)
