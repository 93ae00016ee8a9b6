use Rattle.std.proofs.Common.{subst}
use Rattle.ug_core.specs.Durable.{WritesEvent}
use Rattle.ug_core.specs.Event.{DaemonState, daemon_of}
use Rattle.ug_types.specs.declared.event.Event as daemon
use Rattle.ug_core.specs.declared.storing.Stored.{Stored}
use Rattle.ug_ruleset.specs.RuleFile.{IsSaveable}
use Rattle.ug_store.specs.Scripted.{DiskWorld, MemKeeps}
use Rattle.ug_sysfs.specs.World.{Gives, World}
use Rattle.ug_script.specs.Replay.{Played}
use Rattle.ug_script.proofs.EventSteps.{event_became, event_fixed, event_played}
use Rattle.ug_script.proofs.Filed.{event_files}
use Rattle.ug_script.proofs.FolderKept.{keeps_folder}
use Rattle.ug_script.proofs.events.handle.Goals as goal

pub returns-clause-played : goal.returns-clause-played
returns-clause-played c =
    let h = c.handle_between.ensures.passes in
    event_played c.args.event.now (daemon_of c.args.session.now.daemon) c.args.kernel.now h.started c.args.session.now.disk h.tried h.disk_tried h.tries h.became h.middle c.handle_between.new.disk h.answered h.answers h.resumed h.passes_on (daemon_of c.handle_between.new.self) c.handle_between.new.sysfs h.runs h.start h.begun_there h.passes

pub returns-clause-readable : goal.returns-clause-readable
returns-clause-readable c quiet ran kept =
    let h = c.handle_between.ensures.passes in
    let event : daemon.Event = c.args.event.now in
    let d : DaemonState = daemon_of c.args.session.now.daemon in
    let w : World = c.args.kernel.now in
    let o : DiskWorld = c.args.session.now.disk in
    let e : DaemonState = daemon_of c.handle_between.new.self in
    let p : DiskWorld = c.handle_between.new.disk in
    let came = event_fixed event d w o e c.handle_between.new.sysfs p (event_played event d w h.started o h.tried h.disk_tried h.tries h.became h.middle p h.answered h.answers h.resumed h.passes_on e c.handle_between.new.sysfs h.runs h.start h.begun_there h.passes) quiet ran kept in
    record {
      before = h.saveable;
      written = subst (λ (b : Stored). WritesEvent event d b) (event_became event d w h.started o h.tried h.disk_tried h.tries h.became h.middle p h.answered h.answers h.resumed h.passes_on e c.handle_between.new.sysfs h.runs h.start h.begun_there h.passes quiet ran kept) h.written;
      after = subst (λ (x : Played). IsSaveable x.daemon.sweep.judge.rules) came h.saveable_after;
    }

pub invariant_of-session : goal.invariant_of-session
invariant_of-session c =
    let h = c.handle_between.ensures.passes in
    let kept = keeps_folder Gives MemKeeps c.args.session.now.before h.tried c.args.event.now h.started h.disk_tried (daemon_of c.args.session.now.daemon) h.became h.middle c.handle_between.new.disk h.answered h.resumed (daemon_of c.handle_between.new.self) c.handle_between.new.sysfs h.answers h.runs h.written h.numbered h.numbered_after c.args.session.now.folder in
    record {
      file = event_files c.args.session.now.before c.args.event.now h.tried h.became (daemon_of c.args.session.now.daemon) c.args.session.now.disk (daemon_of c.handle_between.new.self) c.handle_between.new.disk h.file h.written h.saveable_after kept c.args.session.now.file;
      folder = kept.after;
    }
