use Rattle.std.proofs.Common.{[], Some}
use Rattle.ug_core.specs.Event.{daemon_of}
use Rattle.ug_script.specs.Script.{phase_of}
use Rattle.ug_script.specs.Taking.{ran_of, reported, text_to_write}
use Rattle.ug_script.proofs.EventSteps.{first_numbers, first_reads, first_steps}
use Rattle.ug_script.proofs.progress.Running.first_event.Goals as goal

pub returns-in-Ok-clause-ran : goal.returns-in-Ok-clause-ran
returns-in-Ok-clause-ran c =
    let session = c.planned_event-ran.new.session in
    rw c.replace.ensures.after (first_steps c.args.event.now c.args.self.now.setup (phase_of c.args.self.now.phase) (daemon_of c.in-Ok.session.daemon) c.in-Ok.session.disk c.args.self.now.plan.items c.planned_event-ran.new.plan.items c.args.kernel.now (record { daemon = daemon_of session.daemon; world = c.planned_event-ran.new.kernel; disk = session.disk }) (Some []) (Some (text_to_write (reported session.daemon.report) c.planned_event-ran.result)) (ran_of c.planned_event-ran.result)
    c.requires.unstarted c.in-Ok.ensures.fits c.in-Ok.ensures.daemon c.in-Ok.ensures.disk c.planned_event-ran.ensures.planned c.planned_event-ran.ensures.ran)

pub returns-in-Ok-clause-numbers : goal.returns-in-Ok-clause-numbers
returns-in-Ok-clause-numbers c bad = first_numbers c.args.self.now.setup (phase_of c.args.self.now.phase) (daemon_of c.in-Ok.session.daemon) c.in-Ok.session.disk c.args.kernel.now c.requires.unstarted c.in-Ok.ensures.daemon c.in-Ok.ensures.disk (c.planned_event-ran.ensures.numbers bad)

pub returns-in-Ok-clause-readable : goal.returns-in-Ok-clause-readable
returns-in-Ok-clause-readable c done =
    first_reads c.args.event.now c.args.self.now.setup (phase_of c.args.self.now.phase) (daemon_of c.in-Ok.session.daemon) c.in-Ok.session.disk c.args.self.now.plan.items c.args.kernel.now c.requires.unstarted c.in-Ok.ensures.daemon c.in-Ok.ensures.disk c.in-Ok.ensures.saves (c.planned_event-ran.ensures.readable done)
