use Rattle.ug_core.specs.Event.{daemon_of}
use Rattle.ug_script.specs.Script.{phase_of}
use Rattle.ug_script.proofs.Restarts.{restart_first}
use Rattle.ug_script.proofs.progress.Running.first_restart.Goals as goal

pub returns-in-Ok-clause-ran : goal.returns-in-Ok-clause-ran
returns-in-Ok-clause-ran c w held =
    rw c.replace.ensures.after (restart_first c.args.self.now.setup (phase_of c.args.self.now.phase) c.args.self.now.plan.items
    (daemon_of c.in-Ok.session.daemon) c.in-Ok.session.disk (daemon_of c.restart_session-ran.new.session.daemon) c.restart_session-ran.new.session.disk w held c.restart_session-ran.result
    c.requires c.in-Ok.ensures.fits c.in-Ok.ensures.daemon c.in-Ok.ensures.disk (c.restart_session-ran.ensures.ran c.args.self.now.plan.items w held))
