use Rattle.std.proofs.Common.{[], Option, Some}
use Rattle.ug_sysfs.specs.World.{World, carried}
use Rattle.ug_script.specs.Replay.{planned, quiet, script_of, with_plan}
use Rattle.ug_script.specs.Script.{Script, with_setup_closed}
use Rattle.ug_script.specs.Taking.{reported_in}
use Rattle.ug_script.proofs.Takings.{silent_takes}
use Rattle.ug_script.proofs.progress.Running.take.Goals as goal

pub returns-in-Setup-clause-ran : goal.returns-in-Setup-clause-ran
returns-in-Setup-clause-ran c = rw c.in-Setup.is (silent_takes _ _ _ c.set_up.result c.silently.result c.silently.ensures (c.set_up.ensures.ran c.args.kernel.now (Some [])))

pub returns-in-Move-clause-ran : goal.returns-in-Move-clause-ran
returns-in-Move-clause-ran c =
    let n = c.carry_out.new in
    rw c.in-Move.is (silent_takes {M = Option Script × World} (quiet (with_setup_closed (script_of c.args.self.now)) (carried c.in-Move.action c.args.kernel.now)) (Some (script_of n.self), n.kernel) (reported_in n.self.phase) c.carry_out.result c.silently-in-Move.result c.silently-in-Move.ensures (c.carry_out.ensures.ran (Some [])))

pub returns-in-Schedule-clause-ran : goal.returns-in-Schedule-clause-ran
returns-in-Schedule-clause-ran c =
    let n = c.schedule.new in
    let plan = c.in-Schedule.plan in
    rw c.in-Schedule.is (silent_takes {M = Option Script × World} (quiet (with_plan plan (with_setup_closed (script_of c.args.self.now))) (planned plan c.args.kernel.now)) (Some (script_of n.self), n.kernel) (reported_in n.self.phase) c.schedule.result c.silently-in-Schedule.result c.silently-in-Schedule.ensures (c.schedule.ensures.ran (Some [])))

pub returns-in-Restart-clause-ran : goal.returns-in-Restart-clause-ran
returns-in-Restart-clause-ran c = rw c.in-Restart.is (silent_takes _ _ _ c.restart.result c.silently-in-Restart.result c.silently-in-Restart.ensures (c.restart.ensures.ran c.args.kernel.now (Some [])))
