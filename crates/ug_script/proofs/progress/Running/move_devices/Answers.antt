use Rattle.std.proofs.Common.{Some, subst, sym}
use Rattle.ug_command_io.specs.Runs.{Steps}
use Rattle.ug_sysfs.specs.declared.script.Move.{Move}
use Rattle.ug_script.specs.Generating.{devices_moved}
use Rattle.ug_script.specs.Replay.{quiet, script_of}
use Rattle.ug_script.specs.Script.{with_setup_closed}
use Rattle.ug_script.proofs.progress.Running.move_devices.Goals as goal

pub returns-in-Plug-clause-ran : goal.returns-in-Plug-clause-ran
returns-in-Plug-clause-ran c held =
    subst (λ (action : Move). Steps (quiet (with_setup_closed (script_of c.args.self.now)) (devices_moved action c.args.kernel.now)) (Some (script_of c.carry_out.new.self), c.carry_out.new.kernel) held held c.carry_out.result)
    (sym c.in-Plug.is)
    (c.carry_out.ensures.ran held)

pub returns-in-Unplug-clause-ran : goal.returns-in-Unplug-clause-ran
returns-in-Unplug-clause-ran c held =
    subst (λ (action : Move). Steps (quiet (with_setup_closed (script_of c.args.self.now)) (devices_moved action c.args.kernel.now)) (Some (script_of c.carry_out-in-Unplug.new.self), c.carry_out-in-Unplug.new.kernel) held held c.carry_out-in-Unplug.result)
    (sym c.in-Unplug.is)
    (c.carry_out-in-Unplug.ensures.ran held)
