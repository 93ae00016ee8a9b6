use Rattle.ug_script.specs.Replay.{interpreter_state}
use Rattle.ug_script.proofs.Against.{line_fault}
use Rattle.ug_script.proofs.interpreter.InterpreterMachineSimKernel.step.Goals as goal

pub returns-clause-why : goal.returns-clause-why
returns-clause-why g c = line_fault (interpreter_state c.args.self.now, c.args.world.now) c.args.line.now _ _ _ c.take.result c.take.ensures.ran c.take.ensures.why
