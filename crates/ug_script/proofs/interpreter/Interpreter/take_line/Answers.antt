use Rattle.std.proofs.Common.{[], Some}
use Rattle.ug_script.proofs.Takings.{silent_takes}
use Rattle.ug_script.proofs.interpreter.Interpreter.take_line.Goals as goal

pub returns-clause-ran : goal.returns-clause-ran
returns-clause-ran c = rw c.in_default.is (silent_takes _ _ _ c.take_header.result c.silently.result c.silently.ensures (c.take_header.ensures.ran c.args.kernel.now (Some [])))
