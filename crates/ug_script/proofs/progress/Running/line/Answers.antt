use Rattle.ug_steps.proofs.Readable.{line_asks}
use Rattle.ug_script.proofs.progress.Running.line.Goals as goal

pub take-requires : goal.take-requires
take-requires c = line_asks c.args.line.now c.in-Ok.step c.in-Ok.ensures
