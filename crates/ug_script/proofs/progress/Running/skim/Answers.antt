use Rattle.ug_steps.proofs.Readable.{line_asks}
use Rattle.ug_script.proofs.progress.Running.skim.Goals as goal

pub skim_step-requires : goal.skim_step-requires
skim_step-requires c = line_asks c.args.line.now c.in-Ok.step c.in-Ok.ensures
