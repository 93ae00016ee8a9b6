use Rattle.ug_script.proofs.progress.Running.skim_step.Goals as goal

pub returns-in-Move-clause-ran : goal.returns-in-Move-clause-ran
returns-in-Move-clause-ran c held = rw c.in-Move.is (c.move_devices.ensures.ran held)
