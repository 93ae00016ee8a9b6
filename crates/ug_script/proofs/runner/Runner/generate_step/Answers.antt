use Rattle.ug_script.proofs.runner.Runner.generate_step.Goals as goal

pub returns-in-Done-clause-taken : goal.returns-in-Done-clause-taken
returns-in-Done-clause-taken c held done = c.skim.ensures held
