use Rattle.ug_script.proofs.generator.GeneratorMachineSimKernel.step.Goals as goal

pub returns-clause-ran : goal.returns-clause-ran
returns-clause-ran g c = c.skim.ensures.ran (g.K.Sink.held c.args._out.now)
