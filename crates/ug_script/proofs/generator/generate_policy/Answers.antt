use Rattle.ug_lines.specs.Lines.{lines_of}
use Rattle.std.proofs.Common.{[], None}
use Rattle.ug_command_io.specs.Fold.{Going, plays, whole_text}
use Rattle.ug_script.specs.Generating.{generate_end, generate_step, generator_state}
use Rattle.ug_script.proofs.Skimmed.{faults_alone, first_policy}
use Rattle.ug_script.proofs.generator.generate_policy.Goals as goal

pub returns-clause-answers : goal.returns-clause-answers
returns-clause-answers g c = λ all base a b. (generator_state c.run-status.new.machine, rw c.new-generator.ensures at (c.run-status.ensures.answers all base a b))

pub returns-clause-policy : goal.returns-clause-policy
returns-clause-policy g c = λ all base a b e.
    let done = (rw c.new-generator.ensures at (c.run-status.ensures.answers all base a b)).done e in
    (whole_text generate_end (plays generate_step (Going 0 [] (None, c.args.kernel.now)) (lines_of all)), done.2, first_policy c.args.kernel.now (lines_of all) done.1)

pub returns-clause-alone : goal.returns-clause-alone
returns-clause-alone g c = λ all base a b.
    faults_alone c.args.kernel.now all base _ _ _ _ (rw c.new-generator.ensures at (c.run-status.ensures.answers all base a b))
