use Rattle.ug_command_io.proofs.WholeInputs.{answers}
use Rattle.ug_types.specs.Limits.{text_limit}
use Rattle.ug_commands.specs.Checking.{check_status}
use Rattle.ug_commands.specs.Linting.{IsOutput, TellsLintFault}
use Rattle.ug_commands.proofs.linting.lint_rules.Goals as goal

pub returns-clause-answers : goal.returns-clause-answers
returns-clause-answers g c = λ all base a b. answers check_status text_limit (IsOutput c.args.pruned) TellsLintFault (g.S.Source.left c.args.input.now) (g.S.Source.left c.lint_input.new.input) (g.K.Sink.held c.args.out.now) (g.K.Sink.held c.lint_input.new.out) c.lint_input.result
    c.lint_input.ensures.told all base a b c.status.result c.status.ensures
