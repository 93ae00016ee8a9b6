use Rattle.ug_commands.specs.Checking.{check_status, TellsCount, TellsBadRules}
use Rattle.ug_types.specs.Limits.{text_limit}
use Rattle.ug_command_io.proofs.WholeInputs.{answers}
use Rattle.ug_commands.proofs.checking.check_rules.Goals as goal

pub returns-clause-answers : goal.returns-clause-answers
returns-clause-answers g c = λ all base a b. answers check_status text_limit TellsCount TellsBadRules (g.S.Source.left c.args.input.now) (g.S.Source.left c.check_input.new.input) (g.K.Sink.held c.args.out.now) (g.K.Sink.held c.check_input.new.out) c.check_input.result
    c.check_input.ensures.told all base a b c.status.result c.status.ensures
