use Rattle.std.proofs.Common.{◌≡◌, subst}
use Rattle.std.specs.Prelude.{IfOk}
use Rattle.clap.specs.Words.{App, app_of}
use Rattle.ug_arguments.proofs.SimpleApps.{of_table}
use Rattle.ug_arguments.proofs.simple.simple_command.Goals as goal

pub returns : goal.returns
returns c =
    subst (λ (app : App). IfOk c.command_taking.result (λ k. app_of k ≡ app))
    (of_table c.args.word c.name_of.result.now c.arguments_of.result.now c.name_of.ensures c.arguments_of.ensures) c.command_taking.ensures
